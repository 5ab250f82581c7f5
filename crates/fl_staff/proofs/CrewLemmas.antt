-- What each worker gets.
use Rattle.std.proofs.Common.{◌≡◌, ℕ, ◌+◌, List, [], ◌∷◌, ◌++◌, All, length, map, refl, sym, ap, ◌∙◌, subst, append_assoc}
use Rattle.std.proofs.lemmas.List.{length-map, map-append}
use Rattle.std.proofs.lemmas.List.Elements.{All-head, All-nil, All-push, All-tail}
use Rattle.std.proofs.lemmas.List.FromFn.{length-range_with_len}
use Rattle.std.specs.List.{range_with_len}
use mathlib.Core.List.{head-eq_of_cons-eq, tail-eq_of_cons-eq}
use Rattle.fl_log.specs.Appended.{unused}
use Rattle.fl_pool.specs.Working.{IsIdle, Reading}
use Rattle.fl_staff.specs.Served.{IsUnused}
use Rattle.fl_log.specs.Appended.{Appended}
use Rattle.fl_workers.specs.declared.entry.ReplyEntry.{ReplyEntry}

-- there is a seat for each worker
pub as_many : {S : Type 0} (worker_of : S → ℕ) (seats : List S) (workers : ℕ) → map worker_of seats ≡ range_with_len 0 workers
    → length seats ≡ workers
as_many worker_of seats workers each =
    sym (length-map seats worker_of) ∙ ap length each ∙ length-range_with_len 0 workers

-- the workers of posts are those of their seats
pub workers_of : {X S : Type 0} (worker_of : S → ℕ) (seat_of : X → S) (posts : List X) (seats : List S)
    → map seat_of posts ≡ seats → map (λ (x : X). worker_of (seat_of x)) posts ≡ map worker_of seats
workers_of worker_of seat_of posts seats is = go posts ∙ ap (map worker_of) is
  where
    go : (xs : List _) → map (λ x. worker_of (seat_of x)) xs ≡ map worker_of (map seat_of xs)
    go [] = refl
    go (x ∷ xs) = ap (λ l. worker_of (seat_of x) ∷ l) (go xs)

-- nothing was done at a fresh seat, with a fresh appender in its worker's name
pub idle_at : {S : Type 0} (r : Reading S) (seat : S) (sent : Appended ReplyEntry) → IsUnused r seat
    → sent ≡ unused (r.worker seat) → IsIdle r seat sent
idle_at r seat sent fresh is = λ i. record {
  worker = r.worker seat;
  count = fresh.0 i;
  answered = fresh.1 i;
  front = fresh.2 i;
  stored = fresh.3 i;
  sent = is i;
}

-- the first of these seats is this worker's, and the others are those of the next ones
pub next_number : {S : Type 0} (worker_of : S → ℕ) (seat : S) (seats rest : List S) (number : ℕ) → seats ≡ seat ∷ rest
    → map worker_of seats ≡ range_with_len number (length seats)
    → (worker_of seat ≡ number) × (map worker_of rest ≡ range_with_len (number + 1) (length rest))
next_number worker_of seat seats rest number is whose =
    let both : map worker_of (seat ∷ rest) ≡ range_with_len number (length (seat ∷ rest)) =
    subst (λ l. map worker_of l ≡ range_with_len number (length l)) is whose in
    (head-eq_of_cons-eq both, tail-eq_of_cons-eq both)

-- a seat goes from those that are left to the posts
pub seats_move : {X S : Type 0} (seat_of : X → S) (done done_now : List X) (x : X) (rest rest_now : List S) (seat : S)
    (seats : List S) → map seat_of done ++ rest ≡ seats → done_now ≡ done ++ x ∷ [] → rest ≡ seat ∷ rest_now
    → seat_of x ≡ seat → map seat_of done_now ++ rest_now ≡ seats
seats_move seat_of done done_now x rest rest_now seat seats all is_done is_rest same =
    ap (λ l. map seat_of l ++ rest_now) is_done
    ∙ ap (λ l. l ++ rest_now) (map-append seat_of done (x ∷ []))
    ∙ append_assoc (map seat_of done) (seat_of x ∷ []) rest_now
    ∙ (λ i. map seat_of done ++ same i ∷ rest_now)
    ∙ sym (ap (λ l. map seat_of done ++ l) is_rest)
    ∙ all

-- one more behind a list of which all are so
pub all_pushed : {X : Type 0} (P : X → Type 0) (xs ys : List X) (x : X) → ys ≡ xs ++ x ∷ [] → All P xs → P x → All P ys
all_pushed P xs ys x is all this = subst (All P) (sym is) (All-push P xs x all this)

-- the first and the others of a list of which all are so
pub first_and_rest : {X : Type 0} (P : X → Type 0) (xs rest : List X) (x : X) → xs ≡ x ∷ rest → All P xs → P x × All P rest
first_and_rest P xs rest x is all = let both = subst (All P) is all in (All-head P x rest both, All-tail P x rest both)

-- all of no values are so
pub all_of_none : {X : Type 0} (P : X → Type 0) (xs : List X) → xs ≡ [] → All P xs
all_of_none P xs none = subst (All P) (sym none) (All-nil P)
