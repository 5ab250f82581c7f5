-- Orders that no worker took are handed in at the last seat.
use Rattle.std.proofs.Common.{◌≡◌, ℕ, ◌+◌, Bool, true, false, List, [], ◌∷◌, ◌++◌, All}
use Rattle.std.proofs.Common.{map, sum_by, refl, sym, ap, ◌∙◌, subst, arith}
use Rattle.std.specs.Prelude.{◌||◌}
use Rattle.std.proofs.lemmas.List.{map-append}
use Rattle.std.proofs.lemmas.List.Elements.{All-cons, All-head, All-nil, All-push, All-tail}
use Rattle.std.proofs.lemmas.List.Sums.{sum_by-append, sum_by_push}
use mathlib.Core.List.{nil≢cons, head-eq_of_cons-eq, tail-eq_of_cons-eq}
use Rattle.fl_counter.specs.Asked.{Orders}
use Rattle.fl_intake.specs.Often.{Weight}
use Rattle.fl_log.specs.Appended.{Appended}
use Rattle.fl_pool.specs.Working.{HaveDone, IsDone, Reading, Work, idle, some_is, standing_at}
use Rattle.fl_workers.specs.Worked.{HasWorked, Shows, Standing}
use Rattle.fl_workers.specs.declared.entry.ReplyEntry.{ReplyEntry}

abbrev Sent : Type 0
Sent = Appended ReplyEntry

or_assoc : (a b c : Bool) → (a || (b || c)) ≡ ((a || b) || c)
or_assoc true b c = refl
or_assoc false b c = refl

or_false : (b : Bool) → (b || false) ≡ b
or_false true = refl
or_false false = refl

some_push : (bs : List Bool) (b : Bool) → some_is (bs ++ b ∷ []) ≡ (some_is bs || b)
some_push [] b = or_false b
some_push (c ∷ bs) b = ap (λ x. c || x) (some_push bs b) ∙ or_assoc c (some_is bs) b

-- The last of a list and the others are those of another that is the same.
same_ends : {A : Type 0} (xs ys : List A) (x y : A) → xs ++ x ∷ [] ≡ ys ++ y ∷ [] → (xs ≡ ys) × (x ≡ y)
same_ends [] [] x y same = (refl, head-eq_of_cons-eq same)
same_ends [] (b ∷ []) x y same = absurd (nil≢cons (tail-eq_of_cons-eq same))
same_ends [] (b ∷ c ∷ ys) x y same = absurd (nil≢cons (tail-eq_of_cons-eq same))
same_ends (a ∷ []) [] x y same = absurd (nil≢cons (sym (tail-eq_of_cons-eq same)))
same_ends (a ∷ c ∷ xs) [] x y same = absurd (nil≢cons (sym (tail-eq_of_cons-eq same)))
same_ends (a ∷ xs) (b ∷ ys) x y same =
    let rest = same_ends xs ys x y (tail-eq_of_cons-eq same) in
    ((λ i. head-eq_of_cons-eq same i ∷ rest.0 i), rest.1)

pub All_front : {X : Type 0} (P : X → Type 0) (xs : List X) (x : X) → All P (xs ++ x ∷ []) → All P xs
All_front P [] x all = All-nil P
All_front P (y ∷ xs) x all =
    All-cons P y xs (All-head P y (xs ++ x ∷ []) all) (All_front P xs x (All-tail P y (xs ++ x ∷ []) all))

pub All_last : {X : Type 0} (P : X → Type 0) (xs : List X) (x : X) → All P (xs ++ x ∷ []) → P x
All_last P [] x all = All-head P x [] all
All_last P (y ∷ xs) x all = All_last P xs x (All-tail P y (xs ++ x ∷ []) all)

module _ {S : Type 0} where
  -- one more, behind the others
  some_more : (f : Work S → Bool) (works : List (Work S)) (work : Work S)
      → some_is (map f (works ++ work ∷ [])) ≡ (some_is (map f works) || f work)
  some_more f works work = ap some_is (map-append f works (work ∷ [])) ∙ some_push (map f works) (f work)

  first_and_last : (w : Work S) (works : List (Work S))
      → (first : List (Work S)) × (last : Work S) × (w ∷ works ≡ first ++ last ∷ [])
  first_and_last w [] = ([], w, refl)
  first_and_last w (v ∷ works) =
      let rest = first_and_last v works in (w ∷ rest.0, rest.1, ap (λ l. w ∷ l) rest.2)

  -- the last of these works is that of the last seat
  last_work : (works : List (Work S)) (front : List S) (place : S) (sent_front : List Sent) (gave : Sent)
      → map (λ (w : Work S). w.seat) works ≡ front ++ place ∷ []
      → map (λ (w : Work S). w.sent) works ≡ sent_front ++ gave ∷ []
      → (first : List (Work S)) × (last : Work S) × (works ≡ first ++ last ∷ []) × (map (λ (w : Work S). w.seat) first ≡ front)
      × (last.seat ≡ place) × (map (λ (w : Work S). w.sent) first ≡ sent_front) × (last.sent ≡ gave)
  last_work [] [] place sent_front gave at by = absurd (nil≢cons at)
  last_work [] (f ∷ front) place sent_front gave at by = absurd (nil≢cons at)
  last_work (w ∷ works) front place sent_front gave at by =
      let split = first_and_last w works in
      let place_of = λ (w : Work S). w.seat in
      let sent_of = λ (w : Work S). w.sent in
      let places = same_ends (map place_of split.0) front split.1.seat place
      (sym (map-append place_of split.0 (split.1 ∷ [])) ∙ sym (ap (map place_of) split.2) ∙ at) in
      let sent = same_ends (map sent_of split.0) sent_front split.1.sent gave
      (sym (map-append sent_of split.0 (split.1 ∷ [])) ∙ sym (ap (map sent_of) split.2) ∙ by) in
      (split.0, split.1, split.2, places.0, places.1, sent.0, sent.1)

  -- the last work, or what is one of it, is so, or more came
  some_last : (f : Work S → Bool) (works first : List (Work S)) (last now : Work S) (any more : Bool) → works ≡ first ++ last ∷ []
      → f now ≡ (f last || more) → any ≡ some_is (map f works) → (any || more) ≡ some_is (map f (first ++ now ∷ []))
  some_last f works first last now any more is changed so_far =
      ap (λ b. b || more) (so_far ∙ ap (λ l. some_is (map f l)) is ∙ some_more f first last)
      ∙ sym (or_assoc (some_is (map f first)) (f last) more)
      ∙ ap (λ b. some_is (map f first) || b) (sym changed)
      ∙ sym (some_more f first now)

abbrev pub InTurn : Shows → Type 0
InTurn shows = (xs ys : Orders) (a b c : Standing) (any more lost gone : Bool)
    → HasWorked shows xs a b any lost → HasWorked shows ys b c more gone
    → HasWorked shows (xs ++ ys) a c (any || more) (lost || gone)

-- these were handled at the last seat
pub rest_done : {S : Type 0} (r : Reading S) (shows : Shows) → InTurn shows → (orders : Weight → ℕ) (rest : Orders) (front places places_now : List S)
    (place place_now : S) (sent_front sent sent_now : List Sent) (gave gave_now : Sent) (any lost more gone : Bool)
    → HaveDone r shows orders places sent any lost → places ≡ front ++ place ∷ [] → places_now ≡ front ++ place_now ∷ []
    → sent ≡ sent_front ++ gave ∷ [] → sent_now ≡ sent_front ++ gave_now ∷ []
    → HasWorked shows rest (standing_at r place gave) (standing_at r place_now gave_now) more gone
    → HaveDone r shows (λ weight. orders weight + sum_by weight rest) places_now sent_now (any || more) (lost || gone)
rest_done {S} r shows in_turn orders rest front places places_now place place_now sent_front sent sent_now gave gave_now any
    lost more gone so_far was now had has did =
    let split = last_work so_far.works front place sent_front gave (so_far.at ∙ was) (so_far.gave ∙ had) in
    let first = split.0 in
    let last = split.1 in
    let each = subst (All (IsDone r shows)) split.2 so_far.each in
    let work : Work S = record {
      seat = place_now;
      sent = gave_now;
      orders = last.orders ++ rest;
      any = last.any || more;
      lost = last.lost || gone;
    } in
    let now_at = standing_at r place_now gave_now in
    let from : HasWorked shows rest (standing_at r last.seat last.sent) now_at more gone =
    subst (λ s. HasWorked shows rest s now_at more gone)
    (λ i. standing_at r (sym split.4 i) (sym split.6 i)) did in
    let same : r.worker last.seat ≡ r.worker place_now = ap r.worker split.4 ∙ sym did.worker in
    let worked = in_turn last.orders rest (idle (r.worker last.seat)) (standing_at r last.seat last.sent)
    now_at last.any more last.lost gone (All_last (IsDone r shows) first last each) from in record {
      works = first ++ work ∷ [];
      at = map-append (λ (w : Work S). w.seat) first (work ∷ []) ∙ ap (λ l. l ++ place_now ∷ []) split.3 ∙ sym now;
      gave = map-append (λ (w : Work S). w.sent) first (work ∷ []) ∙ ap (λ l. l ++ gave_now ∷ []) split.5 ∙ sym has;
      each = All-push (IsDone r shows) first work (All_front (IsDone r shows) first last each)
          (subst (λ n. HasWorked shows work.orders (idle n) now_at work.any work.lost) same worked);
      weighs = λ weight. omega (
        arith,
        so_far.weighs weight,
        ap (sum_by (λ (w : Work S). sum_by weight w.orders)) split.2,
        sum_by_push (λ (w : Work S). sum_by weight w.orders) first last,
        sum_by_push (λ (w : Work S). sum_by weight w.orders) first work,
        sum_by-append weight last.orders rest,
      );
      refused = some_last (λ (w : Work S). w.any) so_far.works first last work any more split.2 refl so_far.refused;
      missing = some_last (λ (w : Work S). w.lost) so_far.works first last work lost gone split.2 refl so_far.missing;
    }
