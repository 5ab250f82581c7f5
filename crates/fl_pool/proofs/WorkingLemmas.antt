-- What the workers of a session have done together.
use Rattle.std.proofs.Common.{◌≡◌, ℕ, ◌+◌, Bool, true, false, List, [], ◌∷◌, ◌++◌, All}
use Rattle.std.proofs.Common.{length, map, sum_by, refl, sym, ap, ◌∙◌, subst, arith, append_assoc}
use Rattle.std.proofs.Common.{append-nil, length-append}
use Rattle.std.specs.Prelude.{◌||◌}
use Rattle.std.proofs.lemmas.List.{map-append, nil_from_length}
use Rattle.std.proofs.lemmas.List.Elements.{All-head, All-nil, All-push, All-tail}
use Rattle.std.proofs.lemmas.List.Sums.{sum_by_push}
use Rattle.fl_intake.specs.Ends.{TakeSide, weight_taken}
use Rattle.fl_intake.specs.Often.{Weight}
use Rattle.fl_log.specs.Appended.{Appended}
use Rattle.fl_pool.specs.Working.{HasComeBack, HaveDone, IsDone, Reading, Work, idle, some_is, standing_at}
use Rattle.fl_workers.specs.Worked.{HasWorked, Shows}
use Rattle.fl_workers.specs.declared.entry.ReplyEntry.{ReplyEntry}

abbrev pub Sent : Type 0
Sent = Appended ReplyEntry

-- ---- whether one is so

or_assoc : (a b c : Bool) → (a || (b || c)) ≡ ((a || b) || c)
or_assoc true b c = refl
or_assoc false b c = refl

pub or_false : (b : Bool) → (b || false) ≡ b
or_false true = refl
or_false false = refl

some_push : (bs : List Bool) (b : Bool) → some_is (bs ++ b ∷ []) ≡ (some_is bs || b)
some_push [] b = or_false b
some_push (c ∷ bs) b = ap (λ x. c || x) (some_push bs b) ∙ or_assoc c (some_is bs) b

-- one more, behind the others
some_more : {S : Type 0} (f : Work S → Bool) (works : List (Work S)) (work : Work S)
    → some_is (map f (works ++ work ∷ [])) ≡ (some_is (map f works) || f work)
some_more f works work = ap some_is (map-append f works (work ∷ [])) ∙ some_push (map f works) (f work)

-- ---- workers that came back

-- no worker has come back yet
pub none_back : {S : Type 0} (r : Reading S) (shows : Shows) (ends : List TakeSide) (seats : List S) (sent : List Sent) (any lost : Bool)
    → ends ≡ [] → seats ≡ [] → sent ≡ [] → any ≡ false → lost ≡ false
    → HaveDone r shows (λ weight. sum_by weight [] + weight_taken weight ends) seats sent any lost
none_back r shows ends seats sent any lost no_end no_seat no_sent none whole = record {
  works = [];
  at = sym no_seat;
  gave = sym no_sent;
  each = All-nil (IsDone r shows);
  weighs = λ weight. ap (λ l. sum_by weight [] + weight_taken weight l) no_end;
  refused = none;
  missing = whole;
}

-- a worker that came back, with what its end took since it was fresh
work_of : {S : Type 0} (r : Reading S) (shows : Shows) (worker : ℕ) (end end_now : TakeSide) (seat : S) (gave : Sent) (any lost : Bool)
    → HasComeBack r shows worker end seat gave end_now any lost → end.taken ≡ []
    → (work : Work S) × (work.seat ≡ seat) × (work.sent ≡ gave) × (work.orders ≡ end_now.taken) × (work.any ≡ any)
    × (work.lost ≡ lost) × IsDone r shows work
work_of r shows worker end end_now seat gave any lost back fresh =
    let did = back.did in
    let whole = did.is ∙ ap (λ l. l ++ did.took) fresh in (
      record { seat = seat; sent = gave; orders = did.took; any = any; lost = lost },
      refl,
      refl,
      sym whole,
      refl,
      refl,
      subst (λ n. HasWorked shows did.took (idle n) (standing_at r seat gave) any lost) (sym back.whose)
          did.worked,
    )

-- one worker more came back
pub one_back : {S : Type 0} (r : Reading S) (shows : Shows) (others : Weight → ℕ) (ends ends_now : List TakeSide) (seats seats_now : List S)
    (sent sent_now : List Sent)
    (any any_now lost lost_now more gone : Bool) (worker : ℕ) (end end_now : TakeSide) (seat : S) (gave : Sent)
    → HaveDone r shows (λ weight. others weight + weight_taken weight ends) seats sent any lost → end.taken ≡ []
    → HasComeBack r shows worker end seat gave end_now more gone → ends_now ≡ ends ++ end_now ∷ []
    → seats_now ≡ seats ++ seat ∷ [] → sent_now ≡ sent ++ gave ∷ [] → any_now ≡ (any || more)
    → lost_now ≡ (lost || gone)
    → HaveDone r shows (λ weight. others weight + weight_taken weight ends_now) seats_now sent_now any_now lost_now
one_back r shows others ends ends_now seats seats_now sent sent_now any any_now lost lost_now more gone worker end end_now
    seat gave so_far fresh back is_end is_seat is_sent is_any is_lost =
    let it = work_of r shows worker end end_now seat gave more gone back fresh in
    let works = so_far.works in
    let work = it.0 in record {
      works = works ++ work ∷ [];
      at = map-append (λ (w : Work _). w.seat) works (work ∷ []) ∙ (λ i. so_far.at i ++ it.1 i ∷ []) ∙ sym is_seat;
      gave = map-append (λ (w : Work _). w.sent) works (work ∷ []) ∙ (λ i. so_far.gave i ++ it.2 i ∷ []) ∙ sym is_sent;
      each = All-push (IsDone r shows) works work so_far.each it.6;
      weighs = λ weight. omega (
        arith,
        ap (weight_taken weight) is_end,
        sum_by_push (λ (e : TakeSide). sum_by weight e.taken) ends end_now,
        ap (sum_by weight) it.3,
        so_far.weighs weight,
        sum_by_push (λ (w : Work _). sum_by weight w.orders) works work,
      );
      refused = is_any ∙ (λ i. so_far.refused i || sym it.4 i) ∙ sym (some_more (λ (w : Work _). w.any) works work);
      missing = is_lost ∙ (λ i. so_far.missing i || sym it.5 i) ∙ sym (some_more (λ (w : Work _). w.lost) works work);
    }

-- ---- lists that are gone through

-- what has a name goes from one list to another
pub moves : {X Y : Type 0} (f : X → ℕ) (g : Y → ℕ) (done done_now : List X) (x : X) (rest rest_now : List Y) (y : Y)
    (names : List ℕ) → map f done ++ map g rest ≡ names → done_now ≡ done ++ x ∷ [] → rest ≡ y ∷ rest_now → f x ≡ g y
    → map f done_now ++ map g rest_now ≡ names
moves f g done done_now x rest rest_now y names all is_done is_rest same =
    ap (λ l. map f l ++ map g rest_now) is_done
    ∙ ap (λ l. l ++ map g rest_now) (map-append f done (x ∷ []))
    ∙ append_assoc (map f done) (f x ∷ []) (map g rest_now)
    ∙ (λ i. map f done ++ same i ∷ map g rest_now)
    ∙ sym (ap (λ l. map f done ++ map g l) is_rest)
    ∙ all

-- nothing is left to go through
pub ended : {X Y : Type 0} (f : X → ℕ) (g : Y → ℕ) (done : List X) (rest : List Y) (names : List ℕ)
    → map f done ++ map g rest ≡ names → length rest ≡ 0 → map f done ≡ names
ended f g done rest names all none =
    sym (ap (λ l. map f done ++ map g l) (nil_from_length rest none) ∙ append-nil (map f done)) ∙ all

-- one more behind a list of which all are so
pub all_pushed : {X : Type 0} (P : X → Type 0) (xs ys : List X) (x : X) → ys ≡ xs ++ x ∷ [] → All P xs → P x → All P ys
all_pushed P xs ys x is all this = subst (All P) (sym is) (All-push P xs x all this)

-- one more came from a list
pub one_so_far : {X Y : Type 0} (done done_now : List X) (x : X) (rest rest_now : List Y) (y : Y) (all : ℕ)
    → length done + length rest ≡ all → done_now ≡ done ++ x ∷ [] → rest ≡ y ∷ rest_now
    → length done_now + length rest_now ≡ all
one_so_far done done_now x rest rest_now y all so_far is_done is_rest =
    omega (arith, so_far, ap length is_done ∙ length-append done (x ∷ []), ap length is_rest)

-- the first and the others of a list of which all are so
pub first_and_rest : {X : Type 0} (P : X → Type 0) (xs rest : List X) (x : X) → xs ≡ x ∷ rest → All P xs
    → P x × All P rest
first_and_rest P xs rest x is all =
    let both = subst (All P) is all in (All-head P x rest both, All-tail P x rest both)
