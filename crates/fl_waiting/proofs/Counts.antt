-- What is kept beside the parked requests.
use Rattle.std.proofs.Common.{◌≡◌, ◌≢◌, ℕ, zero, suc, ◌+◌, ◌-◌, ◌%◌, ◌==◌, ◌≤◌, ◌<◌, ◌||◌, Bool, true, false, cond, inl}
use Rattle.std.proofs.Common.{inr, ◌⊎◌, List, [], ◌∷◌, ◌++◌, length, slice_index_or, get_or, set, get_or-set_same}
use Rattle.std.proofs.Common.{get_or-set_other, replicate, remove, refl, sym, ap, ◌∙◌, arith}
use Rattle.std.proofs.lemmas.Bool.{cases_eq}
use Rattle.std.proofs.lemmas.Bool.Decides.{nat_tests}
use Rattle.std.proofs.lemmas.List.{get_or-replicate}
use Rattle.std.specs.List.{AllByRecursion}
use Rattle.fl_waiting.specs.Inside.Counts.{AreUpTo, counts_in, how_many, AreCounted}
use Rattle.fl_waiting.specs.Waiting.{is_parked}
use Rattle.fl_waiting.specs.declared.parked.Request.{Request}

-- ---- the greatest unique

pub none_past : (unique greatest : ℕ) (parked : List Request) → AreUpTo greatest parked → greatest < unique → is_parked unique parked ≡ false
none_past u g [] all past = refl
none_past u g (r ∷ parked) all past = λ i. other r.unique all.0 i || none_past u g parked all.1 past i
  where
    other : (x : ℕ) → x ≤ g → (x == u) ≡ false
    other x e = grind (arith, nat_tests)

pub all_raised : (g h : ℕ) (parked : List Request) → g ≤ h → AreUpTo g parked → AreUpTo h parked
all_raised g h [] e all = tt
all_raised g h (r ∷ parked) e all = (let own = all.0 in omega arith, all_raised g h parked e all.1)

pub up_to_more : (g h : ℕ) (parked : List Request) (r : Request) → AreUpTo g parked → g ≤ h → r.unique ≤ h → AreUpTo h (parked ++ r ∷ [])
up_to_more g h [] r all e own = (own, tt)
up_to_more g h (a ∷ parked) r all e own = (let first = all.0 in omega arith, up_to_more g h parked r all.1 e own)

pub up_to_removed : (g : ℕ) (parked : List Request) (i : ℕ) → AreUpTo g parked → AreUpTo g (remove parked i)
up_to_removed g [] zero all = tt
up_to_removed g [] (suc i) all = tt
up_to_removed g (r ∷ parked) zero all = all.1
up_to_removed g (r ∷ parked) (suc i) all = (all.0, up_to_removed g parked i all.1)

-- ---- how many wait on the nodes of a remainder

here : (n b : ℕ) → n % 256 ≡ b → ◌≡◌ {A = ℕ} (cond (n % 256 == b) 1 0) 1
here n b e = ap {A = Bool} {B = ℕ} (λ t. cond t 1 0) (same (n % 256) b e)
  where
    same : (x y : ℕ) → x ≡ y → (x == y) ≡ true
    same x y f = grind (arith, nat_tests)

elsewhere : (n b : ℕ) → n % 256 ≢ b → ◌≡◌ {A = ℕ} (cond (n % 256 == b) 1 0) 0
elsewhere n b e = ap {A = Bool} {B = ℕ} (λ t. cond t 1 0) (differ (n % 256) b e)
  where
    differ : (x y : ℕ) → x ≢ y → (x == y) ≡ false
    differ x y f = grind (arith, nat_tests)

pub none_counted : AreCounted (replicate 256 0) []
none_counted = λ b h. get_or-replicate 256 b 0 0 h

at_most_one : (b : ℕ) (r : Request) → counts_in b r ≤ 1
at_most_one b r = go (r.node % 256 == b)
  where
    go : (t : Bool) → cond t 1 0 ≤ 1
    go true = omega arith
    go false = omega arith

sum_at_most : (x y n : ℕ) → x ≤ 1 → y ≤ n → x + y ≤ suc n
sum_at_most x y n e f = omega arith

counted_few : (b : ℕ) (parked : List Request) → how_many b parked ≤ length parked
counted_few b [] = omega arith
counted_few b (r ∷ parked) = sum_at_most (counts_in b r) (how_many b parked) (length parked) (at_most_one b r) (counted_few b parked)

how_many_more : (b : ℕ) (parked : List Request) (r : Request) → how_many b (parked ++ r ∷ []) ≡ how_many b parked + counts_in b r
how_many_more b [] r = omega arith
how_many_more b (a ∷ parked) r = let rest = how_many_more b parked r in omega arith

how_many_less : (b : ℕ) (parked : List Request) (i : ℕ) (r : Request) → i < length parked
    → how_many b (remove parked i) + counts_in b (get_or parked i r) ≡ how_many b parked
how_many_less b [] i r h = absurd (omega arith)
how_many_less b (a ∷ parked) zero r h = omega arith
how_many_less b (a ∷ parked) (suc i) r h = let rest = how_many_less b parked i r (omega arith) in omega arith

-- the count fits if few wait
pub count_fits : (counts : List ℕ) (parked : List Request) (b : ℕ) → AreCounted counts parked → b < 256 → slice_index_or counts b 0 ≤ length parked
count_fits counts parked b all h = let few = counted_few b parked in omega (arith, all b h)

pub counted_more : (counts : List ℕ) (parked : List Request) (r : Request) (b : ℕ) → length counts ≡ 256 → AreCounted counts parked → b ≡ r.node % 256 → b < 256
    → AreCounted (set counts b (slice_index_or counts b 0 + 1)) (parked ++ r ∷ [])
counted_more counts parked r b long all is below = λ k h. go k h (cases_eq k b) ∙ sym (how_many_more k parked r)
  where
    go : (k : ℕ) → k < 256 → (k ≡ b) ⊎ (k ≢ b) → slice_index_or (set counts b (slice_index_or counts b 0 + 1)) k 0 ≡ how_many k parked + counts_in k r
    go k h (inl same) =
        let one : counts_in k r ≡ 1 = here r.node k (sym is ∙ sym same) in
        let at : slice_index_or (set counts b (slice_index_or counts b 0 + 1)) k 0 ≡ slice_index_or counts b 0 + 1 = ap
        (λ j. slice_index_or (set counts b (slice_index_or counts b 0 + 1)) j 0) same
        ∙ get_or-set_same counts b (slice_index_or counts b 0 + 1) 0 (omega arith) in
        let own : slice_index_or counts b 0 ≡ how_many k parked = all b below ∙ ap (λ j. how_many j parked) (sym same) in
        omega arith
    go k h (inr other) =
        let none : counts_in k r ≡ 0 = elsewhere r.node k (λ e. other (sym e ∙ sym is)) in
        let at : slice_index_or (set counts b (slice_index_or counts b 0 + 1)) k 0 ≡ slice_index_or counts k 0 =
        get_or-set_other counts b k (slice_index_or counts b 0 + 1) 0 other in
        omega (arith, all k h)

removed_count : (counts : List ℕ) (parked : List Request) (i : ℕ) (r : Request) (k : ℕ) → AreCounted counts parked → k < 256 → i < length parked
    → get_or parked i r ≡ r → how_many k (remove parked i) + counts_in k r ≡ slice_index_or counts k 0
removed_count counts parked i r k all h there at =
    let whole = how_many_less k parked i r there in
    ap (λ x. how_many k (remove parked i) + counts_in k x) (sym at) ∙ whole ∙ sym (all k h)

-- a request that is taken out was counted
pub count_there : (counts : List ℕ) (parked : List Request) (i : ℕ) (r : Request) (b : ℕ) → AreCounted counts parked → b ≡ r.node % 256 → b < 256
    → i < length parked → get_or parked i r ≡ r → 1 ≤ slice_index_or counts b 0
count_there counts parked i r b all is below there at =
    let whole = removed_count counts parked i r b all below there at in
    let one : counts_in b r ≡ 1 = here r.node b (sym is) in
    omega arith

pub counted_less : (counts : List ℕ) (parked : List Request) (i : ℕ) (r : Request) (b : ℕ) → length counts ≡ 256 → AreCounted counts parked → b ≡ r.node % 256
    → b < 256 → i < length parked → get_or parked i r ≡ r
    → AreCounted (set counts b (slice_index_or counts b 0 - 1)) (remove parked i)
counted_less counts parked i r b long all is below there at = λ k h. go k h (cases_eq k b)
  where
    go : (k : ℕ) → k < 256 → (k ≡ b) ⊎ (k ≢ b) → slice_index_or (set counts b (slice_index_or counts b 0 - 1)) k 0 ≡ how_many k (remove parked i)
    go k h (inl same) =
        let one : counts_in k r ≡ 1 = here r.node k (sym is ∙ sym same) in
        let whole = removed_count counts parked i r k all h there at in
        let alike : slice_index_or counts b 0 ≡ slice_index_or counts k 0 = ap (λ j. slice_index_or counts j 0) (sym same) in
        let now : slice_index_or (set counts b (slice_index_or counts b 0 - 1)) k 0 ≡ slice_index_or counts b 0 - 1 = ap
        (λ j. slice_index_or (set counts b (slice_index_or counts b 0 - 1)) j 0) same
        ∙ get_or-set_same counts b (slice_index_or counts b 0 - 1) 0 (omega arith) in
        omega arith
    go k h (inr other) =
        let none : counts_in k r ≡ 0 = elsewhere r.node k (λ e. other (sym e ∙ sym is)) in
        let whole = removed_count counts parked i r k all h there at in
        let now : slice_index_or (set counts b (slice_index_or counts b 0 - 1)) k 0 ≡ slice_index_or counts k 0 =
        get_or-set_other counts b k (slice_index_or counts b 0 - 1) 0 other in
        omega arith

positive : (x y : ℕ) → x ≡ 1 → x + y ≡ 0 → ⊥
positive x y e f = omega arith

left_none : (x y : ℕ) → x + y ≡ 0 → y ≡ 0
left_none x y e = omega arith

-- none waits on a node whose remainder counts none
pub none_on : (node b : ℕ) (parked : List Request) → b ≡ node % 256 → how_many b parked ≡ 0 → AllByRecursion (λ (r : Request). (r.node == node) ≡ false) parked
none_on node b [] is e = tt
none_on node b (r ∷ parked) is e = (go (r.node == node) refl, none_on node b parked is (left_none (counts_in b r) (how_many b parked) e))
  where
    equals : (x y : ℕ) → (x == y) ≡ true → x ≡ y
    equals x y f = grind (arith, nat_tests)

    go : (t : Bool) → (r.node == node) ≡ t → t ≡ false
    go false f = refl
    go true f =
        let one : counts_in b r ≡ 1 = here r.node b (ap (λ n. n % 256) (equals r.node node f) ∙ sym is) in
        absurd (positive (counts_in b r) (how_many b parked) one e)
