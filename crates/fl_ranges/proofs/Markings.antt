-- What a marking has at a spot after strokes.
use Rattle.std.proofs.Common.{◌≡◌, ℕ, zero, suc, ◌+◌, ◌-◌, Bool, true, false, cond, not, ◌&&◌, ◌==◌, nat_lt, nat_le}
use Rattle.std.proofs.Common.{Option, Some, None, List, [], ◌∷◌, refl}
use Rattle.std.proofs.Common.{ap, sym, ◌∙◌, arith}
use Rattle.std.proofs.lemmas.Bool.Decides.{nat_tests}
use Rattle.std.proofs.lemmas.Cmp.{on_total, then_total}
use Rattle.std.proofs.lemmas.Map.Lookups.{CmpEqualImpliesEq, exact_unsigned}
use Rattle.std.specs.declared.cmp.Ordering.{Ordering}
use Rattle.std.specs.declared.cmp.Ordering.TheVariants.{Less, Equal, Greater}
use Rattle.std.specs.Ordering.{nat_cmp, ordering_then, eq_by_cmp, is_eq}
use Rattle.std.specs.Cmp.{IsTotalOrder, eq_by_cmp_equiv, nat_cmp_total}
use Rattle.std.specs.FinMap.{get, retain_keys, get-insert, get-remove, get-retain_keys, get-empty}
use Rattle.fl_marks.specs.declared.lock.Class.{Class}
use Rattle.fl_marks.specs.declared.lock.Class.TheVariants.{Record, Flock}
use Rattle.fl_marks.specs.declared.lock.Key.{Key}
use Rattle.fl_marks.specs.declared.lock.Mark.{Mark}
use Rattle.fl_marks.specs.Runs.{without_node}
use Rattle.fl_marks.specs.Marking.{class_number, key_cmp, Spot, spot_cmp, Marking, Stroke, mark_spot, mark_bytes}
use Rattle.fl_marks.specs.Marking.{stroked, marking_of, covers, mark_at}

-- ---- the orders

pub keys_total : IsTotalOrder key_cmp
keys_total = then_total (on_total (λ (k : Key). class_number k.class) nat_cmp_total)
    (then_total (on_total (λ (k : Key). k.node) nat_cmp_total) (on_total (λ (k : Key). k.owner) nat_cmp_total))

pub spots_total : IsTotalOrder spot_cmp
spots_total = then_total (on_total (λ (s : Spot). s.0) keys_total) (on_total (λ (s : Spot). s.1) nat_cmp_total)

pub both_equal : (a b : Ordering) → ordering_then a b ≡ Equal → (a ≡ Equal) × (b ≡ Equal)
both_equal Less b e = absurd (cc e)
both_equal Equal b e = (refl, e)
both_equal Greater b e = absurd (cc e)

pub same_class : (a b : Class) → class_number a ≡ class_number b → a ≡ b
same_class Record Record e = refl
same_class Record Flock e = absurd (omega arith)
same_class Flock Record e = absurd (omega arith)
same_class Flock Flock e = refl

pub exact_keys : CmpEqualImpliesEq key_cmp
exact_keys a b e =
    let first = both_equal (nat_cmp (class_number a.class) (class_number b.class)) (ordering_then (nat_cmp a.node b.node) (nat_cmp a.owner b.owner)) e in
    let second = both_equal (nat_cmp a.node b.node) (nat_cmp a.owner b.owner) first.1 in
    let class = same_class a.class b.class (exact_unsigned _ _ first.0) in
    let node = exact_unsigned _ _ second.0 in
    let owner = exact_unsigned _ _ second.1 in
    λ i. record { class = class i; node = node i; owner = owner i }

pub exact_spots : CmpEqualImpliesEq spot_cmp
exact_spots a b e =
    let both = both_equal (key_cmp a.0 b.0) (nat_cmp a.1 b.1) e in
    let key = exact_keys a.0 b.0 both.0 in
    let byte = exact_unsigned _ _ both.1 in
    λ i. (key i, byte i)

-- ---- one spot

pub get-mark_spot : (spot : Spot) (mark : Option Mark) (m : Marking) (q : Spot) →
    get (mark_spot spot mark m) q ≡ cond (eq_by_cmp spot_cmp q spot) mark (get m q)
get-mark_spot spot None m q = get-remove spots_total m spot q
get-mark_spot spot (Some mark) m q = get-insert spots_total m spot mark q

-- ---- a row of bytes

is_eq-then : (a b : Ordering) → is_eq (ordering_then a b) ≡ (is_eq a && is_eq b)
is_eq-then Less b = refl
is_eq-then Equal b = refl
is_eq-then Greater b = refl

is_eq-nat_cmp : (x y : ℕ) → is_eq (nat_cmp x y) ≡ (x == y)
is_eq-nat_cmp x y = grind (arith, nat_tests)

-- whether a spot is one of so many bytes of the key, from the first on
among : Key → ℕ → ℕ → Spot → Bool
among key first count q = eq_by_cmp key_cmp key q.0 && (nat_le first q.1 && nat_lt q.1 (first + count))

marks_one_more : {A : Type 0} (k : Bool) (first count byte : ℕ) (x y : A)
    → cond (k && (byte == first + count)) x (cond (k && (nat_le first byte && nat_lt byte (first + count))) x y)
    ≡ cond (k && (nat_le first byte && nat_lt byte (first + suc count))) x y
marks_one_more false first count byte x y = refl
marks_one_more true first count byte x y = grind (arith, nat_tests)

marks_none : {A : Type 0} (k : Bool) (first byte : ℕ) (x y : A) → y ≡ cond (k && (nat_le first byte && nat_lt byte (first + 0))) x y
marks_none false first byte x y = refl
marks_none true first byte x y = grind (arith, nat_tests)

get-mark_bytes : (key : Key) (mark : Option Mark) (first count : ℕ) (m : Marking) (q : Spot) →
    get (mark_bytes key mark first count m) q ≡ cond (among key first count q) mark (get m q)
unfolding mark_bytes among
get-mark_bytes key mark first zero m q = marks_none (eq_by_cmp key_cmp key q.0) first q.1 mark (get m q)
get-mark_bytes key mark first (suc count) m q =
    let here = is_eq-then (key_cmp q.0 key) (nat_cmp q.1 (first + count))
    ∙ (λ i. (eq_by_cmp_equiv keys_total).symm q.0 key i && is_eq-nat_cmp q.1 (first + count) i) in
    get-mark_spot (key, first + count) mark (mark_bytes key mark first count m) q
    ∙ (λ i. cond (here i) mark (get-mark_bytes key mark first count m q i))
    ∙ marks_one_more (eq_by_cmp key_cmp key q.0) first count q.1 mark (get m q)

among-covers : (k : Bool) (start end byte : ℕ) →
    (k && (nat_le start byte && nat_lt byte (start + (end + 1 - start)))) ≡ (k && (nat_le start byte && nat_le byte end))
among-covers false start end byte = refl
among-covers true start end byte = grind (arith, nat_tests)

-- a stroke changes the spots that it covers, and no other
pub get-stroked : (s : Stroke) (m : Marking) (q : Spot) → get (stroked s m) q ≡ cond (covers s q) s.mark (get m q)
unfolding among
get-stroked s m q = get-mark_bytes s.key s.mark s.start (s.end + 1 - s.start) m q
    ∙ ap (λ b. cond b s.mark (get m q)) (among-covers (eq_by_cmp key_cmp s.key q.0) s.start s.end q.1)

-- a spot has what the last stroke says that covers it, and nothing if none does
pub get-marking_of : (strokes : List Stroke) (q : Spot) → get (marking_of strokes) q ≡ mark_at strokes q
get-marking_of [] q = get-empty spot_cmp q
get-marking_of (s ∷ earlier) q = get-stroked s (marking_of earlier) q ∙ ap (λ w. cond (covers s q) s.mark w) (get-marking_of earlier q)

-- a spot of a node that passes a test has what it had, and every other has no mark
pub get-kept_nodes : (m : Marking) (p : ℕ → Bool) (q : Spot) → get (retain_keys m (λ spot. p spot.0.node)) q ≡ cond (p q.0.node) (get m q) None
get-kept_nodes m p q = get-retain_keys m (λ (spot : Spot). p spot.0.node) q (λ x e. ap (λ (spot : Spot). p spot.0.node) (sym (exact_spots q x e)))

turned : {A : Type 0} (b : Bool) (x y : A) → cond (not b) x y ≡ cond b y x
turned true x y = refl
turned false x y = refl

-- without a node, its spots have no mark, and every other has what it had
pub get-without_node : (m : Marking) (node : ℕ) (q : Spot) → get (without_node node m) q ≡ cond (q.0.node == node) None (get m q)
get-without_node m node q = get-kept_nodes m (λ n. not (n == node)) q ∙ turned (q.0.node == node) (get m q) None
