-- Locks that are wanted, and who keeps them from being set.
use Rattle.std.proofs.Common.{◌≡◌, ◌↔◌, ℕ, Bool, true, false, cond, not, ◌&&◌, ◌||◌, ◌==◌, nat_le, Option, Some, None}
use Rattle.std.proofs.Common.{option_map, List, [], ◌∷◌, length, inl, inr, ◌⊎◌, ⊎_elim, refl, sym, ap, ◌∙◌, subst}
use Rattle.std.proofs.Common.{arith}
use Rattle.std.proofs.lemmas.Bool.Decides.{nat_tests}
use Rattle.std.specs.List.{list_any}
use Rattle.std.specs.FinMap.{entries}
use Rattle.fl_marks.specs.declared.lock.Class.TheVariants.{Record, Flock}
use Rattle.fl_marks.specs.declared.lock.Key.{Key}
use Rattle.fl_marks.specs.declared.lock.Kind.{Kind}
use Rattle.fl_marks.specs.declared.lock.Mark.{Mark}
use Rattle.fl_marks.specs.Marking.{Marking, Spot, class_number}
use Rattle.fl_marks.specs.Conflict.{kinds_conflict, mark_conflicts_by, mark_conflicts}
use Rattle.fl_waiting.specs.Circle.{leads, IsCircle, Waiter, waiter_of, behind, waiters, is_record, blocks}
use Rattle.fl_waiting.specs.Circle.{closes_circle, is_deadlock, ClosesCircle}
use Rattle.fl_waiting.specs.LockRequest.{is_flock, key_of, start_of, end_of, mark_of, stroke_of}
use Rattle.fl_waiting.specs.Waiting.{Wish, owner_of, wish_on, wish_of, wishes, older_blocks, is_blocked_by, anyone}
use Rattle.fl_waiting.specs.Waiting.{only}
use Rattle.fl_waiting.specs.declared.parked.Request.{Request}
use Rattle.fl_waiting.specs.declared.rules.Rules.{Rules}
use Rattle.fl_circle.proofs.Circles.{circle_words}

-- ---- nobody is kept waiting by his own locks

never : (x y : ℕ) (a b c : Bool) → ((x == y) && ((a && (b && not (y == x))) && c)) ≡ false
never x y true true true = grind (arith, nat_tests)
never x y true true false = grind (arith, nat_tests)
never x y true false c = none (x == y)
  where
    none : (t : Bool) → (t && false) ≡ false
    none true = refl
    none false = refl
never x y false b c = none (x == y)
  where
    none : (t : Bool) → (t && false) ≡ false
    none true = refl
    none false = refl

never_own : (es : List (Spot × Mark)) (key : Key) (start end : ℕ) (kind : Kind) → list_any (mark_conflicts_by key start end kind key.owner) es ≡ false
never_own [] key start end kind = refl
never_own (e ∷ es) key start end kind =
    λ i. never e.0.0.owner key.owner (class_number key.class == class_number e.0.0.class) (key.node == e.0.0.node)
    ((nat_le start e.0.1 && nat_le e.0.1 end) && kinds_conflict kind e.1.kind) i || never_own es key start end kind i

and_false : (b c : Bool) → c ≡ false → (b && c) ≡ false
and_false true c e = e
and_false false c e = refl

never_older : (older : List Wish) (w : Wish) → list_any (λ (v : Wish). (owner_of v == owner_of w) && older_blocks w v) older ≡ false
never_older [] w = refl
never_older (v ∷ older) w =
    λ i. never (owner_of v) (owner_of w) (class_number w.key.class == class_number v.key.class) (w.key.node == v.key.node)
    ((nat_le v.start w.end && nat_le w.start v.end) && kinds_conflict w.kind v.kind) i || never_older older w i

neither : (fair : Bool) → (false || (fair && false)) ≡ false
neither true = refl
neither false = refl

pub blocks_not_itself : (rules : Rules) (m : Marking) (w : Waiter) → blocks rules m w (waiter_of w) ≡ false
blocks_not_itself rules m w =
    let k = w.wish in
    and_false (is_record k.key.class) _ ((λ i. never_own (entries m) k.key k.start k.end k.kind i || (rules.fair && never_older w.older k i)) ∙ neither rules.fair)

pub closes_words : (rules : Rules) (m : Marking) (parked : List Request) (w : Wish)
    → (closes_circle rules m parked w ≡ true) ↔ IsCircle waiter_of (blocks rules m) (waiters parked) (behind (wishes parked) w)
closes_words rules m parked w =
    circle_words waiter_of (blocks rules m) (waiters parked) (behind (wishes parked) w) (blocks_not_itself rules m (behind (wishes parked) w))

-- ---- a lock waits if an owner keeps it waiting

same_owner : (x : ℕ) (b : Bool) → b ≡ true → ((x == x) && b) ≡ true
same_owner x true e = grind (arith, nat_tests)
same_owner x false e = absurd (cc e)

second : (b c : Bool) → c ≡ true → (b || c) ≡ true
second true c e = refl
second false c e = e

first : (b c : Bool) → b ≡ true → (b || c) ≡ true
first true c e = refl
first false c e = absurd (cc e)

-- of things that have owners, one that passes a test has one
some_owner : {A : Type 0} (of : A → ℕ) (test : A → Bool) (xs : List A) → list_any test xs ≡ true
    → (owner : ℕ) × (list_any (λ (x : A). (of x == owner) && test x) xs ≡ true)
some_owner of test [] h = absurd (cc h)
some_owner {A} of test (x ∷ xs) h = go (test x) refl h (some_owner of test xs)
  where
    go : (b : Bool) → test x ≡ b → (b || list_any test xs) ≡ true
        → (list_any test xs ≡ true → (owner : ℕ) × (list_any (λ (y : A). (of y == owner) && test y) xs ≡ true))
        → (owner : ℕ) × (list_any (λ (y : A). (of y == owner) && test y) (x ∷ xs) ≡ true)
    go true e h rest = (of x, ap (λ b. b || list_any (λ (y : A). (of y == of x) && test y) xs) (same_owner (of x) _ e))
    go false e h rest = let t = rest h in (t.0, second _ _ t.1)

whoever : {A : Type 0} (of : A → ℕ) (test : A → Bool) (owner : ℕ) (xs : List A) → list_any (λ (x : A). (of x == owner) && test x) xs ≡ true
    → list_any test xs ≡ true
whoever of test owner [] h = absurd (cc h)
whoever of test owner (x ∷ xs) h = go (of x == owner) (test x) h (whoever of test owner xs)
  where
    go : (a b : Bool) {r s : Bool} → ((a && b) || r) ≡ true → (r ≡ true → s ≡ true) → (b || s) ≡ true
    go true true h rest = refl
    go true false h rest = rest h
    go false true h rest = refl
    go false false h rest = rest h

by_either : (a f b : Bool) → (a || (f && b)) ≡ true → (a ≡ true) ⊎ ((f ≡ true) × (b ≡ true))
by_either true f b h = inl refl
by_either false true b h = inr (refl, h)
by_either false false b h = absurd (cc h)

and_true : (f b : Bool) → f ≡ true → b ≡ true → (f && b) ≡ true
and_true true b e h = h
and_true false b e h = absurd (cc e)

owner_of_spot : Spot × Mark → ℕ
owner_of_spot e = e.0.0.owner

pub waits_for_someone : (rules : Rules) (m : Marking) (older : List Wish) (w : Wish)
    → (is_blocked_by rules anyone m older w ≡ true) ↔ ((owner : ℕ) × (is_blocked_by rules (only owner) m older w ≡ true))
unfolding owner_of_spot
waits_for_someone rules m older w = (
  λ h. ⊎_elim (λ a. let t = some_owner owner_of_spot held (entries m) a in (t.0, first _ _ t.1))
      (λ b. let t = some_owner owner_of (older_blocks w) older b.1 in (t.0, second _ _ (and_true rules.fair _ b.0 t.1)))
      (by_either (list_any held (entries m)) rules.fair (list_any (older_blocks w) older) h),
  λ t. ⊎_elim (λ a. first _ _ (whoever owner_of_spot held t.0 (entries m) a))
      (λ b. second _ _ (and_true rules.fair _ b.0 (whoever owner_of (older_blocks w) t.0 older b.1)))
      (by_either (list_any (λ e. (owner_of_spot e == t.0) && held e) (entries m)) rules.fair
      (list_any (λ (v : Wish). (owner_of v == t.0) && older_blocks w v) older) t.1),
)
  where
    held : Spot × Mark → Bool
    held = mark_conflicts w.key w.start w.end w.kind

-- ---- whole-file locks have no part in circles

only_false : (b : Bool) → (b ≡ true → ⊥) → b ≡ false
only_false true f = absurd (f refl)
only_false false f = refl

pub flock_closes_none : (rules : Rules) (m : Marking) (parked : List Request) (w : Wish) → w.key.class ≡ Flock → closes_circle rules m parked w ≡ false
flock_closes_none rules m parked w flock = only_false _ (λ h.
    let c = (closes_words rules m parked w).0 h in
    cc (sym c.blocked ∙ ap (λ k. is_record k && is_blocked_by rules (only c.first) m (wishes parked) w) flock))

pub empty_closes_none : (rules : Rules) (m : Marking) (parked : List Request) (w : Wish) → length parked ≡ 0 → closes_circle rules m parked w ≡ false
unfolding leads
empty_closes_none rules m [] w e = blocks_not_itself rules m (behind [] w)
empty_closes_none rules m (r ∷ parked) w e = absurd (omega arith)

-- ---- a request that would close a circle

deadlock_is : (rules : Rules) (m : Marking) (parked : List Request) (r : Request) (flock : Bool) → is_flock r.ask ≡ flock → (mark : Option Mark) → mark_of r.ask ≡ mark
    → (is_deadlock rules m parked (stroke_of r.node r.ask) mark ≡ true) ↔ ClosesCircle rules m parked r
deadlock_is rules m parked r flock f None e = (
  λ h. absurd (cc h),
  λ c.
      let nothing : wish_of r ≡ None = ap
      (λ (k : Option Mark). cond (is_flock r.ask) None
      (option_map (λ (mark : Mark). record { key = key_of r.node r.ask; start = start_of r.ask; end = end_of r.ask; kind = mark.kind })
      k)) e ∙ either (is_flock r.ask) in
      absurd (cc (sym nothing ∙ c.wants)),
)
  where
    either : (b : Bool) → ◌≡◌ {A = Option Wish} (cond b None None) None
    either true = refl
    either false = refl
deadlock_is rules m parked r true f (Some mark) e = (
  λ h. absurd (cc (sym h ∙ flock_closes_none rules m parked (wish_on (stroke_of r.node r.ask) mark) (ap (λ b. cond b Flock Record) f))),
  λ c. absurd (cc (sym c.wants ∙ ap
      (λ b. cond b None (option_map (λ (k : Mark). record { key = key_of r.node r.ask; start = start_of r.ask; end = end_of r.ask; kind = k.kind })
      (mark_of r.ask))) f)),
)
deadlock_is rules m parked r false f (Some mark) e =
    let wanted : wish_of r ≡ Some (wish_on (stroke_of r.node r.ask) mark) = λ i. cond (f i) None
    (option_map (λ (k : Mark). record { key = key_of r.node r.ask; start = start_of r.ask; end = end_of r.ask; kind = k.kind }) (e i)) in
    let words = closes_words rules m parked (wish_on (stroke_of r.node r.ask) mark) in (
      λ h. record { wish = wish_on (stroke_of r.node r.ask) mark; wants = wanted; circle = words.0 h },
      λ c. words.1 (subst (λ (k : Wish). IsCircle waiter_of (blocks rules m) (waiters parked) (behind (wishes parked) k))
          (same c.wish (wish_on (stroke_of r.node r.ask) mark) (sym c.wants ∙ wanted)) c.circle),
    )
  where
    same : (x y : Wish) → ◌≡◌ {A = Option Wish} (Some x) (Some y) → x ≡ y
    same x y e = cc e

pub deadlock_words : (rules : Rules) (m : Marking) (parked : List Request) (r : Request)
    → (is_deadlock rules m parked (stroke_of r.node r.ask) (mark_of r.ask) ≡ true) ↔ ClosesCircle rules m parked r
deadlock_words rules m parked r = deadlock_is rules m parked r (is_flock r.ask) refl (mark_of r.ask) refl
