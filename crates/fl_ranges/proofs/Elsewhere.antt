-- A change of locks leaves every conflict of other classes and nodes as it was.
use Rattle.std.proofs.Common.{◌≡◌, ℕ, Bool, true, false, cond, ◌&&◌, ◌==◌, None, Result, Ok, Err, OnOk, OnErr, refl, ap}
use Rattle.std.proofs.Common.{sym, ◌∙◌, subst, arith}
use Rattle.std.proofs.lemmas.Bool.Decides.{nat_tests}
use Rattle.std.specs.Ordering.{eq_by_cmp}
use Rattle.std.specs.FinMap.{get}
use Rattle.fl_marks.specs.declared.lock.Kind.{Kind}
use Rattle.fl_marks.specs.declared.lock.Key.{Key}
use Rattle.fl_marks.specs.Marking.{key_cmp, class_number, Spot, Marking, Stroke, covers, stroked}
use Rattle.fl_marks.specs.Conflict.{conflicts, IsConflict, SameElsewhere, SameOffNode}
use Rattle.fl_marks.specs.Runs.{without_node}
use Rattle.fl_ranges.specs.LockTable.{LockTable}
use Rattle.fl_ranges.proofs.Markings.{get-stroked, get-without_node}
use Rattle.fl_ranges.proofs.Spots.{same_key, within}
use Rattle.fl_ranges.proofs.ConflictWords.{conflict_words}

-- two tests that pass one with the other are one
pub same_test : (b c : Bool) → (b ≡ true → c ≡ true) → (c ≡ true → b ≡ true) → b ≡ c
same_test true c to from = sym (to refl)
same_test false true to from = from refl
same_test false false to from = refl

-- each spot of the key's class and node has one mark in both
abbrev IsSameFor : Key → Marking → Marking → Type 0
IsSameFor key m n = (q : Spot) → q.0.class ≡ key.class → q.0.node ≡ key.node → get n q ≡ get m q

carried : (m n : Marking) (key : Key) (start end : ℕ) (kind : Kind) → IsSameFor key m n → IsConflict m key start end kind → IsConflict n key start end kind
carried m n key start end kind same c = record {
  contender = c.contender;
  byte = c.byte;
  mark = c.mark;
  held = same (c.contender, c.byte) c.class c.node ∙ c.held;
  class = c.class;
  node = c.node;
  other = c.other;
  from = c.from;
  upto = c.upto;
  write = c.write;
}

same_conflicts : (m n : Marking) (key : Key) (start end : ℕ) (kind : Kind) → IsSameFor key m n → conflicts n key start end kind ≡ conflicts m key start end kind
same_conflicts m n key start end kind same =
    same_test _ _
    (λ h. (conflict_words m key start end kind).1
    (carried n m key start end kind (λ q class node. sym (same q class node)) ((conflict_words n key start end kind).0 h)))
    (λ h. (conflict_words n key start end kind).1 (carried m n key start end kind same ((conflict_words m key start end kind).0 h)))

-- ---- the changes

both : (a b c d : ℕ) → a ≡ b → c ≡ d → ((a == b) && (c == d)) ≡ true
both a b c d e f = grind (arith, nat_tests)

stroked_elsewhere : (s : Stroke) (m : Marking) → SameElsewhere s.key m (stroked s m)
stroked_elsewhere s m other start end kind apart = same_conflicts m (stroked s m) other start end kind same
  where
    bare : (q : Spot) → q.0.class ≡ other.class → q.0.node ≡ other.node → (t : Bool) → covers s q ≡ t → cond (covers s q) s.mark (get m q) ≡ get m q
    bare q class node true is =
        let w = within (eq_by_cmp key_cmp s.key q.0) s.start q.1 s.end is in
        let key : s.key ≡ q.0 = same_key s.key q.0 w.same in
        absurd (cc (sym apart ∙ both (class_number other.class) (class_number s.key.class) other.node s.key.node
        (ap class_number (sym class) ∙ sym (ap (λ (k : Key). class_number k.class) key)) (sym node ∙ sym (ap (λ (k : Key). k.node) key))))
    bare q class node false is = ap (λ t. cond t s.mark (get m q)) is

    same : IsSameFor other m (stroked s m)
    same q class node = get-stroked s m q ∙ bare q class node (covers s q) refl

pub without_off_node : (m : Marking) (node : ℕ) → SameOffNode node m (without_node node m)
without_off_node m node other start end kind apart = same_conflicts m (without_node node m) other start end kind same
  where
    same : IsSameFor other m (without_node node m)
    same q class on = get-without_node m node q ∙ ap (λ t. cond t None (get m q)) (ap (λ n. n == node) on ∙ apart)

-- ---- the calls of a table

pub off_node_with : (node : ℕ) (old new : LockTable) → new ≡ record old { marking = without_node node old.marking } → SameOffNode node old.marking new.marking
off_node_with node old new is =
    subst (SameOffNode node old.marking) (sym (ap (λ (t : LockTable). t.marking) is)) (without_off_node old.marking node)

pub elsewhere_with : (s : Stroke) (old new : LockTable) → new ≡ record old { marking = stroked s old.marking } → SameElsewhere s.key old.marking new.marking
elsewhere_with s old new is =
    subst (SameElsewhere s.key old.marking) (sym (ap (λ (t : LockTable). t.marking) is)) (stroked_elsewhere s old.marking)

-- a stroke that may be refused
pub elsewhere_either : {T E : Type 0} (r : Result T E) (s : Stroke) (old new : LockTable) → OnOk r (new ≡ record old { marking = stroked s old.marking }) →
    OnErr r (new ≡ old) → SameElsewhere s.key old.marking new.marking
elsewhere_either (Ok v) s old new ok err = elsewhere_with s old new ok
elsewhere_either (Err e) s old new ok err = λ other start end kind apart. ap (λ (t : LockTable). conflicts t.marking other start end kind) err
