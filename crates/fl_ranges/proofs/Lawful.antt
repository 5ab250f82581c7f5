-- No two owners hold conflicting locks: a stroke keeps that if it was tested for conflicts.
use Rattle.std.proofs.Common.{◌≡◌, ℕ, Bool, true, false, cond, not, ◌&&◌, ◌==◌, nat_le, Option, Some, None, Result, Ok}
use Rattle.std.proofs.Common.{Err, OnOk, OnErr, refl, ap, sym, ◌∙◌}
use Rattle.std.proofs.Common.{subst, arith}
use Rattle.std.proofs.lemmas.Bool.Decides.{nat_tests}
use Rattle.std.specs.Ordering.{eq_by_cmp}
use Rattle.std.specs.FinMap.{get, empty, get-empty}
use Rattle.std.proofs.lemmas.Bool.{false_from_ne_true}
use Rattle.fl_marks.specs.declared.lock.Kind.{Kind}
use Rattle.fl_marks.specs.declared.lock.Kind.TheVariants.{Read, Write}
use Rattle.fl_marks.specs.declared.lock.Key.{Key}
use Rattle.fl_marks.specs.declared.lock.Mark.{Mark}
use Rattle.fl_marks.specs.Marking.{key_cmp, class_number, spot_cmp, Marking, Stroke, covers, stroked}
use Rattle.fl_marks.specs.Conflict.{are_of_two_owners, kinds_conflict, mark_conflicts, conflicts, IsLawful}
use Rattle.fl_marks.specs.Runs.{without_node}
use Rattle.fl_ranges.specs.LockTable.{LockTable}
use Rattle.fl_ranges.proofs.Markings.{spots_total, exact_spots, get-stroked, get-without_node}
use Rattle.fl_ranges.proofs.Spots.{same_key, within}
use Rattle.fl_ranges.proofs.Entries.{entry_passes}

pub lawful_empty : IsLawful empty
lawful_empty a b byte x y at_a at_b contenders = absurd (cc (sym (get-empty spot_cmp (a, byte)) ∙ at_a))

kinds_conflict_both_ways : (a b : Kind) → kinds_conflict a b ≡ kinds_conflict b a
kinds_conflict_both_ways Read Read = refl
kinds_conflict_both_ways Read Write = refl
kinds_conflict_both_ways Write Read = refl
kinds_conflict_both_ways Write Write = refl

same_number_both_ways : (x y : ℕ) → (x == y) ≡ (y == x)
same_number_both_ways x y = grind (arith, nat_tests)

contenders_both_ways : (a b : Key) → are_of_two_owners a b ≡ are_of_two_owners b a
contenders_both_ways a b =
    λ i. same_number_both_ways (class_number a.class) (class_number b.class) i
    && (same_number_both_ways a.node b.node i && not (same_number_both_ways a.owner b.owner i))

not_own_contender : (c n : Bool) (owner : ℕ) → (c && (n && not (owner == owner))) ≡ true → ⊥
not_own_contender true true owner e = absurd (grind (arith, nat_tests))
not_own_contender true false owner e = absurd (cc e)
not_own_contender false n owner e = absurd (cc e)

all_true : (r c x : Bool) → r ≡ true → c ≡ true → x ≡ true → (r && (c && x)) ≡ true
all_true true true true p q s = refl
all_true false c x p q s = absurd (cc p)
all_true true false x p q s = absurd (cc q)
all_true true true false p q s = absurd (cc s)

in_range : (k c : Bool) → (k && c) ≡ true → c ≡ true
in_range true c e = e
in_range false c e = absurd (cc e)

module _ (m : Marking) (s : Stroke) where
  -- another owner's mark in the range doesn't conflict with the new one
  spared : (a b : Key) (byte : ℕ) (x y : Mark) → (conflicts m s.key s.start s.end x.kind ≡ false) → covers s (a, byte) ≡ true → get m (b, byte) ≡ Some y →
      are_of_two_owners a b ≡ true → kinds_conflict x.kind y.kind ≡ false
  spared a b byte x y clear covered held contenders = false_from_ne_true (kinds_conflict x.kind y.kind) (λ conflict.
      let w = within (eq_by_cmp key_cmp s.key a) s.start byte s.end covered in
      let same : s.key ≡ a = same_key s.key a w.same in
      let test : mark_conflicts s.key s.start s.end x.kind ((b, byte), y) ≡ true =
      all_true (are_of_two_owners s.key b) (nat_le s.start byte && nat_le byte s.end) (kinds_conflict x.kind y.kind) (ap (λ (k : Key). are_of_two_owners k b) same ∙ contenders)
      (in_range (eq_by_cmp key_cmp s.key a) _ covered) conflict in
      cc (sym clear ∙ entry_passes spots_total exact_spots (mark_conflicts s.key s.start s.end x.kind) m (b, byte) y held test))

  pub lawful_stroked : ((mark : Mark) → s.mark ≡ Some mark → conflicts m s.key s.start s.end mark.kind ≡ false) → IsLawful m → IsLawful (stroked s m)
  lawful_stroked clear lawful a b byte x y at_a at_b contenders =
      go (covers s (a, byte)) (covers s (b, byte)) refl refl (sym (get-stroked s m (a, byte)) ∙ at_a) (sym (get-stroked s m (b, byte)) ∙ at_b)
    where
      go : (t u : Bool) → covers s (a, byte) ≡ t → covers s (b, byte) ≡ u → cond (covers s (a, byte)) s.mark (get m (a, byte)) ≡ Some x →
          cond (covers s (b, byte)) s.mark (get m (b, byte)) ≡ Some y → kinds_conflict x.kind y.kind ≡ false
      go true true p q h k =
          let w = within (eq_by_cmp key_cmp s.key a) s.start byte s.end p in
          let v = within (eq_by_cmp key_cmp s.key b) s.start byte s.end q in
          let same : b ≡ a = sym (same_key s.key b v.same) ∙ same_key s.key a w.same in
          absurd (not_own_contender _ _ a.owner (sym (ap (are_of_two_owners a) same) ∙ contenders))
      go true false p q h k =
          spared a b byte x y (clear x (sym (ap (λ t. cond t s.mark (get m (a, byte))) p) ∙ h)) p (sym (ap (λ t. cond t s.mark (get m (b, byte))) q) ∙ k) contenders
      go false true p q h k =
          kinds_conflict_both_ways x.kind y.kind
          ∙ spared b a byte y x (clear y (sym (ap (λ t. cond t s.mark (get m (b, byte))) q) ∙ k)) q (sym (ap (λ t. cond t s.mark (get m (a, byte))) p) ∙ h)
          (contenders_both_ways b a ∙ contenders)
      go false false p q h k =
          lawful a b byte x y (sym (ap (λ t. cond t s.mark (get m (a, byte))) p) ∙ h) (sym (ap (λ t. cond t s.mark (get m (b, byte))) q) ∙ k) contenders

-- ---- the calls of a table

-- without a node's marks
pub lawful_without : (m : Marking) (node : ℕ) → IsLawful m → IsLawful (without_node node m)
lawful_without m node lawful a b byte x y at_a at_b = lawful a b byte x y (held a x at_a) (held b y at_b)
  where
    kept : (gone : Bool) (o : Option Mark) (x : Mark) → cond gone None o ≡ Some x → o ≡ Some x
    kept true o x e = absurd (cc e)
    kept false o x e = e

    held : (k : Key) (x : Mark) → get (without_node node m) (k, byte) ≡ Some x → get m (k, byte) ≡ Some x
    held k x e = kept (k.node == node) (get m (k, byte)) x (sym (get-without_node m node (k, byte)) ∙ e)

-- what contracts see, with this marking
pub lawful_with : (old new : LockTable) (m : Marking) → new ≡ record old { marking = m } → IsLawful m → IsLawful new.marking
lawful_with old new m is lawful = subst IsLawful (sym (ap (λ (t : LockTable). t.marking) is)) lawful

-- a stroke that may be refused
pub lawful_either : {T E : Type 0} (r : Result T E) (s : Stroke) (old new : LockTable) → OnOk r (new ≡ record old { marking = stroked s old.marking }) →
    OnErr r (new ≡ old)
    → ((mark : Mark) → s.mark ≡ Some mark → conflicts old.marking s.key s.start s.end mark.kind ≡ false) → IsLawful old.marking → IsLawful new.marking
lawful_either (Ok v) s old new ok err clear lawful = lawful_with old new (stroked s old.marking) ok (lawful_stroked old.marking s clear lawful)
lawful_either (Err e) s old new ok err clear lawful = lawful_with old new old.marking err lawful
