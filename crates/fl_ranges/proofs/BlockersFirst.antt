-- The first byte of a range at which another owner's mark conflicts with a lock, and the least such owner there.
use Rattle.std.proofs.Common.{◌≡◌, ◌≢◌, ℕ, zero, suc, ◌+◌, ◌<◌, ◌≤◌, Bool, true, false, cond, ◌||◌, nat_lt, Option}
use Rattle.std.proofs.Common.{Some, None, List, [], ◌∷◌, refl, ap, sym}
use Rattle.std.proofs.Common.{◌∙◌, subst, arith}
use Rattle.std.proofs.lemmas.Bool.Decides.{nat_tests}
use Rattle.std.specs.Option.{option_or}
use Rattle.std.specs.List.{list_any}
use Rattle.std.specs.List as list
use Rattle.std.specs.declared.cmp.Ordering.{Ordering}
use Rattle.std.specs.declared.cmp.Ordering.TheVariants.{Less}
use Rattle.std.specs.Ordering.{nat_cmp, ordering_then, eq_by_cmp}
use Rattle.std.specs.Cmp.{IsTotalOrder, nat_cmp_total, tied_itself, first_so, second_so, Equal-is}
use Rattle.std.specs.FinMap.{get, find, entries, entries_sorted, get-entries, is_sorted, IsAntisymmetric}
use Rattle.std.specs.FinMap.Entries.{below_all}
use Rattle.std.proofs.Math.Nat.{le_antisymm}
use Rattle.fl_marks.specs.declared.lock.Key.{Key}
use Rattle.fl_marks.specs.declared.lock.Kind.{Kind}
use Rattle.fl_marks.specs.declared.lock.Mark.{Mark}
use Rattle.fl_marks.specs.Marking.{class_number, spot_cmp, Spot, Marking}
use Rattle.fl_marks.specs.Conflict.{kinds_conflict, mark_conflicts}
use Rattle.fl_marks.specs.Blocker.{of_owner, IsConflicting, first_conflicting}
use Rattle.fl_ranges.proofs.Markings.{spots_total, exact_spots, same_class}
use Rattle.fl_ranges.proofs.Entries.{found_above, get_found, entry_passes, truth}
use Rattle.fl_ranges.proofs.ConflictWords.{parts, all_parts}

-- ---- the first entry that passes a test

module _ {K X : Type 0} {R : K → K → Ordering} (o : IsTotalOrder R) (exact : IsAntisymmetric R) (test : (K × X) → Bool) where
  -- an entry that is found by its key and passes is not before the first one that passes
  none_before : (es : List (K × X)) (e : K × X) (k : K) (v : X) → is_sorted R es ≡ true → list.find test es ≡ Some e → find R k es ≡ Some v →
      test (k, v) ≡ true → R k e.0 ≢ Less
  none_before [] e k v sorted first found passes = absurd (cc first)
  none_before (f ∷ es) e k v sorted first found passes =
      go (λ h i. none_before es e k v (second_so (below_all R f.0 es) (is_sorted R es) sorted) h i passes) (test f) (eq_by_cmp R k f.0) refl refl first found
    where
      not_after : (x : K) → R x k ≡ Less → R k x ≢ Less
      not_after x before after = cc (before, after, o.antisymm k x)

      go : (list.find test es ≡ Some e → find R k es ≡ Some v → R k e.0 ≢ Less) → (t u : Bool) → test f ≡ t → eq_by_cmp R k f.0 ≡ u →
          cond t (Some f) (list.find test es) ≡ Some e → cond u (Some f.1) (find R k es) ≡ Some v → R k e.0 ≢ Less
      go later true true is here h i = λ less.
          let same : f ≡ e = cc h in
          cc ((Equal-is (R k f.0)).0 here, ap (λ (g : K × X). R k g.0) same, less)
      go later true false is here h i = λ less.
          let same : f ≡ e = cc h in
          not_after f.0 (found_above o f.0 k v es (first_so (below_all R f.0 es) (is_sorted R es) sorted) i) (ap (λ (g : K × X). R k g.0) same ∙ less)
      go later false true is here h i = λ less.
          let key : k ≡ f.0 = exact k f.0 ((Equal-is (R k f.0)).0 here) in
          let value : f.1 ≡ v = cc i in
          cc (sym is ∙ ap test (λ j. (sym key j, value j)) ∙ passes)
      go later false false is here h i = later h i

module _ {E : Type 0} (test : E → Bool) where
  found_passes : (es : List E) (e : E) → list.find test es ≡ Some e → test e ≡ true
  found_passes [] e first = absurd (cc first)
  found_passes (f ∷ es) e first = go (found_passes es e) (test f) refl first
    where
      go : (list.find test es ≡ Some e → test e ≡ true) → (t : Bool) → test f ≡ t → cond t (Some f) (list.find test es) ≡ Some e → test e ≡ true
      go later true is h = let same : f ≡ e = cc h in ap test (sym same) ∙ is
      go later false is h = later h

  none_passes : (es : List E) → list.find test es ≡ None → list_any test es ≡ false
  none_passes [] none = refl
  none_passes (f ∷ es) none = go (none_passes es) (test f) none
    where
      go : (list.find test es ≡ None → list_any test es ≡ false) → (t : Bool) → cond t (Some f) (list.find test es) ≡ None → (t || list_any test es) ≡ false
      go later true h = absurd (cc h)
      go later false h = later h

-- ---- at one byte

no_lower : (p q : ℕ) → nat_cmp p q ≢ Less → q ≤ p
no_lower p q not = grind (arith, nat_tests)

no_lower_owner : (class node p q byte : ℕ) →
    ordering_then (ordering_then (nat_cmp class class) (ordering_then (nat_cmp node node) (nat_cmp p q))) (nat_cmp byte byte) ≢ Less → q ≤ p
no_lower_owner class node p q byte not = no_lower p q (λ less. not (
    ap (λ o. ordering_then (ordering_then o (ordering_then (nat_cmp node node) (nat_cmp p q))) (nat_cmp byte byte)) (tied_itself nat_cmp_total class)
    ∙ ap (λ o. ordering_then (ordering_then o (nat_cmp p q)) (nat_cmp byte byte)) (tied_itself nat_cmp_total node)
    ∙ ap (λ o. ordering_then o (nat_cmp byte byte)) less))

module _ (m : Marking) (key : Key) (kind : Kind) where
  -- an excluder passes the test of entries
  conflicting_passes : (first byte end owner : ℕ) (mark : Mark) → first ≤ byte → byte ≤ end → IsConflicting m key kind byte owner mark →
      mark_conflicts key first end kind ((of_owner key owner, byte), mark) ≡ true
  conflicting_passes first byte end owner mark from upto x =
      all_parts (class_number key.class) (class_number key.class) key.node key.node key.owner owner first byte end (kinds_conflict kind mark.kind) refl refl
      (λ same. x.other (sym same)) from upto x.write

  -- the least excluder at a byte
  record IsLeast (byte : ℕ) (e : Spot × Mark) : Type 0 where
    pub spot : e.0 ≡ (of_owner key e.0.0.owner, byte)
    pub conflicting : IsConflicting m key kind byte e.0.0.owner e.1
    pub least : (owner : ℕ) (mark : Mark) → IsConflicting m key kind byte owner mark → e.0.0.owner ≤ owner

  least_found : (byte : ℕ) (e : Spot × Mark) → list.find (mark_conflicts key byte byte kind) (entries m) ≡ Some e → IsLeast byte e
  least_found byte e found =
      let passes = found_passes (mark_conflicts key byte byte kind) (entries m) e found in
      let t = parts (class_number key.class) (class_number e.0.0.class) key.node e.0.0.node key.owner e.0.0.owner byte e.0.1 byte (kinds_conflict kind e.1.kind)
      passes in
      let class : e.0.0.class ≡ key.class = sym (same_class key.class e.0.0.class t.class) in
      let node : e.0.0.node ≡ key.node = sym t.node in
      let place : e.0.1 ≡ byte = le_antisymm t.upto t.from in
      let spot : e.0 ≡ (of_owner key e.0.0.owner, byte) = λ i. (record { class = class i; node = node i; owner = e.0.0.owner }, place i) in
      let held : get m (of_owner key e.0.0.owner, byte) ≡ Some e.1 =
      ap (get m) (sym spot) ∙ get_found spots_total (mark_conflicts key byte byte kind) m e found in
      record {
        spot = spot;
        conflicting = record { held = held; other = λ same. t.other (sym same); write = t.write };
        least = λ owner mark x. no_lower_owner (class_number key.class) key.node owner e.0.0.owner byte (λ less.
            none_before spots_total exact_spots (mark_conflicts key byte byte kind) (entries m) e (of_owner key owner, byte) mark (truth _ (entries_sorted m))
            found
            (sym (get-entries m (of_owner key owner, byte)) ∙ x.held) (conflicting_passes byte byte byte owner mark (omega arith) (omega arith) x)
            (ap (spot_cmp (of_owner key owner, byte)) spot ∙ less));
      }

  none_found : (byte : ℕ) → list.find (mark_conflicts key byte byte kind) (entries m) ≡ None → (owner : ℕ) (mark : Mark) →
      IsConflicting m key kind byte owner mark → ⊥
  none_found byte none owner mark x =
      cc (
        none_passes (mark_conflicts key byte byte kind) (entries m) none,
        entry_passes spots_total exact_spots (mark_conflicts key byte byte kind) m (of_owner key owner, byte) mark x.held
            (conflicting_passes byte byte byte owner mark (omega arith) (omega arith) x),
      )

  -- ---- at so many bytes

  -- the least excluder at the first byte that has one
  pub record IsFirst (first count : ℕ) (e : Spot × Mark) : Type 0 where
    pub holder : e.0.0 ≡ of_owner key e.0.0.owner
    pub from : first ≤ e.0.1
    pub upto : e.0.1 < first + count
    pub conflicting : IsConflicting m key kind e.0.1 e.0.0.owner e.1
    pub least_byte : (b owner : ℕ) (mark : Mark) → first ≤ b → b < e.0.1 → IsConflicting m key kind b owner mark → ⊥
    pub least_owner : (owner : ℕ) (mark : Mark) → IsConflicting m key kind e.0.1 owner mark → e.0.0.owner ≤ owner

  first_here : (count first : ℕ) (e : Spot × Mark) → IsLeast first e → IsFirst first (suc count) e
  first_here count first e l =
      let place : e.0.1 ≡ first = ap (λ (q : Spot). q.1) l.spot in
      record {
        holder = ap (λ (q : Spot). q.0) l.spot;
        from = omega arith;
        upto = omega arith;
        conflicting = subst (λ n. IsConflicting m key kind n e.0.0.owner e.1) (sym place) l.conflicting;
        least_byte = λ b owner mark from below x. absurd (omega arith);
        least_owner = λ owner mark x. l.least owner mark (subst (λ n. IsConflicting m key kind n owner mark) place x);
      }

  first_later : (count first : ℕ) (e : Spot × Mark) → ((owner : ℕ) (mark : Mark) → IsConflicting m key kind first owner mark → ⊥) → IsFirst (first + 1) count e →
      IsFirst first (suc count) e
  first_later count first e none f = record {
    holder = f.holder;
    from = let a = f.from in omega arith;
    upto = let a = f.upto in omega arith;
    conflicting = f.conflicting;
    least_byte = λ b owner mark from below x. go b owner mark from below x (nat_lt first b) refl;
    least_owner = f.least_owner;
  }
    where
      go : (b owner : ℕ) (mark : Mark) → first ≤ b → b < e.0.1 → IsConflicting m key kind b owner mark → (t : Bool) → nat_lt first b ≡ t → ⊥
      go b owner mark from below x true after = f.least_byte b owner mark (grind (arith, nat_tests)) below x
      go b owner mark from below x false after =
          let same : b ≡ first = grind (arith, nat_tests) in
          none owner mark (subst (λ n. IsConflicting m key kind n owner mark) same x)

  pub first_found : (count first : ℕ) (e : Spot × Mark) → first_conflicting m key kind first count ≡ Some e → IsFirst first count e
  unfolding first_conflicting
  first_found zero first e is = absurd (cc is)
  first_found (suc count) first e is = go (first_found count (first + 1) e) (list.find (mark_conflicts key first first kind) (entries m)) refl is
    where
      go : (first_conflicting m key kind (first + 1) count ≡ Some e → IsFirst (first + 1) count e) → (o : Option (Spot × Mark)) →
          list.find (mark_conflicts key first first kind) (entries m) ≡ o
          → option_or o (first_conflicting m key kind (first + 1) count) ≡ Some e → IsFirst first (suc count) e
      go later (Some f) found h = first_here count first e (least_found first e (found ∙ h))
      go later None found h = first_later count first e (none_found first found) (later h)

  pub none_conflicts : (count first : ℕ) → first_conflicting m key kind first count ≡ None → (b owner : ℕ) (mark : Mark) → first ≤ b → b < first + count →
      IsConflicting m key kind b owner mark → ⊥
  unfolding first_conflicting
  none_conflicts zero first none b owner mark from upto x = absurd (omega arith)
  none_conflicts (suc count) first none b owner mark from upto x =
      go (λ h from. none_conflicts count (first + 1) h b owner mark from (omega arith) x) (list.find (mark_conflicts key first first kind) (entries m)) refl none
      (nat_lt first b) refl
    where
      go : (first_conflicting m key kind (first + 1) count ≡ None → first + 1 ≤ b → ⊥) → (o : Option (Spot × Mark)) →
          list.find (mark_conflicts key first first kind) (entries m) ≡ o
          → option_or o (first_conflicting m key kind (first + 1) count) ≡ None → (t : Bool) → nat_lt first b ≡ t → ⊥
      go later (Some f) found h t after = absurd (cc h)
      go later None found h true after = later h (grind (arith, nat_tests))
      go later None found h false after =
          let same : b ≡ first = grind (arith, nat_tests) in
          none_found first found owner mark (subst (λ n. IsConflicting m key kind n owner mark) same x)
