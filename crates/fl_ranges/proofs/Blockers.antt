-- The lock that is named, as a function and in words.
use Rattle.std.proofs.Common.{◌≡◌, ◌↔◌, ℕ, ◌+◌, ◌-◌, ◌≤◌, false, Option, Some, None, option_map, refl, ap, sym, ◌∙◌}
use Rattle.std.proofs.Common.{subst, arith}
use Rattle.std.specs.FinMap.{get}
use Rattle.std.proofs.lemmas.Bool.{false_from_ne_true}
use Rattle.std.proofs.Math.Nat.{le_antisymm}
use Rattle.fl_marks.specs.declared.lock.Key.{Key}
use Rattle.fl_marks.specs.declared.lock.Kind.{Kind}
use Rattle.fl_marks.specs.declared.lock.Mark.{Mark}
use Rattle.fl_marks.specs.declared.held.Held.{Held}
use Rattle.fl_marks.specs.Marking.{Spot, Marking}
use Rattle.fl_marks.specs.Conflict.{conflicts, IsConflict}
use Rattle.fl_marks.specs.Blocker.{of_owner, IsConflicting, IsRunAt, IsBlocker, first_conflicting, run_start, run_end}
use Rattle.fl_marks.specs.Blocker.{lock_around, blocker}
use Rattle.fl_ranges.proofs.ConflictWords.{conflict_words}
use Rattle.fl_ranges.proofs.BlockersRows.{at_most, row_around, same_start, same_end}
use Rattle.fl_ranges.proofs.BlockersFirst.{IsFirst, first_found, none_conflicts}

module _ (m : Marking) (key : Key) (start end : ℕ) (kind : Kind) where
  -- the lock around the first excluder is the one that is named
  named_lock : end ≤ 9223372036854775807 → (e : Spot × Mark) → IsFirst m key kind start (end + 1 - start) e → IsBlocker m key start end kind (lock_around m e)
  named_lock within e f =
      let upto = f.upto in
      let from = f.from in
      record {
        byte = e.0.1;
        from = f.from;
        upto = omega arith;
        conflicting = f.conflicting;
        least_byte = f.least_byte;
        least_owner = f.least_owner;
        run = subst (λ (k : Key). IsRunAt m (of_owner key e.0.0.owner) e.1 e.0.1 (run_start m k e.1 e.0.1) (run_end m k e.1 e.0.1 (9223372036854775807 - e.0.1)))
            (sym f.holder)
            (row_around m (of_owner key e.0.0.owner) e.1 e.0.1 f.conflicting.held (omega arith));
      }

  no_later : (a b : Held) (x : IsBlocker m key start end kind a) (y : IsBlocker m key start end kind b) → x.byte ≤ y.byte
  no_later a b x y = at_most x.byte y.byte (λ before. x.least_byte y.byte b.owner b.mark y.from before y.conflicting)

  -- there is at most one
  pub same_lock : (a b : Held) → IsBlocker m key start end kind a → IsBlocker m key start end kind b → a ≡ b
  same_lock a b x y =
      let byte : x.byte ≡ y.byte = le_antisymm (no_later a b x y) (no_later b a y x) in
      let at_one : IsConflicting m key kind x.byte b.owner b.mark = subst (λ n. IsConflicting m key kind n b.owner b.mark) (sym byte) y.conflicting in
      let at_other : IsConflicting m key kind y.byte a.owner a.mark = subst (λ n. IsConflicting m key kind n a.owner a.mark) byte x.conflicting in
      let owner : a.owner ≡ b.owner = le_antisymm (x.least_owner b.owner b.mark at_one) (y.least_owner a.owner a.mark at_other) in
      let mark : a.mark ≡ b.mark = cc (x.conflicting.held, at_one.held, ap (λ o. get m (of_owner key o, x.byte)) owner) in
      let other : IsRunAt m (of_owner key a.owner) a.mark x.byte b.start b.end =
      subst (λ n. IsRunAt m (of_owner key a.owner) a.mark n b.start b.end) (sym byte)
      (subst (λ (t : Mark). IsRunAt m (of_owner key a.owner) t y.byte b.start b.end) (sym mark)
      (subst (λ o. IsRunAt m (of_owner key o) b.mark y.byte b.start b.end) (sym owner) y.run)) in
      let start : a.start ≡ b.start = same_start m (of_owner key a.owner) a.mark x.run other in
      let end : a.end ≡ b.end = same_end m (of_owner key a.owner) a.mark x.run other in
      λ i. record { owner = owner i; start = start i; end = end i; mark = mark i }

  pub named_words : (held : Held) → end ≤ 9223372036854775807 → (blocker m key start end kind ≡ Some held) ↔ IsBlocker m key start end kind held
  named_words held within =
      (λ h. words (first_conflicting m key kind start (end + 1 - start)) refl h, λ b. found b (first_conflicting m key kind start (end + 1 - start)) refl)
    where
      words : (o : Option (Spot × Mark)) → first_conflicting m key kind start (end + 1 - start) ≡ o → option_map (lock_around m) o ≡ Some held →
          IsBlocker m key start end kind held
      words (Some e) is h =
          let same : lock_around m e ≡ held = cc h in
          subst (IsBlocker m key start end kind) same (named_lock within e (first_found m key kind (end + 1 - start) start e is))
      words None is h = absurd (cc h)

      found : IsBlocker m key start end kind held → (o : Option (Spot × Mark)) → first_conflicting m key kind start (end + 1 - start) ≡ o →
          option_map (lock_around m) o ≡ Some held
      found b (Some e) is = ap Some (same_lock (lock_around m e) held (named_lock within e (first_found m key kind (end + 1 - start) start e is)) b)
      found b None is =
          let from = b.from in
          let upto = b.upto in
          absurd (none_conflicts m key kind (end + 1 - start) start is b.byte held.owner held.mark b.from (omega arith) b.conflicting)

  conflicting_of_conflict : (c : IsConflict m key start end kind) → IsConflicting m key kind c.byte c.contender.owner c.mark
  conflicting_of_conflict c =
      let contender : c.contender ≡ of_owner key c.contender.owner = λ i. record { class = c.class i; node = c.node i; owner = c.contender.owner } in
      record { held = ap (λ (k : Key). get m (k, c.byte)) (sym contender) ∙ c.held; other = c.other; write = c.write }

  pub conflict_of_conflicting : (byte owner : ℕ) (mark : Mark) → start ≤ byte → byte ≤ end → IsConflicting m key kind byte owner mark →
      IsConflict m key start end kind
  conflict_of_conflicting byte owner mark from upto x = record {
    contender = of_owner key owner;
    byte = byte;
    mark = mark;
    held = x.held;
    class = refl;
    node = refl;
    other = x.other;
    from = from;
    upto = upto;
    write = x.write;
  }

  pub none_words : (blocker m key start end kind ≡ None) ↔ (conflicts m key start end kind ≡ false)
  none_words = (
    λ h. false_from_ne_true (conflicts m key start end kind) (λ is. conflict (first_conflicting m key kind start (end + 1 - start)) refl h
        ((conflict_words m key start end kind).0 is)),
    λ clear. none clear (first_conflicting m key kind start (end + 1 - start)) refl,
  )
    where
      conflict : (o : Option (Spot × Mark)) → first_conflicting m key kind start (end + 1 - start) ≡ o → option_map (lock_around m) o ≡ None →
          IsConflict m key start end kind → ⊥
      conflict (Some e) is h c = absurd (cc h)
      conflict None is h c =
          let from = c.from in
          let upto = c.upto in
          none_conflicts m key kind (end + 1 - start) start is c.byte c.contender.owner c.mark c.from (omega arith) (conflicting_of_conflict c)

      none : conflicts m key start end kind ≡ false → (o : Option (Spot × Mark)) → first_conflicting m key kind start (end + 1 - start) ≡ o →
          option_map (lock_around m) o ≡ None
      none clear (Some e) is =
          let f = first_found m key kind (end + 1 - start) start e is in
          let from = f.from in
          let upto = f.upto in
          absurd (cc (clear, (conflict_words m key start end kind).1 (conflict_of_conflicting e.0.1 e.0.0.owner e.1 f.from (omega arith) f.conflicting)))
      none clear None is = refl
