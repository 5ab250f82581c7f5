-- Bytes of a range that have one mark: one span has them all.
use Rattle.std.proofs.Common.{◌≡◌, ℕ, ◌+◌, ◌<◌, ◌≤◌, Bool, true, false, cond, ◌&&◌, nat_le, Some, None, List, [], ◌∷◌}
use Rattle.std.proofs.Common.{refl, ap, sym, ◌∙◌, subst, inl, inr, arith}
use Rattle.std.proofs.lemmas.Bool.{cases_lt}
use Rattle.std.proofs.lemmas.Bool.Decides.{nat_tests}
use Rattle.std.proofs.lemmas.Option.{none-some}
use Rattle.std.specs.List.{find}
use Rattle.fl_spans.specs.declared.span.Span.{Span}
use Rattle.fl_spans.specs.Spans.{overlaps, mark_at, AreSpans}
use Rattle.fl_marks.specs.declared.lock.Mark.{Mark}
use Rattle.fl_ranges.proofs.SpanMarks.{too_early, too_late, in_time, passed_over, later_none}

-- a span that has no byte of a range has none in it
outside : (from to start end b : ℕ) → ((nat_le from end && nat_le start to) && true) ≡ false → start ≤ b → b ≤ end → (nat_le from b && nat_le b to) ≡ false
outside from to start end b none lo hi = grind (arith, nat_tests)

inside : (from to start end : ℕ) → ((nat_le from end && nat_le start to) && true) ≡ true → start ≤ to
inside from to start end some = grind (arith, nat_tests)

-- the byte behind a span has another mark, or none
next_other : (s : Span Mark) (ss : List (Span Mark)) → AreSpans (s ∷ ss) → mark_at ss (s.end + 1) ≡ Some s.mark → ⊥
next_other s [] are held = none-some s.mark held
next_other s (t ∷ ts) are held = elim (cases_lt (s.end + 1) t.start) [
  | inl far ↦
      let own = are.2.0.ordered in
      none-some s.mark (sym (passed_over t ts (s.end + 1) (too_early t.start t.end (s.end + 1) far) ∙ later_none t ts are.2 (s.end + 1) (omega (arith, far, own))) ∙ held)
  | inr near ↦
      let apart = are.1.apart in
      let own = are.2.0.ordered in
      let begins : t.start ≡ s.end + 1 = omega (arith, apart, near) in
      let here : mark_at (t ∷ ts) (s.end + 1) ≡ Some t.mark =
      ap (λ (x : Bool). cond x (Some t.mark) (mark_at ts (s.end + 1))) (in_time t.start t.end (s.end + 1) (omega (arith, begins)) (omega (arith, begins, own))) in
      are.1.whole begins (cc (here, held))
]

module _ (start end : ℕ) (ordered : start ≤ end) where
  -- the span has a byte of the range
  abbrev pub meets : Span Mark → Bool
  meets s = overlaps start end s && true

  -- the first span with a byte of the range has all of them
  pub covered : (ss : List (Span Mark)) (u : Span Mark) → find meets ss ≡ Some u → u.start ≤ start → end ≤ u.end → (b : ℕ) → start ≤ b → b ≤ end
      → mark_at ss b ≡ Some u.mark
  covered [] u found from upto b lo hi = absurd (none-some u found)
  covered (s ∷ ss) u found from upto b lo hi = go (λ h. covered ss u h from upto b lo hi) (meets s) refl found
    where
      go : (find meets ss ≡ Some u → mark_at ss b ≡ Some u.mark) → (x : Bool) → meets s ≡ x → cond x (Some s) (find meets ss) ≡ Some u
          → mark_at (s ∷ ss) b ≡ Some u.mark
      go later true is h =
          let same : s ≡ u = cc h in
          let first : s.start ≤ start = subst (λ (v : Span Mark). v.start ≤ start) (sym same) from in
          let last : end ≤ s.end = subst (λ (v : Span Mark). end ≤ v.end) (sym same) upto in
          ap (λ (x : Bool). cond x (Some s.mark) (mark_at ss b)) (in_time s.start s.end b (omega (arith, first, lo)) (omega (arith, last, hi)))
          ∙ ap (λ (v : Span Mark). Some v.mark) same
      go later false is h = passed_over s ss b (outside s.start s.end start end b is lo hi) ∙ later h

  -- the first span with a byte of the range, which has all of them, and this mark
  pub record IsCovering (ss : List (Span Mark)) (m : Mark) : Type 0 where
    pub span : Span Mark
    pub found : find meets ss ≡ Some span
    pub from : span.start ≤ start
    pub upto : end ≤ span.end
    pub mark_is : span.mark ≡ m

  pub covering : (ss : List (Span Mark)) (m : Mark) → AreSpans ss → ((b : ℕ) → start ≤ b → b ≤ end → mark_at ss b ≡ Some m) → IsCovering ss m
  covering [] m are all = absurd (none-some m (all start (omega arith) ordered))
  covering (s ∷ ss) m are all = go (covering ss m are.2) (meets s) refl
    where
      first : s.start ≤ start
      first = elim (cases_lt start s.start) [
        | inl late ↦
            let own = are.0.ordered in
            absurd (none-some m (sym (passed_over s ss start (too_early s.start s.end start late) ∙ later_none s ss are start (omega (arith, late, own)))
            ∙ all start (omega arith) ordered))
        | inr upto ↦ upto
      ]

      same : start ≤ s.end → s.mark ≡ m
      same within =
          let here = ap (λ (x : Bool). cond x (Some s.mark) (mark_at ss start)) (in_time s.start s.end start first within) in
          cc (here, all start (omega arith) ordered)

      last : start ≤ s.end → end ≤ s.end
      last within = elim (cases_lt s.end end) [
        | inl short ↦
            let held = all (s.end + 1) (omega (arith, within)) (omega (arith, short)) in
            absurd (next_other s ss are (sym (passed_over s ss (s.end + 1) (too_late s.start s.end (s.end + 1) (omega arith))) ∙ held
            ∙ ap Some (sym (same within))))
        | inr upto ↦ upto
      ]

      go : (((b : ℕ) → start ≤ b → b ≤ end → mark_at ss b ≡ Some m) → IsCovering ss m) → (x : Bool) → meets s ≡ x → IsCovering (s ∷ ss) m
      go later true is =
          let within = inside s.start s.end start end is in
          record { span = s; found = ap (λ (x : Bool). cond x (Some s) (find meets ss)) is; from = first; upto = last within; mark_is = same within }
      go later false is =
          let rest = later (λ b lo hi. sym (passed_over s ss b (outside s.start s.end start end b is lo hi)) ∙ all b lo hi) in
          record {
            span = rest.span;
            found = ap (λ (x : Bool). cond x (Some s) (find meets ss)) is ∙ rest.found;
            from = rest.from;
            upto = rest.upto;
            mark_is = rest.mark_is;
          }
