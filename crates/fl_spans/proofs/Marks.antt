-- The mark of each byte, of spans that were cut and joined.
use Rattle.std.proofs.Common.{◌≡◌, ℕ, ◌+◌, ◌-◌, ◌<◌, ◌≤◌, Bool, true, false, ◌&&◌, nat_le, cond, min, max, Option, Some}
use Rattle.std.proofs.Common.{None, List, [], ◌∷◌, ◌++◌, refl, sym}
use Rattle.std.proofs.Common.{ap, ◌∙◌, inl, inr, arith}
use Rattle.std.proofs.lemmas.Bool.{cases_lt, cases_Bool, le-leb, lt-leb, and_from, and_left, and_right}
use Rattle.fl_spans.specs.declared.span.Span.{Span}
use Rattle.fl_spans.specs.Spans.{overlaps, mark_at, IsSpan, AreSpans}
use Rattle.fl_spans.specs.Stroke.{before, behind, struck, touches, join, joined, after_stroke}
use Rattle.fl_spans.proofs.Parts.{StartsFrom, AreApart, apart_of, next_from, before_cut, before_skip, behind_cut}
use Rattle.fl_spans.proofs.Parts.{behind_skip, behind_from, behind_apart}
use Rattle.fl_spans.proofs.Parts.{join_touching, join_apart, joined_are, touching_marks, touching_next, before_with}
use Rattle.fl_spans.proofs.Parts.{from_less}

module _ {M : Type 0} where
  has : (s : Span M) (b : ℕ) → s.start ≤ b → b ≤ s.end → overlaps b b s ≡ true
  has s b from upto = and_from (nat_le s.start b) (nat_le b s.end) (le-leb s.start b from) (le-leb b s.end upto)

  not_yet : (s : Span M) (b : ℕ) → b < s.start → overlaps b b s ≡ false
  not_yet s b less = and_left (nat_le s.start b) (nat_le b s.end) (lt-leb s.start b less)

  no_more : (s : Span M) (b : ℕ) → s.end < b → overlaps b b s ≡ false
  no_more s b less = and_right (nat_le s.start b) (nat_le b s.end) (lt-leb b s.end less)

  at_span : (s : Span M) (ss : List (Span M)) (b : ℕ) → s.start ≤ b → b ≤ s.end → mark_at (s ∷ ss) b ≡ Some s.mark
  at_span s ss b from upto = rw (has s b from upto) refl

  before_span : (s : Span M) (ss : List (Span M)) (b : ℕ) → b < s.start → mark_at (s ∷ ss) b ≡ mark_at ss b
  before_span s ss b less = rw (not_yet s b less) refl

  behind_span : (s : Span M) (ss : List (Span M)) (b : ℕ) → s.end < b → mark_at (s ∷ ss) b ≡ mark_at ss b
  behind_span s ss b less = rw (no_more s b less) refl

  -- no byte has a mark before the first
  pub none_at : (n : ℕ) (ss : List (Span M)) (b : ℕ) → AreApart ss → StartsFrom n ss → b < n → mark_at ss b ≡ None
  none_at n [] b are from less = refl
  none_at n (s ∷ ss) b are from less =
      before_span s ss b (omega (arith, from, less)) ∙ none_at n ss b are.2 (next_from n s ss are from) less

  -- spans that differ in bytes elsewhere alone
  alike : (s t : Span M) (ss ts : List (Span M)) (b : ℕ) → s.mark ≡ t.mark → mark_at ss b ≡ mark_at ts b → overlaps b b s ≡ overlaps b b t →
      mark_at (s ∷ ss) b ≡ mark_at (t ∷ ts) b
  alike s t ss ts b marks rest over = λ i. cond (over i) (Some (marks i)) (rest i)

  marks_before : (start : ℕ) (ss zs : List (Span M)) (b : ℕ) → b < start → mark_at zs b ≡ None → mark_at (before start ss ++ zs) b ≡ mark_at ss b
  marks_before start [] zs b less none = none
  marks_before start (s ∷ ss) zs b less none =
      let rest = marks_before start ss zs b less none in
      elim (cases_lt s.start start) [
        | inl cut ↦ rw (before_cut start s ss cut)
            (alike (record s { end = min s.end (start - 1) }) s (before start ss ++ zs) ss b refl rest (
            elim (cases_lt s.end b) [
              | inl past ↦ no_more (record s { end = min s.end (start - 1) }) b (omega (arith, past)) ∙ sym (no_more s b past)
              | inr upto ↦ ap (λ x. nat_le s.start b && x) (le-leb b (min s.end (start - 1)) (omega (arith, upto, less)) ∙ sym (le-leb b s.end upto))
            ]))
        | inr past ↦ rw (before_skip start s ss past) (rest ∙ sym (before_span s ss b (omega (arith, past, less))))
      ]

  marks_past : (start : ℕ) (ss zs : List (Span M)) (b : ℕ) → start ≤ b → mark_at (before start ss ++ zs) b ≡ mark_at zs b
  marks_past start [] zs b from = refl
  marks_past start (s ∷ ss) zs b from =
      let rest = marks_past start ss zs b from in
      elim (cases_lt s.start start) [
        | inl cut ↦ rw (before_cut start s ss cut)
            (behind_span (record s { end = min s.end (start - 1) }) (before start ss ++ zs) b (omega (arith, cut, from)) ∙ rest)
        | inr past ↦ rw (before_skip start s ss past) rest
      ]

  marks_behind : (end : ℕ) (ss : List (Span M)) (b : ℕ) → end < b → mark_at (behind end ss) b ≡ mark_at ss b
  marks_behind end [] b past = refl
  marks_behind end (s ∷ ss) b past =
      let rest = marks_behind end ss b past in
      elim (cases_lt end s.end) [
        | inl cut ↦ rw (behind_cut end s ss cut)
            (alike (record s { start = max s.start (end + 1) }) s (behind end ss) ss b refl rest (
            elim (cases_lt b s.start) [
              | inl less ↦ not_yet (record s { start = max s.start (end + 1) }) b (omega (arith, less)) ∙ sym (not_yet s b less)
              | inr from ↦
                  ap (λ x. x && nat_le b s.end) (le-leb (max s.start (end + 1)) b (omega (arith, from, past)) ∙ sym (le-leb s.start b from))
            ]))
        | inr none ↦ rw (behind_skip end s ss none) (rest ∙ sym (behind_span s ss b (omega (arith, none, past))))
      ]

  -- the range and what is behind it
  pub struck_apart : (start end : ℕ) (mark : Option M) (ss : List (Span M)) → start ≤ end → end ≤ 9223372036854775807 → AreApart ss →
      AreApart (struck start end mark ++ behind end ss)
  struck_apart start end None ss ordered bounded are = behind_apart end ss are
  struck_apart start end (Some m) ss ordered bounded are =
      (record { ordered = ordered; bounded = bounded }, behind_from end ss, behind_apart end ss are)

  pub struck_from : (start end : ℕ) (mark : Option M) (ss : List (Span M)) → start ≤ end → StartsFrom start (struck start end mark ++ behind end ss)
  struck_from start end None ss ordered = from_less start (end + 1) (behind end ss) (omega (arith, ordered)) (behind_from end ss)
  struck_from start end (Some m) ss ordered = omega arith

  struck_within : (start end : ℕ) (mark : Option M) (ss : List (Span M)) (b : ℕ) → AreApart ss → start ≤ b → b ≤ end →
      mark_at (struck start end mark ++ behind end ss) b ≡ mark
  struck_within start end None ss b are from upto = none_at (end + 1) (behind end ss) b (behind_apart end ss are) (behind_from end ss) (omega (arith, upto))
  struck_within start end (Some m) ss b are from upto = at_span (record { start = start; end = end; mark = m }) (behind end ss) b from upto

  struck_past : (start end : ℕ) (mark : Option M) (ss : List (Span M)) (b : ℕ) → end < b →
      mark_at (struck start end mark ++ behind end ss) b ≡ mark_at ss b
  struck_past start end None ss b past = marks_behind end ss b past
  struck_past start end (Some m) ss b past =
      behind_span (record { start = start; end = end; mark = m }) (behind end ss) b past ∙ marks_behind end ss b past

module _ {M : Type 0} (same : M → M → Bool) (exact : (a b : M) → same a b ≡ true → a ≡ b) (itself : (a : M) → same a a ≡ true) where
  mark_join : (s : Span M) (ts : List (Span M)) (b : ℕ) → IsSpan s → AreApart ts → mark_at (join same s ts) b ≡ mark_at (s ∷ ts) b
  mark_join s [] b is are = refl
  mark_join s (t ∷ ts) b is are =
      elim (cases_Bool (touches same s t)) [
        | inl one ↦ rw (join_touching same s t ts one) (both one)
        | inr none ↦ rw (join_apart same s (t ∷ ts) none) refl
      ]
    where
      both : touches same s t ≡ true → mark_at (record t { start = s.start } ∷ ts) b ≡ mark_at (s ∷ t ∷ ts) b
      both one =
          let next = touching_next same exact s t one in
          let marks = touching_marks same exact s t one in
          let own = is.ordered in
          let its = are.0.ordered in
          elim (cases_lt b s.start) [
            | inl less ↦
                before_span (record t { start = s.start }) ts b less
                ∙ sym (before_span s (t ∷ ts) b less ∙ before_span t ts b (omega (arith, less, next, own)))
            | inr from ↦
                elim (cases_lt s.end b) [
                  | inl past ↦
                      alike (record t { start = s.start }) t ts ts b refl refl
                      (ap (λ x. x && nat_le b t.end) (le-leb s.start b from ∙ sym (le-leb t.start b (omega (arith, past, next)))))
                      ∙ sym (behind_span s (t ∷ ts) b past)
                  | inr upto ↦
                      at_span (record t { start = s.start }) ts b from (omega (arith, upto, next, its))
                      ∙ ap Some (sym marks)
                      ∙ sym (at_span s (t ∷ ts) b from upto)
                ]
          ]

  marks_joined : (ss : List (Span M)) (b : ℕ) → AreApart ss → mark_at (joined same ss) b ≡ mark_at ss b
  marks_joined [] b are = refl
  marks_joined (s ∷ ss) b are =
      mark_join s (joined same ss) b are.0 (apart_of (joined same ss) (joined_are same exact itself ss are.2))
      ∙ ap (λ o. cond (overlaps b b s) (Some s.mark) o) (marks_joined ss b are.2)

  module _ (start end : ℕ) (mark : Option M) (ss : List (Span M)) (are : AreSpans ss) (ordered : start ≤ end) (bounded : end ≤ 9223372036854775807) where
    parts_apart : AreApart (before start ss ++ (struck start end mark ++ behind end ss))
    parts_apart =
        before_with start ss (struck start end mark ++ behind end ss) (apart_of ss are) (struck_apart start end mark ss ordered bounded (apart_of ss are))
        (struck_from start end mark ss ordered)

    -- what a stroke leaves is in order and as long as can be
    pub stroke_are : AreSpans (after_stroke same start end mark ss)
    stroke_are = joined_are same exact itself (before start ss ++ (struck start end mark ++ behind end ss)) parts_apart

    -- and marks the range alone
    pub stroke_marks : (b : ℕ) → mark_at (after_stroke same start end mark ss) b ≡ cond (nat_le start b && nat_le b end) mark (mark_at ss b)
    stroke_marks b =
        let rest = struck start end mark ++ behind end ss in
        marks_joined (before start ss ++ rest) b parts_apart
        ∙ elim (cases_lt b start) as (λ _. mark_at (before start ss ++ rest) b ≡ cond (nat_le start b && nat_le b end) mark (mark_at ss b)) [
          | inl less ↦ rw (lt-leb start b less)
              (marks_before start ss rest b less
              (none_at start rest b (struck_apart start end mark ss ordered bounded (apart_of ss are)) (struck_from start end mark ss ordered) less))
          | inr from ↦ rw (le-leb start b from) (marks_past start ss rest b from ∙ elim (cases_lt end b) as
              (λ _. mark_at rest b ≡ cond (nat_le b end) mark (mark_at ss b)) [
                | inl past ↦ rw (lt-leb b end past) (struck_past start end mark ss b past)
                | inr upto ↦ rw (le-leb b end upto) (struck_within start end mark ss b (apart_of ss are) from upto)
              ])
        ]
