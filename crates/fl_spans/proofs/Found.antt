-- The search along spans, and where it may stop.
use Rattle.std.proofs.Common.{◌≡◌, ℕ, zero, suc, ◌+◌, ◌<◌, ◌≤◌, Bool, true, false, ◌&&◌, nat_le, Some, None, List, []}
use Rattle.std.proofs.Common.{◌∷◌, ◌==◌, Option, not, length, take, drop, slice_get, refl, ap, ◌∙◌, subst, arith}
use Rattle.std.specs.List.{find, position_or_len, AllByRecursion}
use Rattle.std.proofs.lemmas.Bool.{le-leb, lt-leb, and_from, and_left, and_right}
use Rattle.std.proofs.lemmas.Option.{none-some}
use Rattle.fl_spans.specs.declared.span.Span.{Span}
use Rattle.fl_spans.specs.Spans.{overlaps, AreSpans}
use Rattle.fl_spans.proofs.Parts.{StartsFrom, AreApart, apart_of, next_from}
use Rattle.fl_spans.proofs.Walks.{count_more}

module _ {M : Type 0} where
  pub drop_are : (ss : List (Span M)) (j : ℕ) → AreSpans ss → AreSpans (drop j ss)
  drop_are ss zero are = are
  drop_are [] (suc j) are = tt
  drop_are (s ∷ ss) (suc j) are = drop_are ss j are.2

  starts_from : (n : ℕ) (ss : List (Span M)) (j : ℕ) (t : Span M) → AreApart ss → StartsFrom n ss → slice_get ss j ≡ Some t → n ≤ t.start
  starts_from n [] j t are from found = absurd (none-some t found)
  starts_from n (s ∷ ss) zero t are from found = let is : s ≡ t = cc in subst (λ (x : Span M). n ≤ x.start) is from
  starts_from n (s ∷ ss) (suc j) t are from found = starts_from n ss j t are.2 (next_from n s ss are from) found

  -- if a span begins at a byte or before it, those before that span end before the byte
  pub ends_before : (byte : ℕ) (ss : List (Span M)) (j : ℕ) (t : Span M) → AreApart ss → slice_get ss j ≡ Some t → t.start ≤ byte →
      AllByRecursion (λ s. s.end < byte) (take j ss)
  ends_before byte [] zero t are found upto = tt
  ends_before byte [] (suc j) t are found upto = tt
  ends_before byte (s ∷ ss) zero t are found upto = tt
  ends_before byte (s ∷ ss) (suc j) t are found upto = (
    omega (arith, upto, starts_from (s.end + 1) ss j t are.2 are.1 found),
    ends_before byte ss j t are.2 found upto,
  )

  module _ (p : Span M → Bool) (byte : ℕ) (fails : (s : Span M) → s.end < byte → p s ≡ false) where
    -- a search may begin past spans that end before a byte, if those fail its test
    pub find_past : (ss : List (Span M)) (j : ℕ) → AllByRecursion (λ s. s.end < byte) (take j ss) → find p ss ≡ find p (drop j ss)
    find_past ss zero before = refl
    find_past [] (suc j) before = refl
    find_past (s ∷ ss) (suc j) before = rw (fails s before.0) (find_past ss j before.1)

    pub place_past : (ss : List (Span M)) (j : ℕ) → j ≤ length ss → AllByRecursion (λ s. s.end < byte) (take j ss) →
        position_or_len p ss ≡ j + position_or_len p (drop j ss)
    place_past ss zero within before = omega arith
    place_past [] (suc j) within before = absurd (omega (arith, within))
    place_past (s ∷ ss) (suc j) within before =
        omega (
          arith,
          count_more (λ x. not (p x)) s ss (ap not (fails s before.0)),
          place_past ss j (omega (arith, within)) before.1,
        )

  module _ (start end : ℕ) (p : M → Bool) where
    -- the span has a byte of the range, and its mark passes
    abbrev pub passes : Span M → Bool
    passes s = overlaps start end s && p s.mark

    found_here : (s : Span M) (ss : List (Span M)) → passes s ≡ true → find passes (s ∷ ss) ≡ Some s
    found_here s ss is = rw is refl

    pub found_next : (s : Span M) (ss : List (Span M)) → passes s ≡ false → find passes (s ∷ ss) ≡ find passes ss
    found_next s ss none = rw none refl

    pub found_at : (s : Span M) (ss : List (Span M)) → s.start ≤ end → start ≤ s.end → p s.mark ≡ true → find passes (s ∷ ss) ≡ Some s
    found_at s ss upto from is =
        found_here s ss (and_from (overlaps start end s) (p s.mark)
        (and_from (nat_le s.start end) (nat_le start s.end) (le-leb s.start end upto) (le-leb start s.end from)) is)

    -- one whose mark fails, or one before the range
    pub fails : (s : Span M) → p s.mark ≡ false → passes s ≡ false
    fails s none = and_right (overlaps start end s) (p s.mark) none

    pub too_early : (s : Span M) → s.end < start → passes s ≡ false
    too_early s less =
        and_left (overlaps start end s) (p s.mark) (and_right (nat_le s.start end) (nat_le start s.end) (lt-leb start s.end less))

    too_late : (s : Span M) → end < s.start → passes s ≡ false
    too_late s less = and_left (overlaps start end s) (p s.mark) (and_left (nat_le s.start end) (nat_le start s.end) (lt-leb s.start end less))

    none_past : (ss : List (Span M)) → AreApart ss → StartsFrom (end + 1) ss → find passes ss ≡ None
    none_past [] are from = refl
    none_past (s ∷ ss) are from = found_next s ss (too_late s (omega (arith, from))) ∙ none_past ss are.2 (next_from (end + 1) s ss are from)

    -- no span has a byte of the range, from the first that starts past it on
    pub none_from : (s : Span M) (ss : List (Span M)) → AreSpans (s ∷ ss) → end < s.start → find passes (s ∷ ss) ≡ None
    none_from s ss are less = none_past (s ∷ ss) (apart_of (s ∷ ss) are) (omega (arith, less))
