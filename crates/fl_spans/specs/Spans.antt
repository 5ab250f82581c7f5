-- Spans: rows of bytes that carry one mark.
use Rattle.std.specs.Prelude.{◌≡◌, ◌≢◌, ℕ, ◌+◌, ◌≤◌, ◌<◌, Bool, ◌&&◌, nat_le, Option, Some, None, List, [], ◌∷◌}
use Rattle.std.specs.Prelude.{if◌then◌else◌}
use Rattle.fl_spans.specs.declared.span.Span.{Span}

module _ {M : Type 0} where
  -- the span has a byte of those from start to end
  abbrev pub overlaps : ℕ → ℕ → Span M → Bool
  overlaps start end s = nat_le s.start end && nat_le start s.end

  -- the mark of a byte, or none if no span has it
  abbrev pub mark_at : List (Span M) → ℕ → Option M
  mark_at [] b = None
  mark_at (s ∷ ss) b = if overlaps b b s then Some s.mark else mark_at ss b

  -- it has a byte, and none past 2^63 - 1
  pub record IsSpan (s : Span M) : Type 0 where
    pub ordered : s.start ≤ s.end
    pub bounded : s.end ≤ 9223372036854775807

  -- the second begins behind the first, and has another mark if no byte lies between
  pub record Precedes (s t : Span M) : Type 0 where
    pub apart : s.end < t.start
    pub whole : t.start ≡ s.end + 1 → s.mark ≢ t.mark

  -- a span precedes the next one, if there is one
  abbrev pub PrecedesNext : Span M → List (Span M) → Type 0
  PrecedesNext s [] = Unit {0}
  PrecedesNext s (t ∷ ts) = Precedes s t

  -- spans in order, apart, and each as long as it can be
  abbrev pub AreSpans : List (Span M) → Type 0
  AreSpans [] = Unit {0}
  AreSpans (s ∷ ss) = IsSpan s × PrecedesNext s ss × AreSpans ss
