-- What a stroke leaves: the bytes from start to end get a mark, or lose theirs (POSIX.1-2017 `fcntl`, F_SETLK).
use Rattle.std.specs.Prelude.{ℕ, ◌+◌, ◌-◌, Bool, ◌&&◌, ◌==◌, nat_lt, min, max, Option, Some, None, List, [], ◌∷◌, ◌++◌}
use Rattle.std.specs.Prelude.{if◌then◌else◌}
use Rattle.fl_spans.specs.declared.span.Span.{Span}

module _ {M : Type 0} where
  -- what spans have before the byte start
  abbrev pub before : ℕ → List (Span M) → List (Span M)
  before start [] = []
  before start (s ∷ ss) =
      if nat_lt s.start start then record s { end = min s.end (start - 1) } ∷ before start ss else before start ss

  -- what spans have behind the byte end
  abbrev pub behind : ℕ → List (Span M) → List (Span M)
  behind end [] = []
  behind end (s ∷ ss) =
      if nat_lt end s.end then record s { start = max s.start (end + 1) } ∷ behind end ss else behind end ss

  -- the range with the mark that is set, or nothing
  abbrev pub struck : ℕ → ℕ → Option M → List (Span M)
  struck start end None = []
  struck start end (Some mark) = record { start = start; end = end; mark = mark } ∷ []

module _ {M : Type 0} (same : M → M → Bool) where
  -- the second begins right behind the first, with the same mark
  abbrev pub touches : Span M → Span M → Bool
  touches s t = (t.start == s.end + 1) && same s.mark t.mark

  -- a span before others, as one with the first of them if it touches it
  abbrev pub join : Span M → List (Span M) → List (Span M)
  join s [] = s ∷ []
  join s (t ∷ ts) = if touches s t then record t { start = s.start } ∷ ts else s ∷ t ∷ ts

  -- those that touch as one
  abbrev pub joined : List (Span M) → List (Span M)
  joined [] = []
  joined (s ∷ ss) = join s (joined ss)

  -- the spans after a stroke: what they have outside of the range, and the range itself, where those that touch are one
  abbrev pub after_stroke : ℕ → ℕ → Option M → List (Span M) → List (Span M)
  after_stroke start end mark spans = joined (before start spans ++ (struck start end mark ++ behind end spans))
