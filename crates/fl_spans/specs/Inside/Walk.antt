-- What a stroke's walk takes from the spans that it passes.
use Rattle.std.specs.Prelude.{ℕ, ◌+◌, ◌-◌, Bool, false, ◌&&◌, ◌||◌, ◌==◌, nat_lt, nat_le, min, max, Option, Some, None}
use Rattle.std.specs.Prelude.{List, [], ◌∷◌, if◌then◌else◌}
use Rattle.fl_spans.specs.declared.rows.Pieces.{Pieces}
use Rattle.fl_spans.specs.declared.span.Span.{Span}
use Rattle.fl_spans.specs.declared.change.Change.{Change}

module _ {M : Type 0} (same : M → M → Bool) where
  -- there is a mark, and it is this one
  abbrev pub is_mark : Option M → M → Bool
  is_mark None other = false
  is_mark (Some mark) other = same mark other

  -- the span has a byte from start on, or ends right before it with the mark
  abbrev pub reaches : ℕ → Option M → Span M → Bool
  reaches start mark s = nat_le start s.end || ((s.end + 1 == start) && is_mark mark s.mark)

  -- the span begins up to end, or right behind it with the mark
  abbrev pub begins_by : ℕ → Option M → Span M → Bool
  begins_by end mark s = nat_le s.start end || ((s.start - 1 == end) && is_mark mark s.mark)

  -- the change once it takes in one span more
  abbrev pub absorbed : ℕ → ℕ → Option M → Change M → Span M → Change M
  absorbed start end mark c s =
      if is_mark mark s.mark then record c { start = min c.start s.start; end = max c.end s.end } else record c {
        before = if nat_lt s.start start then Some (record s { end = start - 1 }) else c.before;
        after = if nat_lt end s.end then Some (record s { start = end + 1 }) else c.after;
      }

  -- the change once it took in all spans that begin by the end
  abbrev pub gathered : ℕ → ℕ → Option M → Change M → List (Span M) → Change M
  gathered start end mark c [] = c
  gathered start end mark c (s ∷ ss) =
      if begins_by end mark s then gathered start end mark (absorbed start end mark c s) ss else c

module _ {M : Type 0} where
  -- the new span, if there is a mark
  abbrev pub new_span : Option M → Change M → Option (Span M)
  new_span None c = None
  new_span (Some mark) c = Some (record { start = c.start; end = c.end; mark = mark })

  -- what a change puts in
  abbrev pub pieces_with : Option M → Change M → Pieces (Span M)
  pieces_with mark c = record { before = c.before; new = new_span mark c; after = c.after }
