-- The spans of one row.
use Rattle.std.specs.Prelude.{◌<◌, List, length, slice_set}
use Rattle.fl_arena.specs.declared.cursors.Cursor.{Cursor}
use Rattle.fl_spans.specs.Rows.{Row, RowChains, row_lists, rows, runs_at, with_runs}
use Rattle.fl_spans.specs.declared.span.Span.{Span}

module _ {K M : Type 0} where
  -- the spans of the row at a cursor
  abbrev pub spans_at : RowChains K (Span M) → Cursor → List (Span M)
  spans_at v row = runs_at (rows v row.chain) row.index

  -- the rows of each chain once the row at a cursor has these spans; it goes if these are none
  abbrev pub with_spans : RowChains K (Span M) → Cursor → List (Span M) → List (List (Row K (Span M)))
  with_spans v row spans = slice_set (row_lists v) row.chain (with_runs (rows v row.chain) row.index spans)

module _ {K R : Type 0} where
  -- the cursor stands at a row, and not at the end of the rows
  abbrev pub IsThere : RowChains K R → Cursor → Type 0
  IsThere v row = row.index < length (rows v row.chain)
