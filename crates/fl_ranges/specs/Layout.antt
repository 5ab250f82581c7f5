-- How rows of spans hold locks: one row for each key that has a mark.
use Rattle.std.specs.Prelude.{List, Some, map}
use Rattle.std.specs.List.{flat_map}
use Rattle.fl_spans.specs.declared.span.Span.{Span}
use Rattle.fl_spans.specs.Rows.{Row, RowChains, row_lists}
use Rattle.fl_marks.specs.declared.lock.Key.{Key}
use Rattle.fl_marks.specs.declared.lock.Mark.{Mark}
use Rattle.fl_marks.specs.declared.run.Run.{Run}
use Rattle.fl_marks.specs.Marking.{Marking, Stroke, marking_of}

-- the strokes that would set the marks of a row
abbrev pub strokes_of : Row Key (Span Mark) → List Stroke
strokes_of r = map (λ s. record { key = r.key; start = s.start; end = s.end; mark = Some s.mark }) r.runs

-- the marking that the rows of all chains give
abbrev pub marking_in : RowChains Key (Span Mark) → Marking
marking_in v = marking_of (flat_map (λ rs. flat_map strokes_of rs) (row_lists v))

-- a span of a key, as a run
abbrev pub run_of : Key → Span Mark → Run
run_of key s = record { key = key; start = s.start; end = s.end; mark = s.mark }

-- the runs of a row
abbrev pub runs_of : Row Key (Span Mark) → List Run
runs_of r = map (run_of r.key) r.runs

-- the runs of rows, one row after another
abbrev pub runs_in : List (Row Key (Span Mark)) → List Run
runs_in rs = flat_map runs_of rs

-- all runs, chain after chain
abbrev pub table_runs : RowChains Key (Span Mark) → List Run
table_runs v = flat_map runs_in (row_lists v)
