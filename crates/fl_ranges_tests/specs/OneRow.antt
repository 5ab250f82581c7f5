-- Rows that have one chain, and at most one row of spans.
use Rattle.std.specs.Prelude.{◌≡◌, ◌≤◌, length}
use Rattle.fl_spans.specs.Rows.{RowChains, chain_count, rows, runs_at}
use Rattle.fl_spans.specs.declared.span.Span.{Span}
use Rattle.fl_spans.specs.Spans.{AreSpans}

module _ {K M : Type 0} where
  -- one chain of rows with at most one row, whose runs are spans
  pub record IsOneRow (v : RowChains K (Span M)) : Type 0 where
    pub chains : chain_count v ≡ 1
    pub few : length (rows v 0) ≤ 1
    pub spans : AreSpans (runs_at (rows v 0) 0)
