-- The result of a session whose lines went to a journal.
use Rattle.std.specs.Prelude.{List, [], Option, None, Some}
use Rattle.fl_history.specs.declared.history.Line.{Line}
use Rattle.fl_session.specs.declared.done.Done.{Done}
use Rattle.fl_session.specs.declared.recorded.Recorded.{Recorded}

-- the lines of a journal, and none if there is no journal
abbrev pub journal_lines : {K : Type 0} → (K → List Line) → Option K → List Line
journal_lines lines None = []
journal_lines lines (Some journal) = lines journal

-- the result of a session, with the lines of its journal as its history
abbrev pub done_of : {K : Type 0} → (K → List Line) → Recorded K → Done
done_of lines it = record { history = journal_lines lines it.journal; fault = it.fault; refused = it.refused }
