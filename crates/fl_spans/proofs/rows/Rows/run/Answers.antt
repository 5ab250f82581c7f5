use Rattle.fl_spans.proofs.Reading.{run_told}
use Rattle.fl_spans.proofs.rows.Rows.run.Goals as goal

pub returns-clause-run : goal.returns-clause-run
returns-clause-run g c = run_told _ _ _ c.self.view_is c.args.run.now _ c.item.ensures.at_index
