use Rattle.fl_spans.proofs.Reading.{chains_told}
use Rattle.fl_spans.proofs.rows.Rows.chain_count.Goals as goal

pub returns : goal.returns
returns g c = chains_told _ _ _ c.self.view_is _ c.self.invariant
