use Rattle.fl_spans.proofs.Reading.{free_told}
use Rattle.fl_spans.proofs.rows.Rows.free.Goals as goal

pub returns : goal.returns
returns g c = free_told _ _ _ c.self.view_is _ _ c.self.invariant c.free.ensures.total
