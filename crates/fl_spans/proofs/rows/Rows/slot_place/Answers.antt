use Rattle.fl_spans.proofs.Reading.{run_placed, run_free}
use Rattle.fl_spans.proofs.rows.Rows.slot_place.Goals as goal

pub returns-clause-on : goal.returns-clause-on
returns-clause-on g c b i is = run_placed _ _ _ c.self.view_is _ b i _ c.self.invariant ((c.place.ensures.on b i).0 is)

pub returns-clause-free : goal.returns-clause-free
returns-clause-free g c is = run_free _ _ _ c.self.view_is _ c.self.invariant (c.place.ensures.free is)
