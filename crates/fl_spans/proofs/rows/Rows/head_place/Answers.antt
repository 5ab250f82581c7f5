use Rattle.fl_spans.proofs.Reading.{head_placed}
use Rattle.fl_spans.proofs.rows.Rows.head_place.Goals as goal

pub returns-clause-on : goal.returns-clause-on
returns-clause-on g c b i is = head_placed _ _ _ c.self.view_is b i _ ((c.place.ensures.on b i).0 is)
