use Rattle.std.proofs.Common.{length, ap, arith}
use Rattle.fl_waiting.proofs.Claims.{all_requests}
use Rattle.fl_waiting.proofs.parked.Parked.count.Goals as goal

pub returns-clause-is : goal.returns-clause-is
returns-clause-is c = omega (arith, all_requests c.self.inside.claims c.self.invariant.0, c.free.ensures.total, c.self.invariant.1, ap length c.self.view_is)
