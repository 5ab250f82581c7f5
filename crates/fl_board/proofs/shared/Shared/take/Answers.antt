use Rattle.fl_board.proofs.Prefixes.{of_another}
use Rattle.fl_board.proofs.shared.Shared.take.Goals as goal

pub invariant_of-self : goal.invariant_of-self
invariant_of-self g c = (
  c.publish.ensures.shown,
  rw c.publish.ensures.stored (of_another _ _ _ c.self.invariant.1 c.take-taken.ensures.stored),
)
