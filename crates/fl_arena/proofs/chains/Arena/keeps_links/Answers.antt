use Rattle.fl_arena.proofs.CallLemmas.{spells_value}
use Rattle.fl_arena.proofs.CountLemmas.{linked_once}
use Rattle.fl_arena.proofs.chains.Arena.keeps_links.Goals as goal

pub returns : goal.returns
returns g c = linked_once _ _ _ _ _ (spells_value _ _ _ _ _ c.self.invariant c.self.view_is)
