use Rattle.fl_arena.proofs.CallLemmas.{spells_value}
use Rattle.fl_arena.proofs.CountLemmas.{unlinked, linked_once}
use Rattle.fl_arena.proofs.chains.Arena.free.Goals as goal

pub returns-clause-unlinked : goal.returns-clause-unlinked
returns-clause-unlinked g c = unlinked _ _ _ _ _ (spells_value _ _ _ _ _ c.self.invariant c.self.view_is)

pub returns-clause-linked : goal.returns-clause-linked
returns-clause-linked g c = linked_once _ _ _ _ _ (spells_value _ _ _ _ _ c.self.invariant c.self.view_is)
