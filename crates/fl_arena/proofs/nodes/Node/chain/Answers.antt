use Rattle.std.proofs.Common.{ap, ◌∙◌}
use Rattle.fl_arena.specs.Inside.Links.{chain_in}
use Rattle.fl_arena.proofs.HeldLemmas.{chain_in-held}
use Rattle.fl_arena.proofs.nodes.Node.chain.Goals as goal

pub returns : goal.returns
returns g c = chain_in-held _ _ _ _ c.self.invariant ∙ ap chain_in c.self.view_is
