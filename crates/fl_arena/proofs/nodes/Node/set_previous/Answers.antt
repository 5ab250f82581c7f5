use Rattle.std.proofs.Common.{ap, sym, ◌∙◌}
use Rattle.fl_arena.specs.Inside.Links.{with_previous}
use Rattle.fl_arena.proofs.HeldLemmas.{with_previous-held}
use Rattle.fl_arena.proofs.nodes.Node.set_previous.Goals as goal

pub returns-then-is_some : goal.returns-then-is_some
returns-then-is_some g c =
    with_previous-held _ _ _ _ _ c.self.invariant (sym c.is_some.ensures ∙ c.if-is_some.true) ∙ ap (with_previous c.args.previous) c.self.view_is
