use Rattle.std.proofs.Common.{ap, sym, ◌∙◌}
use Rattle.fl_arena.specs.Inside.Links.{with_next}
use Rattle.fl_arena.proofs.HeldLemmas.{with_next-held}
use Rattle.fl_arena.proofs.nodes.Node.set_next.Goals as goal

pub returns-then-is_some : goal.returns-then-is_some
returns-then-is_some g c =
    with_next-held _ _ _ _ _ c.self.invariant (sym c.is_some.ensures ∙ c.if-is_some.true) ∙ ap (with_next c.args.next) c.self.view_is
