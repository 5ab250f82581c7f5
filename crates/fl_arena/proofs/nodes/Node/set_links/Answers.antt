use Rattle.std.proofs.Common.{ap, sym, ◌∙◌}
use Rattle.fl_arena.specs.Inside.Links.{with_links}
use Rattle.fl_arena.proofs.HeldLemmas.{with_links-held}
use Rattle.fl_arena.proofs.nodes.Node.set_links.Goals as goal

pub returns-then-is_some : goal.returns-then-is_some
returns-then-is_some g c =
    with_links-held _ _ _ _ _ _ _ c.self.invariant (sym c.is_some.ensures ∙ c.if-is_some.true)
    ∙ ap (with_links c.args.chain c.args.previous c.args.next) c.self.view_is
