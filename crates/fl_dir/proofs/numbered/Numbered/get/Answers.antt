use Rattle.std.proofs.Common.{◌≡◌, subst, sym, ◌∙◌}
use Rattle.std.specs.Option.{option_copied}
use Rattle.std.specs.FinMap.{get}
use Rattle.fl_dir.specs.Inside.Numbers.{Numbers}
use Rattle.fl_dir.proofs.Numbers.{in_range, get_at}
use Rattle.fl_dir.proofs.numbered.Numbered.get.Goals as goal

pub value_at-requires : goal.value_at-requires
value_at-requires g c = in_range c.self.inside.entries c.self.inside.mask c.self.inside.next c.args.number c.chain_of.result c.self.invariant c.chain_of.ensures

pub returns : goal.returns
returns g c =
    let own = c.self.inside in
    subst (λ (n : Numbers g.row.T.Denot). option_copied c.value_at.result ≡ get n.values c.args.number) c.self.view_is
    (c.value_at.ensures ∙ sym (get_at own.entries own.mask own.next c.args.number c.chain_of.result c.self.invariant c.chain_of.ensures))
