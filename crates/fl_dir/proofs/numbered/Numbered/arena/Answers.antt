use Rattle.std.proofs.Common.{ap, subst}
use Rattle.fl_dir.specs.Inside.Numbers.{Numbers, IsHome}
use Rattle.fl_dir.specs.Inside.Spread.{IsSpread}
use Rattle.fl_dir.proofs.Listed.{is_home}
use Rattle.fl_dir.proofs.Numbers.{is_spread}
use Rattle.fl_dir.proofs.numbered.Numbered.arena.Goals as goal

pub returns-clause-values : goal.returns-clause-values
returns-clause-values g c = ap (λ (n : Numbers g.row.T.Denot). n.values) c.self.view_is

pub returns-clause-home : goal.returns-clause-home
returns-clause-home g c =
    let own = c.self.inside in
    subst (λ (n : Numbers g.row.T.Denot). IsHome own.entries n) c.self.view_is
    (is_home own.entries own.mask own.next c.self.invariant c.keeps_links.ensures)

pub returns-clause-linked : goal.returns-clause-linked
returns-clause-linked g c = c.keeps_links.ensures

pub returns-clause-spread : goal.returns-clause-spread
returns-clause-spread g c =
    let own = c.self.inside in
    subst (λ (n : Numbers g.row.T.Denot). IsSpread own.entries n.values) c.self.view_is (is_spread own.entries own.mask own.next c.self.invariant)
