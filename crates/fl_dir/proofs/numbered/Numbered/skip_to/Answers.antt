use Rattle.std.proofs.Common.{◌≤◌, ap, sym, subst}
use Rattle.fl_dir.specs.Inside.Numbers.{Numbers}
use Rattle.fl_dir.proofs.Numbers.{skipped_numbers}
use Rattle.fl_dir.proofs.numbered.Numbered.skip_to.Goals as goal

pub invariant_of-self : goal.invariant_of-self
invariant_of-self g c =
    let own = c.self.inside in
    skipped_numbers own.entries own.mask own.next c.args.number c.self.invariant
    (subst (λ (n : Numbers g.row.T.Denot). n.next ≤ c.args.number) (sym c.self.view_is) c.requires)

pub returns : goal.returns
returns g c = ap (λ (n : Numbers g.row.T.Denot). record n { next = c.args.number }) c.self.view_is
