use Rattle.std.proofs.Common.{◌≡◌, ◌-◌, subst, arith}
use Rattle.std.specs.FinMap.{len}
use Rattle.fl_dir.specs.Inside.Numbers.{Numbers}
use Rattle.fl_dir.proofs.Numbers.{as_many}
use Rattle.fl_dir.proofs.numbered.Numbered.free.Goals as goal

pub returns : goal.returns
returns g c =
    let own = c.self.inside in
    let all = as_many own.entries own.mask own.next c.self.invariant in
    subst (λ (n : Numbers g.row.T.Denot). c.free.result ≡ n.limit - len n.values) c.self.view_is (omega (arith, all, c.free.ensures.total))
