use Rattle.std.proofs.Common.{◌≤◌, List, length, arith, subst, ap}
use Rattle.std.proofs.lemmas.Bool.Decides.{nat_tests}
use mathlib.Core.List.{IsPrefix}
use Rattle.fl_log.proofs.Prefixes.{shorter_begins, no_longer}
use Rattle.fl_log.proofs.beginning.Beginning.begins.Goals as goal

pub returns : goal.returns
returns g c =
    let both = c.learn.new.self.log in
    let one = c.self.inside.seen.log in
    let other = c.other.inside.seen.log in
    let this : IsPrefix one both = subst (λ (l : List _). IsPrefix l both) (ap (λ s. s.log) c.again-both.ensures) c.learn.ensures.2 in
    rw (← c.self.view_is, ← c.other.view_is) (record {
      begins = (
        λ test. shorter_begins one other both this c.learn.ensures.3 (grind (arith, nat_tests, test, c.self.invariant.0, c.other.invariant.0)),
        λ begins. let short : length one ≤ length other = no_longer one other begins in
            grind (arith, nat_tests, short, c.self.invariant.0, c.other.invariant.0),
      );
    })
