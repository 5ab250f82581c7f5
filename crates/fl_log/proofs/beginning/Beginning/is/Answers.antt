use Rattle.std.proofs.Common.{◌≡◌, List, length, arith, subst, ap}
use Rattle.std.proofs.lemmas.Bool.Decides.{nat_tests}
use mathlib.Core.List.{IsPrefix}
use Rattle.fl_log.proofs.Prefixes.{shorter_begins, is_whole}
use Rattle.fl_log.proofs.beginning.Beginning.is.Goals as goal

pub returns-clause-same : goal.returns-clause-same
returns-clause-same g c =
    let both = c.learn.new.self.log in
    let one = c.self.inside.seen.log in
    let other = c.other.inside.seen.log in
    let this : IsPrefix one both = subst (λ (l : List _). IsPrefix l both) (ap (λ s. s.log) c.again-both.ensures) c.learn.ensures.2 in
    rw (← c.self.view_is, ← c.other.view_is) (
      λ test. let alike : length one ≡ length other = grind (arith, nat_tests, test, c.self.invariant.0, c.other.invariant.0) in
          is_whole one other (shorter_begins one other both this c.learn.ensures.3 (omega (arith, alike))) (omega (arith, alike)),
      λ same. let alike : length one ≡ length other = ap length same in
          grind (arith, nat_tests, alike, c.self.invariant.0, c.other.invariant.0),
    )
