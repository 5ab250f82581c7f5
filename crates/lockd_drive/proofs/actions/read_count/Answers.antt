use Rattle.std.proofs.Common.{◌≡◌, ◌≤◌, rules}
use Rattle.std.specs.Fmt.{decimal}
use Rattle.lockd_drive.proofs.ActionLemmas.{count_is}
use Rattle.lockd_drive.proofs.actions.read_count.Goals as goal

pub returns-clause-count : goal.returns-clause-count
returns-clause-count c =
    let low : 1 ≤ c.in-Some.count = search rules in
    let high : c.in-Some.count ≤ 1000 = search rules in
    let same : c.args.word.now ≡ decimal c.in-Some.count = search rules in
    count_is c.args.word.now c.in-Some.count low high same
