use Rattle.std.proofs.Common.{inl, inr, rules}
use Rattle.clap.specs.Matches.{found_of}
use Rattle.lockd_cli.proofs.AskedLemmas.{some_said}
use Rattle.lockd_cli.proofs.options.is_verbose.Goals as goal

pub returns-in-Some : goal.returns-in-Some
returns-in-Some c =
    let found = found_of c.in-Some.options.now in
    let said = some_said c.args.matches.now found (search rules) in
    let flag = c.get_flag.ensures in
    inl (said.0, found, said.1, (flag.none, flag.value, flag.other))

pub returns-in-None : goal.returns-in-None
returns-in-None c =
    let flag = c.get_flag-in-None.ensures in
    inr (search rules, (flag.none, flag.value, flag.other))
