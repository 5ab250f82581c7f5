use Rattle.std.proofs.Common.{inl, rules, codes}
use Rattle.clap.specs.Matches.{found_of}
use Rattle.lockd_cli.proofs.AskedLemmas.{is_said, asked_so}
use Rattle.lockd_cli.proofs.options.asked_by.Goals as goal

pub returns-in-Some-script-default-clause-said : goal.returns-in-Some-script-default-clause-said
returns-in-Some-script-default-clause-said c =
    let found = found_of c.in-Some-script-default.options.now in
    let said = is_said c.args.matches.now (codes "script") found (search rules) (search rules) in
    inl (found, said, c.rules_of.ensures)

pub returns-in-Some-bytes-default-clause-said : goal.returns-in-Some-bytes-default-clause-said
returns-in-Some-bytes-default-clause-said c =
    let found = found_of c.in-Some-bytes-default.options.now in
    let said = is_said c.args.matches.now (codes "bytes") found (search rules) (search rules) in
    inl (found, said, c.rules_of-in-Some-bytes-default.ensures)

pub returns-in-Some-check-default-clause-said : goal.returns-in-Some-check-default-clause-said
returns-in-Some-check-default-clause-said c =
    let found = found_of c.in-Some-check-default.options.now in
    let said = is_said c.args.matches.now (codes "check") found (search rules) (search rules) in
    asked_so c.args.matches.now (codes "check") found c.check_of.result said c.check_of.ensures.check c.check_of.ensures.said

pub returns-in-Some-locks-default-clause-said : goal.returns-in-Some-locks-default-clause-said
returns-in-Some-locks-default-clause-said c =
    let found = found_of c.in-Some-locks-default.options.now in
    let said = is_said c.args.matches.now (codes "locks") found (search rules) (search rules) in
    asked_so c.args.matches.now (codes "locks") found c.locks_of.result said c.locks_of.ensures.locks c.locks_of.ensures.said

pub returns-in-Some-state-default-clause-said : goal.returns-in-Some-state-default-clause-said
returns-in-Some-state-default-clause-said c =
    let found = found_of c.in-Some-state-default.options.now in
    let said = is_said c.args.matches.now (codes "state") found (search rules) (search rules) in
    inl (found, said, c.said_rules_of.ensures)

pub returns-in-Some-serve-default-clause-said : goal.returns-in-Some-serve-default-clause-said
returns-in-Some-serve-default-clause-said c =
    let found = found_of c.in-Some-serve-default.options.now in
    let said = is_said c.args.matches.now (codes "serve") found (search rules) (search rules) in
    asked_so c.args.matches.now (codes "serve") found c.serve_of.result said c.serve_of.ensures.serve c.serve_of.ensures.said

pub returns-in-Some-drive-default-clause-said : goal.returns-in-Some-drive-default-clause-said
returns-in-Some-drive-default-clause-said c =
    let found = found_of c.in-Some-drive-default.options.now in
    let said = is_said c.args.matches.now (codes "drive") found (search rules) (search rules) in
    asked_so c.args.matches.now (codes "drive") found c.drive_of.result said c.drive_of.ensures.drive c.drive_of.ensures.said
