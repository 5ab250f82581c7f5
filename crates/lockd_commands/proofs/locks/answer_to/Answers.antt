use Rattle.std.proofs.Common.{rules, string_bytes}
use Rattle.lockd_commands.proofs.LocksLemmas.{listed}
use Rattle.lockd_commands.proofs.locks.answer_to.Goals as goal

pub returns-in-Err-clause-bad : goal.returns-in-Err-clause-bad
returns-in-Err-clause-bad g c = λ n is. c.in-Err.ensures.bad n (search rules)

pub returns-in-Some-clause-answers : goal.returns-in-Some-clause-answers
returns-in-Some-clause-answers g c =
    listed c.args.rules c.in-Ok.judge.rules c.args.options (g.R.Read.remaining c.args.input.now) c.in-Ok.judge.lines
    c.in-Some.core.now (string_bytes c.in_ok-list_of-in-Some.field-0) c.in-Ok.ensures.rules c.in-Ok.ensures.heard
    c.in-Some.ensures.is c.in_ok-list_of-in-Some.ensures.text
