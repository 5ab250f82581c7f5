use Rattle.std.proofs.Common.{rules}
use Rattle.fl_audit.specs.Rows.{rules_of}
use Rattle.lockd_commands.proofs.RowLemmas.{gave_up}
use Rattle.lockd_commands.proofs.row.judge_row.Goals as goal

pub returns-in-Err-clause-failed : goal.returns-in-Err-clause-failed
returns-in-Err-clause-failed g c =
    gave_up (rules_of c.args.pieces.now) _ (g.W.Write.contents c.args.output.now) c.in-Err.fault c.failure_of.result c.failure_of.ensures
    (λ piece line is. c.in-Err.ensures.bad piece line (search rules)) (search rules)
