use Rattle.std.proofs.Common.{rules}
use Rattle.lockd_commands.proofs.CheckLemmas.{judged, judged_in_part}
use Rattle.lockd_commands.proofs.check.judge.Goals as goal

pub returns-clause-judged : goal.returns-clause-judged
returns-clause-judged g c =
    judged c.args.rules c.args.options (g.R.Read.remaining c.args.input.now) (g.W.Write.contents c.args.output.now) (g.W.Write.contents c.write_all.new.output)
    c.in-Ok.audited c.quiet_told-told.result c.as_bytes.result.now c.in-Ok.ensures.audited c.quiet_told-told.ensures (search rules) (search rules)

pub returns-in_err-write_all-clause-begun : goal.returns-in_err-write_all-clause-begun
returns-in_err-write_all-clause-begun g c = λ _.
    judged_in_part c.args.rules c.args.options (g.R.Read.remaining c.args.input.now) (g.W.Write.contents c.args.output.now) (g.W.Write.contents c.write_all.new.output)
    c.in-Ok.audited c.quiet_told-told.result c.as_bytes.result.now c.in-Ok.ensures.audited c.quiet_told-told.ensures (search rules) (search rules)
