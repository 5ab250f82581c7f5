use Rattle.std.proofs.Common.{arith, ◌≡◌, ◌<◌, ◌+◌, length, refl}
use Rattle.std.proofs.lemmas.Grind.{common_steps}
use Rattle.lockd_commands.proofs.ScriptLemmas.{read_more, breaks}
use Rattle.lockd_commands.proofs.script.read_asks.Goals as goal

pub returns-in_default-clause-error : goal.returns-in_default-clause-error
returns-in_default-clause-error c =
    let more : 0 < length c.loop-rest.rest.now = grind (arith, common_steps) in
    let number : c.len.result + 1 ≡ length c.loop-rest.asks.items + 1 = grind (arith, common_steps) in
    breaks c.args.script.now c.loop-rest.rest.now c.loop-rest.asks.items (c.len.result + 1) c.loop-rest.invariant more number (c.in_default.ensures.none refl)

pub loop-rest-preserved : goal.loop-rest-preserved
loop-rest-preserved c =
    rw c.in_ok-push.ensures.items
    (read_more c.args.script.now c.loop-rest.rest.now c.in-Some.after.now c.loop-rest.asks.items c.in-Some.ask c.loop-rest.invariant c.in-Some.ensures.spelled
    c.in-Some.ensures.fits)
