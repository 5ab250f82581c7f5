use Rattle.std.proofs.Common.{◌≤◌, length, arith}
use Rattle.std.proofs.lemmas.Grind.{common_steps}
use Rattle.lockd_drive.proofs.FillLemmas.{filled_more, filled_keeps}
use Rattle.lockd_drive.proofs.reply.fill.Goals as goal

pub loop-at-preserved : goal.loop-at-preserved
loop-at-preserved g c =
    let inside : c.loop-at.at ≤ length c.loop-at.room = grind (arith, common_steps) in
    filled_more c.args.from c.args.to c.loop-at.at c.in-Ok.n c.args.room.now c.loop-at.room c.read_between.new.room _ _ _
    c.loop-at.invariant inside c.read_between.ensures.front c.in-Ok.ensures.within c.in-Ok.ensures.read

pub returns-in-Err-clause-front : goal.returns-in-Err-clause-front
returns-in-Err-clause-front g c =
    filled_keeps c.args.from c.args.to c.loop-at.at c.args.room.now c.loop-at.room c.read_between.new.room _ _
    c.loop-at.invariant c.read_between.ensures.front
