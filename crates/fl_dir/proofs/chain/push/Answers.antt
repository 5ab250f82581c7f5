use Rattle.std.proofs.Common.{◌∙◌}
use Rattle.fl_dir.proofs.Chained.{insert_last, pushed}
use Rattle.fl_dir.proofs.chain.push.Goals as goal

pub returns : goal.returns
returns g c =
    pushed c.args.entries.now c.insert.new.self c.args.chain c.args.number c.args.value c.requires.sorted c.requires.above c.insert.ensures.size
    (c.in-Ok.ensures.items ∙ insert_last c.args.entries.now c.args.chain (c.args.number, c.args.value)) c.insert.ensures.others
