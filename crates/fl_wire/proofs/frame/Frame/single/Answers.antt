-- What a message says is the order that it was laid out from.
use Rattle.std.proofs.Common.{◌∙◌, ap}
use Rattle.fl_wire.proofs.Messages.{reads_back}
use Rattle.fl_wire.specs.Says.{said}
use Rattle.fl_wire.proofs.frame.Frame.single.Goals as goal

pub returns-clause-back : goal.returns-clause-back
returns-clause-back c = reads_back c.args.self.now c.of.result (c.of.ensures ∙ ap said c.self.view_is)
