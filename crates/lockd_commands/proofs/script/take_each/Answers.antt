use Rattle.std.proofs.Common.{rules, ◌∙◌}
use Rattle.lockd_commands.proofs.ScriptLemmas.{take_more_asks}
use Rattle.lockd_commands.proofs.script.take_each.Goals as goal

pub loop-ask-preserved : goal.loop-ask-preserved
loop-ask-preserved c = (
  c.take.ensures.rules ∙ c.loop-ask.invariant.0,
  search rules,
  take_more_asks c.loop-ask.desk.lines c.take.new.self.lines c.args.asks.now c.loop-ask.ask-index c.ask-item.result c.take.new.tolds.told
      c.loop-ask.invariant.2 c.in_ok-take.ensures.lines c.loop-ask-test.true c.ask-item.is,
)
