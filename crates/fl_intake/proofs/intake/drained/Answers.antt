use Rattle.std.proofs.Common.{rules, ◌≡◌, ap, ◌∙◌, arith}
use Rattle.crossbeam_queue.specs.Passes.{view}
use Rattle.fl_intake.proofs.Steps.{takes, tells, shares_of, at_most_64_left, before_any_out, all_out}
use Rattle.fl_intake.proofs.intake.drained.Goals as goal

pub learn_as-requires-clause-rule : goal.learn_as-requires-clause-rule
learn_as-requires-clause-rule g c = tells _ _

pub pop_as-requires-clause-rule : goal.pop_as-requires-clause-rule
pop_as-requires-clause-rule g c = (takes _ _ (omega (arith, ap shares_of c.loop.invariant.1)), tells _ _)

pub loop-init : goal.loop-init
loop-init g c =
    let told = c.learn_as.ensures.rule.1 in
    let all : (view c.args.pass).shares ≡ 17 = omega (arith, told.shares, c.requires.pass.1) in (
      search rules,
      c.learn_as.ensures.queue.1 ∙ before_any_out _ _ all c.requires.room.0,
      at_most_64_left _ _ told all,
      c.requires.room.1,
    )

pub returns-in_default : goal.returns-in_default
returns-in_default g c =
    let none = c.in_default.ensures.rule.1 in
    record { left = all_out _ _ (view c.args.pass).taken c.loop.room.items c.loop.invariant.1 none.0 none.1 none.2 }
