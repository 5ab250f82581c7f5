use Rattle.std.proofs.Common.{subst}
use mathlib.Core.List.{IsPrefix}
use Rattle.fl_desk.proofs.Histories.{taken_kept}
use Rattle.fl_desk.proofs.Pieces.{taken_piece}
use Rattle.fl_desk.proofs.Prefixes.{of_another}
use Rattle.fl_desk.proofs.desk.Desk.take.Goals as goal

pub invariant_of-self-2 : goal.invariant_of-self-2
invariant_of-self-2 g c =
    let step = c.step.ensures in (
      taken_kept (g.J.Journal.lines c.self.inside.journal) _ _ _ _ c.args.worker c.args.order.now c.step.new.tolds.told _ c.self.invariant.0
          c.reserve.ensures.lines step.replies step.recorded step.lawful c.as_slice.ensures c.append.ensures.lines,
      taken_piece _ _ (g.J.Journal.lines c.self.inside.journal) _ _ _ _ _ c.args.worker c.args.order.now _ c.self.invariant.1 step.rules
          c.reserve.ensures.lines c.reserve.ensures.piece c.append.ensures.lines c.append.ensures.piece,
    )

pub returns-clause-kept : goal.returns-clause-kept
returns-clause-kept g c =
    let step = c.step.ensures in
    taken_kept (g.J.Journal.lines c.self.inside.journal) _ _ _ _ c.args.worker c.args.order.now c.step.new.tolds.told _ c.self.invariant.0 c.reserve.ensures.lines
    step.replies step.recorded step.lawful c.as_slice.ensures c.append.ensures.lines

pub returns-clause-stored : goal.returns-clause-stored
returns-clause-stored g c =
    subst (λ b. IsPrefix b.stored (g.J.Journal.stored c.append.new.journal)) c.self.view_is
    (of_another _ _ _ c.reserve.ensures.stored c.append.ensures.stored)
