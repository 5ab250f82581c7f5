use Rattle.std.proofs.Common.{[], ◌∷◌, ◌++◌, sym, subst}
use Rattle.fl_history.specs.declared.history.Line.TheVariants as line
use Rattle.fl_judge.specs.Inside.Heard.{LeadsUpTo, GoesOnAlike}
use Rattle.fl_judge.specs.declared.replay.Replay.{Replay}
use Rattle.fl_judge.specs.declared.replay.Stage.TheVariants.{Taking}
use Rattle.fl_judge.proofs.Heads.{either_part, go_on}
use Rattle.fl_judge.proofs.Replays.{state_late}
use Rattle.fl_judge.proofs.replay.Replay.take_state.Goals as goal
use Rattle.fl_order.specs.declared.state_part.StateLine.{StateLine}

pub returns-in-Part-clause-goes : goal.returns-in-Part-clause-goes
returns-in-Part-clause-goes c =
    let by = c.parts_are_told_one_by_one.ensures in
    let after : Replay = record c.args.self.now { core = c.restore.new.core } in
    subst (λ (s : StateLine). GoesOnAlike c.args.self.now (line.State s) c.restore.result after) (sym c.in-Part.is)
    (either_part by.told by.shown c.a_head_leads_to_what_it_tells.ensures.next by.fits c.args.self.now c.in-Part.part c.in-Telling.is
    c.restore.result c.restore.new.core c.restore.ensures.fits c.restore.ensures.after)

pub returns-in-Go-clause-goes : goal.returns-in-Go-clause-goes
returns-in-Go-clause-goes c =
    let after : Replay = record c.args.self.now { stage = Taking } in
    λ lines up. subst (λ (s : StateLine). LeadsUpTo (lines ++ line.State s ∷ []) after) (sym c.in-Go.is)
    (go_on c.a_head_leads_to_what_it_tells.ensures.leads c.args.self.now c.in-Telling.is lines up)

pub returns-in-Taking-clause-goes : goal.returns-in-Taking-clause-goes
returns-in-Taking-clause-goes c =
    state_late c.a_legal_history_goes_on_by_orders.ensures.next c.args.self.now c.args.state.now c.in-Taking.is
