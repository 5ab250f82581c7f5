use Rattle.std.proofs.Common.{◌≡◌, ◌++◌, ◌+◌, ap, length, subst, sym}
use Rattle.std.proofs.lemmas.Result.{on_err_weaker, on_ok_weaker}
use Rattle.fl_counter.specs.Answered.{IsAnsweredLast, answered_by, step_lines}
use Rattle.fl_workers_tests.proofs.SeatLemmas.{answered_last, begin_themselves}
use Rattle.fl_workers_tests.proofs.tests.tally.TallyCounter.hand_in_one.Goals as goal

pub returns-clause-taken : goal.returns-clause-taken
returns-clause-taken g c =
    let it = c.hand_in in
    let worker = c.args.seat.now.worker in
    let lines = c.args.seat.now.lines.items in
    let now = it.new.self.lines.items in
    let order = c.args.order.now in
    let told = it.new.tolds.told in
    let Took : Type 0 = (length it.new.self.orders.items ≡ length c.args.seat.now.orders.items + 1)
    × (now ≡ lines ++ step_lines worker order told) in
    on_ok_weaker it.result
    (λ (took : Took). subst (λ n. IsAnsweredLast (answered_by worker lines) order told (answered_by n now)) (sym it.ensures.same)
    (answered_last worker lines now order told took.1)) it.ensures.taken

pub returns-clause-behind : goal.returns-clause-behind
returns-clause-behind g c =
    let it = c.hand_in in
    let lines = c.args.seat.now.lines.items in
    let Took : Type 0 = (length it.new.self.orders.items ≡ length c.args.seat.now.orders.items + 1)
    × (it.new.self.lines.items ≡ lines ++ step_lines c.args.seat.now.worker c.args.order.now it.new.tolds.told) in
    on_ok_weaker it.result (λ (took : Took). (lines, begin_themselves lines, took.1)) it.ensures.taken
