use Rattle.std.proofs.Common.{◌≡◌, ◌∙◌, ◌+◌, ◌<◌, ◌++◌, [], ◌∷◌, ap, arith, get_or, length, length-append, subst, sym}
use Rattle.fl_counter.specs.Answered.{AreAnsweredLast, AreBehind, answered_by, step_lines}
use Rattle.fl_workers_tests.proofs.SeatLemmas.{answered_last, answered_more, behind_more}
use Rattle.fl_workers_tests.proofs.tests.tally.TallyCounter.hand_in_all.Goals as goal

pub loop-order-preserved : goal.loop-order-preserved
loop-order-preserved g c =
    let so_far = c.loop-order.invariant in
    let stepped = c.hand_in.ensures in
    let took = c.in_ok-hand_in.ensures.taken in
    let pushed = c.push-in-loop-order.ensures in
    let orders = c.args.orders.now in
    let order = c.order-item.result in
    let lists = c.loop-order.lists.lists in
    let lists_now = c.push-in-loop-order.new.self.lists in
    let told = c.hand_in.new.tolds.told in
    let lines = c.loop-order.seat.lines.items in
    let lines_now = c.hand_in.new.self.lines.items in
    let worker = c.args.seat.now.worker in
    let is : lists_now ≡ lists ++ told ∷ [] = pushed.lists ∙ ap (λ l. lists ++ l ∷ []) c.as_slice.ensures in
    let longer : length lists_now ≡ length lists + 1 = ap length is ∙ length-append lists (told ∷ []) in
    let within : length lists < length orders = omega (arith, so_far.each) in
    let at = subst (λ n. order ≡ get_or orders n order) (sym so_far.each) c.order-item.is in
    let more : lines_now ≡ lines ++ step_lines worker order told =
    took.1 ∙ ap (λ by. lines ++ step_lines by order told) so_far.own in
    let last = answered_last worker lines lines_now order told more in
    record {
      room = stepped.room ∙ so_far.room;
      lists = (pushed.room.0 ∙ so_far.lists.0, pushed.places ∙ so_far.lists.1);
      own = stepped.same ∙ so_far.own;
      count = omega (arith, took.0, so_far.count, longer);
      each = omega (arith, so_far.each, longer);
      taken = subst (λ l. AreAnsweredLast (answered_by worker c.args.seat.now.lines.items) orders l
          (answered_by worker lines_now)) (sym is)
          (answered_more _ _ (answered_by worker lines_now) orders lists order told so_far.taken within at last);
      behind = subst (λ l. AreBehind worker c.args.seat.now.lines.items orders l lines_now) (sym is)
          (behind_more worker c.args.seat.now.lines.items lines lines_now orders lists order told so_far.behind within at more);
      none = λ none. absurd (omega (arith, longer, none));
      free = λ none. absurd (omega (arith, longer, ap length none));
    }
