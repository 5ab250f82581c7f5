use Rattle.std.proofs.Common.{◌≤◌, ◌++◌, ◌∙◌, ap, arith, length, length-drop, subst, sym, take}
use Rattle.std.proofs.lemmas.List.{take_all, take_rest}
use Rattle.fl_counter.specs.Asked.{Orders}
use Rattle.fl_workers.proofs.BatchLemmas.{take_then}
use Rattle.fl_workers.proofs.WorkedLemmas.{none_worked, then_worked}
use Rattle.fl_workers.specs.Worked.{HasWorked, standing}
use Rattle.fl_workers.proofs.worker.handle_all.Goals as goal

pub loop-done-init : goal.loop-done-init
loop-done-init g c = record {
  within = omega arith;
  room = c.requires.room;
  worked = none_worked g.C.Counter.shows _ _ _ c.none-failures.ensures.0;
}

pub loop-done-preserved : goal.loop-done-preserved
loop-done-preserved g c =
    let there = standing g.C.Counter.worker g.C.Counter.count g.C.Counter.answered g.C.Counter.front g.C.Counter.stored in
    let orders = c.args.orders.now in
    let done = c.loop-done.done in
    let handled = c.handle_next-handled.result.0 in
    let more = c.handle_next-handled.ensures in
    let all = c.or-failures.result in
    let p = there c.args.post.now.seat c.args.post.now.own in
    let q = there c.loop-done.post.seat c.loop-done.post.own in
    let r = there c.handle_next-handled.new.post.seat c.handle_next-handled.new.post.own in
    let P : Orders → Type 0 = λ l. HasWorked g.C.Counter.shows l p r all.refused all.lost in
    let rest = take_rest orders done in
    let within = subst (λ (l : Orders). handled ≤ length l) rest more.some.1 in
    record {
      within = omega (arith, within, length-drop done orders);
      room = more.room;
      worked = subst P (ap (λ l. take done orders ++ take handled l) rest ∙ sym (take_then done handled orders))
          (then_worked g.C.Counter.shows (take done orders) _ p q r _ _ all.refused _ _ all.lost c.or-failures.ensures
          c.loop-done.invariant.worked more.did);
    }

pub returns-clause-did : goal.returns-clause-did
returns-clause-did g c =
    let there = standing g.C.Counter.worker g.C.Counter.count g.C.Counter.answered g.C.Counter.front g.C.Counter.stored in
    let so_far = c.loop-done in
    let P : Orders → Type 0 = λ l. HasWorked g.C.Counter.shows l (there c.args.post.now.seat c.args.post.now.own)
    (there so_far.post.seat so_far.post.own) so_far.failures.refused so_far.failures.lost in
    subst P (take_all so_far.done c.args.orders.now c.loop-done-test.false) so_far.invariant.worked
