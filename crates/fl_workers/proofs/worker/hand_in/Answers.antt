use Rattle.std.proofs.Common.{◌<◌, ◌≤◌, [], ◌∷◌, take, length, arith, refl, rules, subst, sym}
use Rattle.fl_counter.specs.Asked.{Orders}
use Rattle.fl_workers.proofs.HandedLemmas.{few_lists, lists_handed}
use Rattle.fl_workers.proofs.BatchLemmas.{take_read}
use Rattle.fl_workers.proofs.WorkedLemmas.{one_refused, then_worked}
use Rattle.fl_workers.specs.Worked.{HasWorked, standing}
use Rattle.fl_workers.proofs.worker.hand_in.Goals as goal

pub returns-in-Ok-clause-some : goal.returns-in-Ok-clause-some
returns-in-Ok-clause-some g c =
    let orders = c.args.orders.now in
    let lists = c.hand_in_all-result.new.lists.lists in
    let most : length lists ≤ length orders = few_lists _ _ orders lists c.hand_in_all-result.ensures.taken in
    let some : 0 < length lists = c.in-Ok.ensures.some c.requires.some in
    (omega arith, omega arith)

pub returns-in-Ok-clause-did : goal.returns-in-Ok-clause-did
returns-in-Ok-clause-did g c =
    let taken = c.hand_in_all-result.ensures in
    rw c.count-handed.ensures
    (lists_handed g.C.Counter.shows c.args.orders.now c.hand_in_all-result.new.lists.lists _ _ _ taken.own taken.count
    taken.taken taken.behind taken.stored taken.no_more c.give_lists-lost.ensures)

pub returns-in-Err-clause-did : goal.returns-in-Err-clause-did
returns-in-Err-clause-did g c =
    let there = standing g.C.Counter.worker g.C.Counter.count g.C.Counter.answered g.C.Counter.front g.C.Counter.stored in
    let taken = c.hand_in_all-result.ensures in
    let orders = c.args.orders.now in
    let lists = c.hand_in_all-result.new.lists.lists in
    let order = c.index-orders-handed.result in
    let p = there c.args.post.now.seat c.args.post.now.own in
    let q = there c.hand_in_all-result.new.seat c.give_lists-lost.new.own in
    let r = there c.hand_in_all-result.new.seat c.refuse-more.new.own in
    let lost = c.give_lists-lost.result in
    let any = c.or.result.refused in
    let all_lost = c.or.result.lost in
    let first = rw (← c.count-handed.ensures) at
    (lists_handed g.C.Counter.shows orders lists p q lost taken.own taken.count taken.taken taken.behind taken.stored
    taken.no_more c.give_lists-lost.ensures) in
    let second = one_refused g.C.Counter.shows order q r c.refuse-more.result.refused c.refuse-more.result.lost
    c.refuse-more.ensures.refused refl (refl, refl) refl refl c.refuse-more.ensures.sent in
    let P : Orders → Type 0 = λ done. HasWorked g.C.Counter.shows done p r any all_lost in
    subst P (sym (take_read orders c.count-handed.result order (search rules) c.index-orders-handed.is))
    (then_worked g.C.Counter.shows (take c.count-handed.result orders) (order ∷ []) p q r _ _ any lost _ all_lost
    c.or.ensures first second)
