use Rattle.std.proofs.Common.{◌≤◌, ◌∙◌, [], false, take, ap, arith, refl, subst, sym}
use Rattle.std.proofs.lemmas.List.{take-take}
use Rattle.fl_counter.specs.Asked.{Orders}
use Rattle.fl_workers.proofs.BatchLemmas.{take_first}
use Rattle.fl_workers.proofs.WorkedLemmas.{looked_in_vain, one_looked, then_worked}
use Rattle.fl_workers.specs.Worked.{HasWorked, standing}
use Rattle.fl_workers.proofs.worker.handle_next.Goals as goal

pub returns-in-Some-clause-did : goal.returns-in-Some-clause-did
returns-in-Some-clause-did g c =
    let there = standing g.C.Counter.worker g.C.Counter.count g.C.Counter.answered g.C.Counter.front g.C.Counter.stored in
    let seat = c.looked.ensures in
    let shown = c.in-Some.ensures in
    let order = c.index-orders-0.result in
    let p = there c.args.post.now.seat c.args.post.now.own in
    let q = there c.looked.new.seat c.give-lost.new.own in
    let P : Orders → Type 0 = λ done. HasWorked g.C.Counter.shows done p q false c.give-lost.result in
    subst P (sym (take_first c.args.orders.now order c.requires.some c.index-orders-0.is))
    (one_looked g.C.Counter.shows order c.in-Some.told p q c.give-lost.result seat.own seat.kept seat.stored seat.front
    (shown.reads refl) shown.had shown.shown c.give-lost.ensures)

pub returns-then-many-eq1-clause-did : goal.returns-then-many-eq1-clause-did
returns-then-many-eq1-clause-did g c =
    let there = standing g.C.Counter.worker g.C.Counter.count g.C.Counter.answered g.C.Counter.front g.C.Counter.stored in
    let seat = c.looked.ensures in
    let order = c.index-orders-0.result in
    let more = c.hand_in_one-failures.result in
    let p = there c.args.post.now.seat c.args.post.now.own in
    let q = there c.looked.new.seat c.args.post.now.own in
    let r = there c.hand_in_one-failures.new.post.seat c.hand_in_one-failures.new.post.own in
    let P : Orders → Type 0 = λ done. HasWorked g.C.Counter.shows done p r more.refused more.lost in
    subst P (sym (take_first c.args.orders.now order c.requires.some c.index-orders-0.is))
    (then_worked g.C.Counter.shows [] _ p q r _ more.refused more.refused _ more.lost more.lost (refl, refl)
    (looked_in_vain g.C.Counter.shows p q seat.own seat.kept seat.stored seat.front refl)
    c.hand_in_one-failures.ensures.did)

pub returns-clause-did : goal.returns-clause-did
returns-clause-did g c =
    let there = standing g.C.Counter.worker g.C.Counter.count g.C.Counter.answered g.C.Counter.front g.C.Counter.stored in
    let seat = c.looked.ensures in
    let handled = c.hand_in.result.0 in
    let more = c.hand_in.result.1 in
    let p = there c.args.post.now.seat c.args.post.now.own in
    let q = there c.looked.new.seat c.args.post.now.own in
    let r = there c.hand_in.new.post.seat c.hand_in.new.post.own in
    let P : Orders → Type 0 = λ done. HasWorked g.C.Counter.shows done p r more.refused more.lost in
    let within : handled ≤ c.until_one_reads-many.result = omega arith in
    let same = ap (take handled) c.split_at.ensures.front
    ∙ take-take handled c.until_one_reads-many.result c.args.orders.now within in
    subst P same
    (then_worked g.C.Counter.shows [] _ p q r _ more.refused more.refused _ more.lost more.lost (refl, refl)
    (looked_in_vain g.C.Counter.shows p q seat.own seat.kept seat.stored seat.front refl) c.hand_in.ensures.did)
