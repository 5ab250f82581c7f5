use Rattle.std.proofs.Common.{refl}
use Rattle.fl_workers.proofs.HandedLemmas.{one_handed}
use Rattle.fl_workers.proofs.WorkedLemmas.{one_refused}
use Rattle.fl_workers.specs.Worked.{standing}
use Rattle.fl_workers.proofs.worker.hand_in_one.Goals as goal

pub returns-in-Ok-clause-did : goal.returns-in-Ok-clause-did
returns-in-Ok-clause-did g c =
    let taken = c.hand_in_one-result in
    let it = c.in-Ok.ensures in
    one_handed g.C.Counter.shows c.args.order.now taken.new.tolds.told _ _ _ c.give-lost.result taken.ensures.own it.count
    it.taken it.behind it.stored c.as_slice.ensures c.give-lost.ensures

pub returns-in-Err-clause-did : goal.returns-in-Err-clause-did
returns-in-Err-clause-did g c =
    let there = standing g.C.Counter.worker g.C.Counter.count g.C.Counter.answered g.C.Counter.front g.C.Counter.stored in
    let taken = c.hand_in_one-result in
    let same = c.in-Err.ensures.refused in
    let p = there c.args.post.now.seat c.args.post.now.own in
    let q = there taken.new.seat c.refuse.new.own in
    one_refused g.C.Counter.shows c.args.order.now p q c.refuse.result.refused c.refuse.result.lost
    c.refuse.ensures.refused taken.ensures.own (same.0, same.1) same.3 same.2 c.refuse.ensures.sent
