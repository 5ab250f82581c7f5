use Rattle.fl_pool.specs.Working.{reading}
use Rattle.fl_staff.proofs.RestLemmas.{rest_done}
use Rattle.fl_staff.proofs.crew.handed_in.Goals as goal

pub returns-clause-did : goal.returns-clause-did
returns-clause-did g c = λ orders any lost so_far.
    let did = rw c.deref.ensures.value at c.handle_all-failures.ensures.did in
    let read = reading g.C.Counter.worker g.C.Counter.count g.C.Counter.answered g.C.Counter.front g.C.Counter.stored in
    rest_done read g.C.Counter.shows c.orders_are_worked_on_in_turn.ensures orders c.args.left.items c.pop.new.self.items
    c.args.seats.items _ c.in-Some-Some.seat c.handle_all-failures.new.post.seat c.pop-2.new.self.items
    c.args.appenders.items _ c.in-Some-Some.own
    c.handle_all-failures.new.post.own any lost _ _ so_far c.in-Some-Some.ensures.items c.push_reserved.ensures.items
    c.in-Some-Some.ensures'.items c.push_reserved-2.ensures.items did
