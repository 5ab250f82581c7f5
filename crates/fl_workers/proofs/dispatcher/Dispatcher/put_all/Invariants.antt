use Rattle.std.proofs.Common.{◌≡◌, take}
use Rattle.fl_workers.specs.Dispatched.{DispatchesMore}
use Rattle.fl_workers.proofs.dispatcher.Dispatcher.put_all.Given as goal

-- the orders so far are dispatched
abbrev pub invariant-loop-i : goal.invariant-loop-i
invariant-loop-i g l = record {
  same : (l.self.put.of ≡ l.initial.self.put.of) × (l.self.put.takers ≡ l.initial.self.put.takers);
  dispatched : DispatchesMore g.C.Counter.shows l.initial.self.put.put l.initial.self.inline l.self.put.put l.self.inline
      (take l.i l.orders);
}
