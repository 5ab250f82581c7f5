use Rattle.std.proofs.Common.{◌≡◌, ◌≤◌, length}
use Rattle.fl_counter.specs.Asked.{Orders}
use Rattle.fl_transport.specs.Inbox.{work}
use Rattle.fl_workers.specs.Dispatched.{AreDispatched}
use Rattle.fl_workers.specs.Inside.Receiving.{IsReceiving, so_far}
use Rattle.fl_workers.proofs.receiver.Receiver.receive_all.Given as goal

-- what was read so far is received, but for what is left in the inbox, and its orders are dispatched
abbrev pub invariant-loop-receiver : goal.invariant-loop-receiver
invariant-loop-receiver g l = record {
  bounded : length l.inbox.rest ≤ 8192;
  same : (l.receiver.orders.put.of ≡ l.fn.self.orders.put.of)
      × (l.receiver.orders.put.takers ≡ l.fn.self.orders.put.takers);
  came : (said : Orders) × AreDispatched g.C.Counter.shows l.fn.self.orders.inline l.receiver.orders.put.put
      l.receiver.orders.inline said
      × IsReceiving (so_far (g.I.Read.remaining l.initial.r) (g.I.Read.remaining l.r) said l.receiver.goodbye
      l.fn.self.own l.receiver.own l.receiver.lost) l.receiver.handshake l.inbox.rest;
}

abbrev pub decreases-loop-receiver : goal.decreases-loop-receiver
decreases-loop-receiver g l = work l.inbox
