use Rattle.std.proofs.Common.{◌≡◌, map, drop}
use Rattle.fl_session.specs.Again.{order_under}
use Rattle.fl_session.specs.Inside.Serving.{IsReady}
use Rattle.fl_session.specs.Inside.UnderWay.{TakesMany}
use Rattle.fl_transport.specs.Collecting.{outgoing}
use Rattle.fl_transport.specs.Outbox.{writer_of}
use Rattle.fl_session.proofs.server.Server.take_from.Given as goal

-- it is ready for an order, the orders so far are taken, and the others are left
abbrev pub invariant-loop-i : goal.invariant-loop-i
invariant-loop-i g l = record {
  ready : IsReady l.self;
  same : (writer_of l.replying.batch.out).ghost_name ≡ (writer_of l.initial.replying.batch.out).ghost_name;
  taken : TakesMany l.initial.self l.self (outgoing g.W.Write.contents l.initial.replying.batch)
      (outgoing g.W.Write.contents l.replying.batch) (drop l.start (map (order_under l.unique) l.orders))
      (drop l.i (map (order_under l.unique) l.orders));
}
