use Rattle.std.proofs.Common.{◌≡◌, ◌≤◌, [], length}
use Rattle.fl_session.specs.Inside.Serving.{IsReady, session_with}
use Rattle.fl_session.specs.Inside.UnderWay.{IsUnderWay}
use Rattle.fl_transport.specs.Collecting.{outgoing}
use Rattle.fl_transport.specs.Inbox.{work}
use Rattle.fl_transport.specs.Outbox.{writer_of}
use Rattle.fl_session.proofs.answering.answer_all.Given as goal

-- what was read so far is answered, but for what is left in the inbox, and the server is ready for an order
abbrev pub invariant-loop-server : goal.invariant-loop-server
invariant-loop-server g l = record {
  same : (writer_of l.replying.batch.out).ghost_name ≡ (writer_of l.initial.replying.batch.out).ghost_name;
  bounded : length l.inbox.rest ≤ 8192;
  ready : IsReady l.server;
  under : IsUnderWay (session_with l.initial.server []) (record {
    left = g.R.Read.remaining l.initial.r;
    left_now = g.R.Read.remaining l.r;
    start = g.W.Write.contents (writer_of l.initial.replying.batch.out).now;
    out = outgoing g.W.Write.contents l.replying.batch;
  }) l.server l.inbox.rest;
}

abbrev pub decreases-loop-server : goal.decreases-loop-server
decreases-loop-server g l = work l.inbox
