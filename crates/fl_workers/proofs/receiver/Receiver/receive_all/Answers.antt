use Rattle.std.proofs.Common.{rules, refl, ◌++◌, ◌∙◌, [], sym, subst, arith, ap, length, inl}
use Rattle.std.specs.Prelude.{Bool, false}
use Rattle.fl_transport.specs.Ending.{IsEnding}
use Rattle.fl_transport.specs.Handshake.{incoming_of}
use Rattle.fl_transport.specs.Said.{orders_in}
use Rattle.fl_workers.proofs.DispatchLemmas.{dispatched_still, none_dispatched}
use Rattle.fl_workers.proofs.ReceivingLemmas.{receiving_ends, receiving_first, receiving_more, receiving_read}
use Rattle.fl_workers.proofs.receiver.Receiver.receive_all.Goals as goal

pub loop-receiver-init : goal.loop-receiver-init
loop-receiver-init g c = record {
  bounded = omega (arith, ap length c.requires.unread.empty);
  same = search rules;
  came = (
    [],
    none_dispatched _ _ _ c.requires.fresh.1 c.requires.idle,
    receiving_first _ _ _ _ _ _ c.args.inbox.now c.requires.fresh.0 refl c.requires.unanswered.0
        c.requires.unanswered.1 c.requires.unread,
  );
}

pub loop-receiver-preserved-in-Whole : goal.loop-receiver-preserved-in-Whole
loop-receiver-preserved-in-Whole g c =
    let came = c.loop-receiver.invariant.came in
    record {
      bounded = omega (arith, c.skip.ensures.shorter, c.loop-receiver.invariant.bounded);
      same = search rules;
      came = (
        came.0 ++ orders_in (incoming_of false c.loop-receiver.receiver.handshake c.in-Whole.frame),
        c.receive.ensures.dispatched.dispatched _ _ came.1,
        receiving_more _ _ _ _ c.in-Whole.frame _ _ came.2 refl refl refl c.loop-receiver-test.true
            (c.skip.ensures.taken c.in-Whole.frame (sym c.next.ensures ∙ c.in-Whole.is) c.as_bytes-len.ensures.message)
            c.receive.ensures.advanced refl c.receive.ensures.ends c.receive.ensures.live c.receive.ensures.left
            c.receive.ensures.given,
      );
    }

pub loop-receiver-preserved : goal.loop-receiver-preserved
loop-receiver-preserved g c =
    let came = c.loop-receiver.invariant.came in
    record {
      bounded = c.fill.ensures.bounded;
      same = search rules;
      came = (
        came.0,
        dispatched_still _ _ _ _ _ _ _ c.settle.ensures.dispatched came.1,
        receiving_read _ _ _ _ _ came.2 c.fill.ensures.read,
      );
    }

pub returns-in-Bad-clause-received : goal.returns-in-Bad-clause-received
returns-in-Bad-clause-received g c =
    let came = c.loop-receiver.invariant.came in (
      came.0,
      dispatched_still _ _ _ _ _ _ _ c.ended.ensures.dispatched came.1,
      rw (c.ended.ensures.fault, c.ended.ensures.goodbye, c.ended.ensures.own.0, c.ended.ensures.own.1)
          (receiving_ends _ _ _ _ came.2 c.loop-receiver.invariant.bounded
          (c.loop-receiver-test.true, sym c.next.ensures ∙ c.in-Bad.is)),
    )

pub returns-in-End-clause-received : goal.returns-in-End-clause-received
returns-in-End-clause-received g c =
    let came = c.loop-receiver.invariant.came in
    let left = g.I.Read.remaining c.fill.new.r in
    let P : Bool → Type 0 = λ over. IsEnding c.in-End.fault over c.fill.new.self.rest left in
    let settled = dispatched_still _ _ _ _ _ _ _ c.settle.ensures.dispatched came.1 in (
      came.0,
      dispatched_still _ _ _ _ _ _ _ c.ended-in-End.ensures.dispatched settled,
      rw (
        c.ended-in-End.ensures.fault,
        c.ended-in-End.ensures.goodbye,
        c.ended-in-End.ensures.own.0,
        c.ended-in-End.ensures.own.1,
      )
          (receiving_ends _ _ _ _ (receiving_read _ _ _ _ _ came.2 c.fill.ensures.read) c.fill.ensures.bounded
          (subst P (sym c.loop-receiver-test.true) c.in-End.ensures.end)),
    )

pub returns-clause-received : goal.returns-clause-received
returns-clause-received g c =
    let came = c.loop-receiver.invariant.came in (
      came.0,
      dispatched_still _ _ _ _ _ _ _ c.ended-2.ensures.dispatched came.1,
      rw (c.ended-2.ensures.fault, c.ended-2.ensures.goodbye, c.ended-2.ensures.own.0, c.ended-2.ensures.own.1)
          (receiving_ends _ _ _ _ came.2 c.loop-receiver.invariant.bounded (inl c.loop-receiver-test.false)),
    )
