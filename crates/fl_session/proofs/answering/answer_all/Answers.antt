use Rattle.std.proofs.Common.{◌∙◌, inl, refl, sym, arith, ap, length}
use Rattle.fl_session.proofs.SessionLemmas.{way_first, way_more, way_rests, way_ends, way_read}
use Rattle.fl_session.proofs.ServedLemmas.{ending_stored}
use Rattle.fl_session.proofs.answering.answer_all.Goals as goal

pub loop-server-init : goal.loop-server-init
loop-server-init g c = record {
  same = refl;
  bounded = omega (arith, ap length c.requires.unread.empty);
  ready = c.requires.fresh.ready;
  under = way_first _ _ _ c.args.inbox.now c.requires.fresh c.requires.empty c.requires.whole c.requires.unread;
}

pub loop-server-preserved-in-Whole : goal.loop-server-preserved-in-Whole
loop-server-preserved-in-Whole g c = record {
  same = c.answer.ensures.same ∙ c.loop-server.invariant.same;
  bounded = omega (arith, c.skip.ensures.shorter, c.loop-server.invariant.bounded);
  ready = c.answer.ensures.ready;
  under = way_more _ _ _ _ _ c.in-Whole.frame _ _ c.loop-server-test.true
      (c.skip.ensures.taken c.in-Whole.frame (sym c.next.ensures ∙ c.in-Whole.is) c.as_bytes-len.ensures.message)
      c.answer.ensures.answered c.loop-server.invariant.under;
}

pub loop-server-preserved : goal.loop-server-preserved
loop-server-preserved g c = record {
  same = c.rest.ensures.same ∙ c.loop-server.invariant.same;
  bounded = c.fill.ensures.bounded;
  ready = c.rest.ensures.ready c.loop-server.invariant.ready;
  under = way_read _ _ _ _ _ _ c.fill.ensures.read
      (way_rests _ _ _ _ _ _ c.rest.ensures.rests c.loop-server.invariant.under);
}

pub returns-then-replying-2-clause-ended : goal.returns-then-replying-2-clause-ended
returns-then-replying-2-clause-ended g c = record {
  rest = c.loop-server.inbox.rest;
  bounded = c.loop-server.invariant.bounded;
  under = way_rests _ _ _ _ _ _ c.rest.ensures.rests c.loop-server.invariant.under;
  ending = inl refl;
}

pub returns-in-End-clause-ended : goal.returns-in-End-clause-ended
returns-in-End-clause-ended g c = way_ends _ _ _ _ _ _ c.in-End.fault c.in-End.ensures.read
    c.in-End.ensures.bounded (c.rest.ensures.over ∙ c.loop-server-test.true) c.in-End.ensures.end
    (way_rests _ _ _ _ _ _ c.rest.ensures.rests c.loop-server.invariant.under)

pub returns-in-End-clause-stored : goal.returns-in-End-clause-stored
returns-in-End-clause-stored g c infallible = ending_stored _ _ _ _ c.in-End.ensures.end
