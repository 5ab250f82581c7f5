use Rattle.std.proofs.Common.{◌++◌, ◌∙◌, ap, rules, sym}
use Rattle.fl_workers.proofs.WorkedLemmas.{done_more, none_done}
use Rattle.fl_workers.proofs.worker.worker_loop.Goals as goal

pub loop-init : goal.loop-init
loop-init g c = record {
  end = search rules;
  batch = search rules;
  room = search rules;
  done = none_done g.C.Counter.shows _ _ _ _ c.none-failures.ensures.0;
}

pub loop-preserved : goal.loop-preserved
loop-preserved g c = record {
  end = search rules;
  batch = search rules;
  room = search rules;
  done = done_more g.C.Counter.shows _ _ _ c.deref.result.now _ _ _ _ _ _ _ _ _ c.or-failures.ensures
      c.loop.invariant.done
      (c.next_batch.ensures.taken ∙ ap (λ l. c.loop.end.taken ++ l) (sym c.deref.ensures.value))
      c.handle_all-more.ensures.did;
}
