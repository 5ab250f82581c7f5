use Rattle.std.proofs.Common.{◌∙◌, ℕ, arith, ap, length, sym}
use Rattle.std.proofs.lemmas.List.{length-map}
use Rattle.std.proofs.lemmas.List.FromFn.{length-range_with_len}
use Rattle.std.specs.List.{range_with_len}
use Rattle.fl_log.specs.Appended.{Appended, unused}
use Rattle.fl_pool.specs.Working.{reading}
use Rattle.fl_staff.proofs.EndLemmas.{run_as, served_by_as_many}
use Rattle.fl_workers.specs.declared.entry.ReplyEntry.{ReplyEntry}
use Rattle.fl_staff.proofs.serving.run_pool.Goals as goal

pub run-requires-clause-some : goal.run-requires-clause-some
run-requires-clause-some g c _ _ =
    let workers = c.args.crew.workers.items in
    let many = sym (length-map workers (λ w. g.C.Counter.worker w.post.seat)) ∙ ap length c.requires.workers
    ∙ length-range_with_len 0 _ in
    omega (arith, many, c.requires.parts.1)

pub finish-served-requires-clause-pairs : goal.finish-served-requires-clause-pairs
finish-served-requires-clause-pairs g c =
    let run = c.in-Some.ensures in
    let many = ap length c.requires.workers ∙ length-range_with_len 0 _ ∙ sym run.same.1 in
    (run.worked.came.pairs.0 ∙ many, run.worked.came.pairs.1 ∙ many)

pub finish-served-requires-clause-whose : goal.finish-served-requires-clause-whose
finish-served-requires-clause-whose g c =
    let run = c.in-Some.ensures in
    run.worked.came.whose ∙ c.requires.workers ∙ sym (ap (range_with_len 0) run.same.1)

pub returns-in-Some-clause-served : goal.returns-in-Some-clause-served
returns-in-Some-clause-served g c =
    let run = c.in-Some.ensures in
    let takers = sym run.same.1 in
    let by : ℕ → Appended ReplyEntry = unused in
    let whole = run_as _ _ _ _ _ _ _ _ _ _ _ run (c.requires.workers ∙ ap (range_with_len 0) takers)
    (c.requires.own ∙ ap by takers) in
    let read = reading g.C.Counter.worker g.C.Counter.count g.C.Counter.answered g.C.Counter.front g.C.Counter.stored in
    served_by_as_many read g.C.Counter.shows _ _ _ _ run.same.1 (c.finish-served.ensures.served _ _ _ whole)

pub returns-in-None-clause-unserved : goal.returns-in-None-clause-unserved
returns-in-None-clause-unserved g c =
    let it = c.unstarted-fault.ensures in
    record {
      why = it.fault;
      unread = c.in-None.ensures;
      unwritten = it.unwritten;
      log = c.only_sender.result.log;
      broken = it.sent.0;
      sent = it.sent.1;
    }
