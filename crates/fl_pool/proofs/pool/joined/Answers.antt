use Rattle.std.proofs.Common.{rules, refl, ap, arith, length, length-append, map, sym, subst, ◌∙◌, ◌++◌, ◌∷◌, []}
use Rattle.std.proofs.Common.{append_assoc, append-nil}
use Rattle.std.proofs.lemmas.List.{nil_from_length}
use Rattle.fl_pool.specs.Running.{HaveWorked}
use Rattle.fl_pool.specs.Working.{IsFresh, reading}
use Rattle.fl_pool.proofs.RunningLemmas.{one_joined}
use Rattle.fl_pool.proofs.WorkingLemmas.{first_and_rest}
use Rattle.fl_pool.proofs.pool.joined.Goals as goal

pub loop-thread-init : goal.loop-thread-init
loop-thread-init g c = record {
  room = search rules;
  fresh = search rules;
  same = refl;
  worked = λ workers inline began. (workers, search rules, began);
}

pub add-requires : goal.add-requires
add-requires g c =
    let i = c.loop-thread.invariant in
    let steps = ap length c.in-Some.ensures.steps.0 in
    record { room = (omega (arith, i.room.0, steps), omega (arith, i.room.1, steps), omega (arith, i.room.2, steps)) }

pub loop-thread-preserved : goal.loop-thread-preserved
loop-thread-preserved g c =
    let i = c.loop-thread.invariant in
    let steps = c.in-Some.ensures.steps.0 in
    let n = ap length steps in
    let added = c.add.ensures in
    let thread = first_and_rest (λ t. IsFresh c.args.intake.now t.promise.end.value) _ _ c.in-Some.thread steps i.fresh in
    let back = c.loop-thread.ran.back in
    let seats = ap length added.seats ∙ length-append back.seats.items (c.join-worked.result.0.seat ∷ []) in
    let appenders = ap length added.appenders ∙ length-append back.appenders.items (c.join-worked.result.0.own ∷ []) in
    let ends = ap length added.ends ∙ length-append back.ends.items (c.join-worked.result.1 ∷ []) in
    let name = c.in-Some.thread.promise.worker in
    record {
      room = (
        omega (arith, i.room.0, n, seats, added.room.0),
        omega (arith, i.room.1, n, appenders, added.room.1),
        omega (arith, i.room.2, n, ends, added.room.2),
      );
      fresh = thread.1;
      same = i.same;
      worked = λ workers inline began.
          let so_far = i.worked workers inline began in (
            so_far.0 ++ name ∷ [],
            append_assoc so_far.0 (name ∷ []) _
                ∙ sym (ap (λ l. so_far.0 ++ map (λ t. t.promise.worker) l) steps) ∙ so_far.1,
            one_joined _ _ _ _ _ _ _ name c.in-Some.thread.promise.end.value c.join-worked.result.1
                c.join-worked.result.0.seat c.join-worked.result.0.own _ _ so_far.2 thread.0 c.join-worked.ensures added
                (omega (arith, i.room.1, n, appenders, added.room.1)),
          );
    }

pub returns-clause-worked : goal.returns-clause-worked
returns-clause-worked g c = λ workers inline began.
    let done = c.loop-thread.invariant.worked workers inline began in
    subst (λ l. HaveWorked (reading g.C.Counter.worker g.C.Counter.count g.C.Counter.answered g.C.Counter.front g.C.Counter.stored) g.C.Counter.shows c.args.intake.now l inline c.loop-thread.ran.back)
    (sym (ap (λ l. done.0 ++ map (λ t. t.promise.worker) l) (nil_from_length _ (search rules)) ∙ append-nil done.0)
    ∙ done.1) done.2
