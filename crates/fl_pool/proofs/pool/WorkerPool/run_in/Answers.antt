use Rattle.std.proofs.Common.{◌≡◌, ◌++◌, ◌∙◌, ap, arith, length, length-append, map, rules, sym, true}
use Rattle.std.specs.Prelude.{option_to_list}
use Rattle.std.proofs.lemmas.List.{length-map, map-append}
use Rattle.fl_pool.specs.Running.{IsReady}
use Rattle.fl_pool.specs.Working.{reading}
use Rattle.fl_pool.proofs.RunningLemmas.{run_joined, split_all}
use Rattle.fl_pool.proofs.pool.WorkerPool.run_in.Goals as goal

pub start_all-requires-clause-ready : goal.start_all-requires-clause-ready
start_all-requires-clause-ready g c _ _ =
    let read = reading g.C.Counter.worker g.C.Counter.count g.C.Counter.answered g.C.Counter.front g.C.Counter.stored in
    (split_all (IsReady read g.C.Counter.most_tolds c.args.self.now.intake) c.first_of-first.result _ _ c.first_of-first.ensures c.requires.ready).1

pub start_all-requires-clause-room : goal.start_all-requires-clause-room
start_all-requires-clause-room g c _ _ =
    let rest = c.first_of-first.new.workers.items in
    omega (
      arith,
      ap length c.first_of-first.ensures ∙ length-append (option_to_list c.first_of-first.result) rest,
      c.args.crew.room.0,
    )

pub receive-ran-requires-clause-ready : goal.receive-ran-requires-clause-ready
receive-ran-requires-clause-ready g c _ _ =
    let read = reading g.C.Counter.worker g.C.Counter.count g.C.Counter.answered g.C.Counter.front g.C.Counter.stored in
    (split_all (IsReady read g.C.Counter.most_tolds c.args.self.now.intake) c.first_of-first.result _ _ c.first_of-first.ensures c.requires.ready).0

pub joined-requires-clause-room : goal.joined-requires-clause-room
joined-requires-clause-room g c =
    let all : c.start_all.result ≡ true = search rules in
    let first = option_to_list c.first_of-first.result in
    let rest = c.first_of-first.new.workers.items in
    let threads = c.start_all.new.threads.items in
    let started = sym (length-map threads (λ t. t.promise.worker)) ∙ ap length (c.start_all.ensures.whose all)
    ∙ length-map rest (λ w. g.C.Counter.worker w.post.seat) in
    let many = ap length c.first_of-first.ensures ∙ length-append first rest in
    let came = c.receive-ran.ensures.ran.worked.came in
    let one = length-map first (λ w. g.C.Counter.worker w.post.seat) in
    let seats = sym (length-map c.receive-ran.result.back.seats.items g.C.Counter.worker) ∙ ap length came.whose ∙ one in
    let room = c.receive-ran.ensures.room in (
      omega (arith, seats, started, many, c.args.crew.room.1, room.0),
      omega (arith, came.pairs.0 ∙ one, started, many, c.args.crew.room.2, room.1),
      omega (arith, came.pairs.1 ∙ one, started, many, c.args.crew.room.3, room.2),
    )

pub returns : goal.returns
returns g c =
    let all : c.start_all.result ≡ true = search rules in
    run_joined _ _ _ _ _ _ _ _ _ _ _ _ c.receive-ran.ensures.ran c.joined.ensures.same c.joined.ensures.worked
    ((λ i. map (λ w. g.C.Counter.worker w.post.seat) (option_to_list c.first_of-first.result) ++ c.start_all.ensures.whose all i)
    ∙ sym (map-append (λ w. g.C.Counter.worker w.post.seat) (option_to_list c.first_of-first.result) c.first_of-first.new.workers.items)
    ∙ sym (ap (map (λ w. g.C.Counter.worker w.post.seat)) c.first_of-first.ensures))
