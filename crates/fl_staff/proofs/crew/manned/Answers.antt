use Rattle.std.proofs.Common.{rules, ◌≡◌, ◌∷◌, ◌++◌, [], All, map, Some, arith, length, length-append, ap, ◌∙◌, subst, refl, sym}
use Rattle.std.proofs.lemmas.List.Elements.{All-pop}
use Rattle.std.specs.List.{range_with_len}
use Rattle.fl_log.specs.Appended.{unused}
use Rattle.fl_pool.specs.Running.{IsReady}
use Rattle.fl_pool.specs.Working.{IsFresh, reading}
use Rattle.fl_staff.specs.Served.{IsUnused}
use Rattle.fl_workers.specs.Room.{HasBatchFor}
use Rattle.fl_staff.proofs.CrewLemmas.{all_of_none, all_pushed, first_and_rest, idle_at, next_number, seats_move}
use Rattle.fl_staff.proofs.crew.manned.Goals as goal

pub loop-seat-preserved : goal.loop-seat-preserved
loop-seat-preserved g c =
    let i = c.loop-seat.invariant in
    let read = reading g.C.Counter.worker g.C.Counter.count g.C.Counter.answered g.C.Counter.front g.C.Counter.stored in
    let most = g.C.Counter.most_tolds in
    let steps = c.in-Some.ensures.steps.0 in
    let items = c.push_reserved.ensures.items in
    let seat = c.in-Some.seat in
    let of = c.args._intake.now in
    let both = first_and_rest (IsUnused read) _ _ seat steps i.unused in
    let its = next_number g.C.Counter.worker seat _ _ _ steps i.whose in
    let named = subst (λ n. c.appender-own.result ≡ unused n) (sym its.0) c.appender-own.ensures.fresh in
    let more = ap length items ∙ length-append c.loop-seat.workers.items (_ ∷ []) in
    let end = All-pop (IsFresh of) _ _ (Some c.in-Some-Some.end) c.in-Some-Some.ensures.items i.fresh in
    let room = All-pop (HasBatchFor most) _ _ (Some c.in-Some-Some.room) c.in-Some-Some.ensures'.items i.batches in
    let ends_left = ap length c.in-Some-Some.ensures.items
    ∙ length-append c.pop.new.self.items (c.in-Some-Some.end ∷ []) in
    let rooms_left = ap length c.in-Some-Some.ensures'.items
    ∙ length-append c.pop-in-loop-seat.new.self.items (c.in-Some-Some.room ∷ []) in
    record {
      so_far = omega (arith, i.so_far, more, ap length steps);
      number = omega (arith, i.number, more);
      places = search rules;
      parts = (omega (arith, i.parts.0, more, c.appender-own.ensures.rest.0), c.appender-own.ensures.rest.1);
      whose = its.1;
      unused = both.1;
      seats = seats_move (λ worker. worker.post.seat) _ _ _ _ _ seat _ i.seats items steps refl;
      ready = all_pushed (IsReady read most of) _ _ _ items i.ready
          (record { idle = idle_at read seat c.appender-own.result both.0 named; end = end.1; room = room.1 });
      enough = (omega (arith, i.enough.0, ap length steps, ends_left), omega (arith, i.enough.1, ap length steps, rooms_left));
      fresh = end.0;
      batches = room.0;
    }

pub loop-seat-init : goal.loop-seat-init
loop-seat-init g c =
    let items = c.into_iter-seat-iterator.ensures.into_iter_gives.0 in
    let none = c.requires.none.0 in
    let read = reading g.C.Counter.worker g.C.Counter.count g.C.Counter.answered g.C.Counter.front g.C.Counter.stored in
    record {
      so_far = omega (arith, ap length none, ap length items);
      number = sym (ap length none);
      places = c.requires.room.0;
      parts = (omega (arith, ap length none), c.requires.rest.1);
      whose = subst (λ l. map g.C.Counter.worker l ≡ range_with_len 0 (length l)) (sym items) c.requires.whose;
      unused = subst (All (IsUnused read)) (sym items) c.requires.unused;
      seats = ap (λ l. map (λ worker. worker.post.seat) l ++ c.into_iter-seat-iterator.result.rest.items) none ∙ items;
      ready = all_of_none (IsReady read g.C.Counter.most_tolds c.args._intake.now) _ none;
      enough = (omega (arith, c.requires.enough.0, ap length items), omega (arith, c.requires.enough.1, ap length items));
      fresh = c.requires.fresh;
      batches = c.requires.batches;
    }
