use Rattle.std.proofs.Common.{◌∙◌, ℕ, Bool, false, length, take, replicate, sym, subst, arith}
use Rattle.std.proofs.lemmas.List.{length-take-le, length-replicate}
use Rattle.std.specs.List.Sorted.{IsNonDecreasing}
use Rattle.fl_circle.specs.Inside.Searching.{blocks_among, waiter_among}
use Rattle.fl_marks.specs.Conflict.{AreFound}
use Rattle.fl_waiting.specs.declared.wanted.Wanted.{Wanted}
use Rattle.fl_circle.proofs.Searches.{rising, unset_part, starts, finds, goes_on, ends, fewer_left}
use Rattle.fl_circle.proofs.Wishes.{blocks_not_itself}
use Rattle.fl_circle.proofs.circle.leads_back.Goals as goal

pub reach-requires-clause-sorted : goal.reach-requires-clause-sorted
reach-requires-clause-sorted g c = subst IsNonDecreasing (sym c.owners_of-room.ensures) (rising c.args.wanted.now c.requires.sorted)

pub reach-requires-clause-by_owner : goal.reach-requires-clause-by_owner
reach-requires-clause-by_owner g c = λ i j h k same.
    unset_part (length c.args.wanted.now) g.row.N i ∙ sym (unset_part (length c.args.wanted.now) g.row.N j)

pub loop-place-init : goal.loop-place-init
loop-place-init g c =
    let h : Wanted → ℕ → Bool = blocks_among c.args.rules (g.T.Conflicts.marking c.args.locks.now) c.args.wanted.now in
    starts g.row.N h c.args.wanted.now c.args.asked.now (take (length c.args.wanted.now) (replicate g.row.N false)) c.reach.new.reached
    (unset_part (length c.args.wanted.now) g.row.N) (c.reach.auto.reached
    ∙ length-take-le (length c.args.wanted.now) (replicate g.row.N false) (omega (arith, length-replicate g.row.N false, c.requires.few)))
    (subst (λ os. AreFound (h c.args.asked.now) os (take (length c.args.wanted.now) (replicate g.row.N false)) c.reach.new.reached) c.owners_of-room.ensures c.reach.ensures)

pub returns-then-waits_for : goal.returns-then-waits_for
returns-then-waits_for g c =
    let h : Wanted → ℕ → Bool = blocks_among c.args.rules (g.T.Conflicts.marking c.args.locks.now) c.args.wanted.now in
    sym (finds g.row.N h c.args.wanted.now c.args.asked.now c.loop-place.reached c.loop-place.visited c.loop-place.invariant c.in-Some.place
    c.index-wanted-place.result (omega (arith, c.loop-place.invariant.wide, c.in-Some.ensures.0)) (sym c.index-wanted-place.is) c.in-Some.ensures.1 (sym c.if-waits_for.ensures))

pub reach-requires-in-Some-clause-sorted : goal.reach-requires-in-Some-clause-sorted
reach-requires-in-Some-clause-sorted g c = subst IsNonDecreasing (sym c.owners_of-room.ensures) (rising c.args.wanted.now c.requires.sorted)

pub loop-place-smaller : goal.loop-place-smaller
loop-place-smaller g c =
    fewer_left c.loop-place.visited c.in-Some.place (omega (arith, c.loop-place.invariant.long, c.loop-place.invariant.wide, c.requires.few, c.in-Some.ensures.0)) c.in-Some.ensures.2

pub loop-place-preserved : goal.loop-place-preserved
loop-place-preserved g c =
    let h : Wanted → ℕ → Bool = blocks_among c.args.rules (g.T.Conflicts.marking c.args.locks.now) c.args.wanted.now in
    goes_on g.row.N h c.args.wanted.now c.args.asked.now c.loop-place.reached c.loop-place.visited
    c.loop-place.invariant c.reach-in-Some.new.reached c.in-Some.place c.index-wanted-place.result
    (omega (arith, c.loop-place.invariant.wide, c.in-Some.ensures.0)) (sym c.index-wanted-place.is) c.in-Some.ensures.1 (sym c.if-waits_for.ensures)
    (c.reach-in-Some.auto.reached ∙ c.loop-place.invariant.wide)
    (subst (λ os. AreFound (h c.index-wanted-place.result) os c.loop-place.reached c.reach-in-Some.new.reached) c.owners_of-room.ensures c.reach-in-Some.ensures)

pub returns : goal.returns
returns g c =
    let asked = c.args.asked.now in
    sym (ends g.row.N (blocks_among c.args.rules (g.T.Conflicts.marking c.args.locks.now) c.args.wanted.now) c.args.wanted.now asked c.loop-place.reached c.loop-place.visited
    c.loop-place.invariant (λ i h. c.in_default.ensures i (omega (arith, c.loop-place.invariant.wide, h)))
    (blocks_not_itself c.args.rules (g.T.Conflicts.marking c.args.locks.now) (waiter_among c.args.wanted.now asked)))
