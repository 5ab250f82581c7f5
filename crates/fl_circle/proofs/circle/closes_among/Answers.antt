use Rattle.std.proofs.Common.{rules, ◌≡◌, ◌∙◌, ◌≤◌, length, take, arith}
use Rattle.std.proofs.lemmas.List.{length-take-le, length-replicate}
use Rattle.std.proofs.lemmas.List.Sorted.{answers_always, IsNonDecreasingBy-from_sort}
use Rattle.fl_waiting.specs.declared.wanted.Wanted.{Wanted}
use Rattle.fl_circle.proofs.Among.{found_among}
use Rattle.fl_circle.proofs.circle.closes_among.Goals as goal

pub leads_back-requires-clause-sorted : goal.leads_back-requires-clause-sorted
leads_back-requires-clause-sorted g c =
    IsNonDecreasingBy-from_sort (λ (w : Wanted). w.key.owner) _
    (c.sort_unstable_by_key.ensures.sorted (λ (w : Wanted). w.key.owner) (answers_always _ _ _ (λ f a r g h. search rules)))

pub returns : goal.returns
returns g c =
    let m = g.T.Conflicts.marking c.args.locks.now in
    let count = c.copy_wanted-count.result in
    let copied = take count c.copy_wanted-count.new.room in
    let long : length c.copy_wanted-count.new.room ≡ g.row.N = c.copy_wanted-count.auto.room ∙ length-replicate g.row.N c.args.asked in
    let few : count ≤ length c.copy_wanted-count.new.room = c.copy_wanted-count.ensures.few in
    c.leads_back.ensures
    ∙ found_among c.args.rules m c.args.parked.now copied c.sort_unstable_by_key.new.self _ c.copy_wanted-count.ensures.wanted
    c.copy_wanted-count.ensures.numbered (omega (arith, length-take-le count c.copy_wanted-count.new.room few, few, long, c.requires.fits)) c.sort_unstable_by_key.ensures.permutation
