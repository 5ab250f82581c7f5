use Rattle.std.proofs.Common.{◌≡◌, ◌∙◌, Some, None, take, slice_get, refl, sym, ap, arith}
use Rattle.std.proofs.lemmas.List.{length-take-le}
use Rattle.std.specs.Option.{option_copied}
use Rattle.fl_arena.specs.Chains.{items}
use Rattle.fl_waiting.specs.Waiting.{wishes}
use Rattle.fl_waiting.specs.Inside.Claims.{requests_of}
use Rattle.fl_waiting.proofs.Copies.{copied_more, numbered_on, is_next, none_left}
use Rattle.fl_waiting.proofs.wanted.copy_wanted.Goals as goal

pub loop-claim-preserved : goal.loop-claim-preserved
loop-claim-preserved c =
    let a = c.args.claims.now in
    let i = c.loop-claim.cursor.index in
    let so_far = c.loop-claim.invariant in
    let claim = c.in-Some.claim.now in
    let found : slice_get (items a 0) i ≡ Some claim = sym (c.in-Some.ensures.at_index 0 i so_far.at) in
    let next = is_next a i claim c.step.new.cursor found (c.step.ensures.at_index _ _ (c.in-Some.ensures.some.0 refl) so_far.at) in
    record {
      at = next.at;
      within = omega (arith, next.index, next.inside);
      few = omega (arith, next.index, c.put-count.ensures.few, so_far.few);
      numbered = numbered_on c.loop-claim.room c.put-count.new.room c.loop-claim.count c.put-count.result c.wanted_of.result so_far.numbered
          (length-take-le c.loop-claim.count c.loop-claim.room (omega (arith, c.loop-claim.auto.room, so_far.few, so_far.within, next.inside, c.requires.few))) c.put-count.ensures.put;
      copied = copied_more c.loop-claim.room c.put-count.new.room c.loop-claim.count c.put-count.result c.wanted_of.result (requests_of a) i claim.request
          so_far.copied c.put-count.ensures.put c.wanted_of.ensures next.there next.value
          ∙ ap (λ n. wishes (take n (requests_of a))) (sym next.index);
    }

pub returns-clause-wanted : goal.returns-clause-wanted
returns-clause-wanted c =
    let a = c.args.claims.now in
    let i = c.loop-claim.cursor.index in
    let none : slice_get (items a 0) i ≡ None = sym (c.item.ensures.at_index 0 i c.loop-claim.invariant.at) ∙ ap option_copied c.in_default.is in
    c.loop-claim.invariant.copied ∙ ap wishes (none_left a i none)
