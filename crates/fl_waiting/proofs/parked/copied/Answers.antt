use Rattle.std.proofs.Common.{◌≡◌, ◌∙◌, ◌∷◌, [], ◌++◌, take, Some, None, slice_get, refl, sym, ap, arith}
use Rattle.std.proofs.lemmas.List.{take_more}
use Rattle.std.proofs.lemmas.Option.{get_or_from_slice_get}
use Rattle.std.specs.Option.{option_copied}
use Rattle.fl_arena.specs.Chains.{items}
use Rattle.fl_waiting.proofs.Copies.{is_next}
use Rattle.fl_waiting.proofs.Chain.{nothing_left}
use Rattle.fl_waiting.proofs.parked.copied.Goals as goal

pub loop-claim-preserved : goal.loop-claim-preserved
loop-claim-preserved c =
    let a = c.args.claims.now in
    let i = c.loop-claim.cursor.index in
    let so_far = c.loop-claim.invariant in
    let claim = c.in-Some.claim.now in
    let found : slice_get (items a 0) i ≡ Some claim = sym (c.in-Some.ensures.at_index 0 i so_far.at) in
    let next = is_next a i claim c.step.new.cursor found (c.step.ensures.at_index _ _ (c.in-Some.ensures.some.0 refl) so_far.at) in
    record {
      at = next.at;
      within = omega (arith, next.index, next.inside);
      copied = c.in_ok-push.ensures.items
          ∙ (λ j. so_far.copied j ++ sym (get_or_from_slice_get (items a 0) i claim claim found) j ∷ [])
          ∙ sym (take_more (items a 0) i claim next.inside)
          ∙ ap (λ n. take n (items a 0)) (sym next.index);
    }

pub returns : goal.returns
returns c =
    let a = c.args.claims.now in
    let i = c.loop-claim.cursor.index in
    let none : slice_get (items a 0) i ≡ None = sym (c.item.ensures.at_index 0 i c.loop-claim.invariant.at) ∙ ap option_copied c.in_default.is in
    c.loop-claim.invariant.copied ∙ nothing_left (items a 0) i none
