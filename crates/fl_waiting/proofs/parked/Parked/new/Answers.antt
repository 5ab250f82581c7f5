use Rattle.std.proofs.Common.{◌≡◌, ◌∙◌, [], length, sym, ap, subst}
use Rattle.fl_arena.specs.Chains.{Chains}
use Rattle.fl_waiting.specs.Inside.Claims.{requests_of}
use Rattle.fl_waiting.specs.Inside.Counts.{AreUpTo, how_many}
use Rattle.fl_waiting.specs.declared.claim.Claim.{Claim}
use Rattle.fl_waiting.proofs.Counts.{none_counted}
use Rattle.fl_waiting.proofs.parked.Parked.new.Goals as goal

pub invariant_of-result : goal.invariant_of-result
invariant_of-result c =
    let is = c.in_ok-new.ensures.empty in
    let empty : requests_of c.in_ok-new.field-0 ≡ [] = ap requests_of is in (
      ap (λ (a : Chains Claim). length a.chains) is,
      ap (λ (a : Chains Claim). a.slots) is,
      subst (AreUpTo 0) (sym empty) tt,
      λ bucket h. none_counted bucket h
          ∙ ap (how_many bucket) (sym empty),
    )
