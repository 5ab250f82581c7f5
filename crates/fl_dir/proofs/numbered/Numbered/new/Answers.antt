use Rattle.std.proofs.Common.{◌-◌, ap, arith}
use Rattle.fl_arena.specs.Chains.{Chains}
use Rattle.fl_dir.proofs.Spread.{no_values}
use Rattle.fl_dir.proofs.Numbers.{new_numbers, same_numbers}
use Rattle.fl_dir.proofs.numbered.Numbered.new.Goals as goal

pub invariant_of-result : goal.invariant_of-result
invariant_of-result g c =
    new_numbers c.in_ok-new.field-0 c.chains_for-chains.result c.args.limit (c.chains_for-chains.result - 1) c.args.first c.in_ok-new.ensures.empty
    (omega (arith, c.chains_for-chains.ensures.least)) c.chains_for-chains.ensures.most

pub returns : goal.returns
returns g c =
    let made = c.in_ok-new.ensures.empty in
    same_numbers _ _ c.args.first _ _ (no_values c.in_ok-new.field-0 c.chains_for-chains.result c.args.limit made) (ap (λ (a : Chains _). a.slots) made)
