use Rattle.std.proofs.Common.{◌≡◌, ◌∙◌, Bool, true, false, not, is_some, Option, Some, None, Bor, map, slice_get, sym, refl, ap, arith}
use Rattle.std.proofs.lemmas.Option.{none-some, slice_get-map, slice_get_within}
use Rattle.std.specs.Option.{option_copied, option_map}
use Rattle.fl_arena.specs.Chains.{items}
use Rattle.fl_arena.specs.Cursors.{cursor_at}
use Rattle.fl_arena.specs.declared.cursors.Cursor.{Cursor}
use Rattle.fl_state.proofs.Seekings.{step_both, differ_here, one_ends, both_end}
use Rattle.fl_waiting.specs.declared.claim.Claim.{Claim}
use Rattle.fl_waiting.specs.declared.parked.Request.{Request}
use Rattle.fl_state.proofs.same.same_claims.Goals as goal

abbrev asked : Claim → Request
asked claim = claim.request

-- whether nothing is left
ended : (o : Option (Bor Claim)) (b : Bool) → is_some o ≡ not b
    → (b ≡ true → option_map asked (option_copied o) ≡ None) × (option_map asked (option_copied o) ≡ None → b ≡ true)
ended None true is = (λ _. refl, λ _. refl)
ended None false is = absurd (cc is)
ended (Some x) true is = absurd (cc is)
ended (Some x) false is = (λ never. absurd (cc never), λ none. absurd (none-some _ (sym none)))

pub returns-in_default-item : goal.returns-in_default-item
returns-in_default-item c =
    let inv = c.loop-claim.invariant in
    let i = c.loop-claim.first.index in
    let j = c.loop-claim.second.index in
    let xs = items c.args.one.now 0 in
    let ys = items c.args.other.now 0 in
    let here = slice_get-map asked xs i ∙ ap (option_map asked) (sym (c.in-Some.ensures.at_index 0 i inv.first)) in
    let none = slice_get-map asked ys j ∙ ap (option_map asked) (sym (c.item-in-Some.ensures.at_index 0 j inv.second) ∙ ap option_copied c.in_default-item.is) in (
      λ never. absurd (cc never),
      λ e. absurd (one_ends (map asked xs) (map asked ys) i j inv.same c.in-Some.claim.now.request here none e),
    )

pub returns-then-not-is_same : goal.returns-then-not-is_same
returns-then-not-is_same c =
    let inv = c.loop-claim.invariant in
    let i = c.loop-claim.first.index in
    let j = c.loop-claim.second.index in
    let xs = items c.args.one.now 0 in
    let ys = items c.args.other.now 0 in
    let here = slice_get-map asked xs i ∙ ap (option_map asked) (sym (c.in-Some.ensures.at_index 0 i inv.first)) in
    let there = slice_get-map asked ys j ∙ ap (option_map asked) (sym (c.in-Some-item.ensures.at_index 0 j inv.second)) in (
      λ never. absurd (cc never),
      λ e. absurd (differ_here (map asked xs) (map asked ys) i j inv.same c.in-Some.claim.now.request c.in-Some-item.here.now.request here there (λ same. cc (c.is_same.ensures.1 same, c.if-not-is_same.true)) e),
    )

pub loop-claim-smaller : goal.loop-claim-smaller
loop-claim-smaller c =
    let inv = c.loop-claim.invariant in
    let i = c.loop-claim.first.index in
    let found = sym (c.in-Some.ensures.at_index 0 i inv.first) in
    let within = slice_get_within (items c.args.one.now 0) i c.in-Some.claim.now found in
    let index = ap (λ (k : Cursor). k.index) (c.step.ensures.at_index 0 i (c.in-Some.ensures.some.0 refl) inv.first) in
    omega (arith, within, index)

pub loop-claim-preserved : goal.loop-claim-preserved
loop-claim-preserved c =
    let inv = c.loop-claim.invariant in
    let i = c.loop-claim.first.index in
    let j = c.loop-claim.second.index in
    let a = c.args.one.now in
    let b = c.args.other.now in
    let xs = items a 0 in
    let ys = items b 0 in
    let here = slice_get-map asked xs i ∙ ap (option_map asked) (sym (c.in-Some.ensures.at_index 0 i inv.first)) in
    let there = slice_get-map asked ys j ∙ ap (option_map asked) (sym (c.in-Some-item.ensures.at_index 0 j inv.second)) in
    let on = c.step.ensures.at_index 0 i (c.in-Some.ensures.some.0 refl) inv.first in
    let too = c.step-in-Some.ensures.at_index 0 j (c.in-Some-item.ensures.some.0 refl) inv.second in
    let first = ap (λ (k : Cursor). k.index) on in
    let second = ap (λ (k : Cursor). k.index) too in
    record {
      first = on ∙ ap (cursor_at a 0) (sym first);
      second = too ∙ ap (cursor_at b 0) (sym second);
      same = step_both (map asked xs) (map asked ys) i j inv.same c.step.new.cursor.index c.step-in-Some.new.cursor.index c.in-Some.claim.now.request
          c.in-Some-item.here.now.request here there first second (c.is_same.ensures.0 c.if-not-is_same.false);
    }

pub returns : goal.returns
returns c =
    let inv = c.loop-claim.invariant in
    let i = c.loop-claim.first.index in
    let j = c.loop-claim.second.index in
    let xs = items c.args.one.now 0 in
    let ys = items c.args.other.now 0 in
    let none = slice_get-map asked xs i ∙ ap (option_map asked) (sym (c.item.ensures.at_index 0 i inv.first) ∙ ap option_copied c.in_default.is) in
    let end = slice_get-map asked ys j ∙ ap (option_map asked) (sym (c.item-2.ensures.at_index 0 j inv.second)) in
    let ends = ended c.item-2.result c.is_none.result c.is_none.ensures in
    both_end (map asked xs) (map asked ys) i j inv.same none (option_map asked (option_copied c.item-2.result)) end c.is_none.result ends.0 ends.1
