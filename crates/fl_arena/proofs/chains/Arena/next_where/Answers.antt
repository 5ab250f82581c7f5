use Rattle.std.proofs.Common.{◌≡◌, ◌+◌, drop, Some, slice_get, refl, sym, ap, ◌∙◌, arith}
use Rattle.std.specs.List.{position_or_len}
use Rattle.std.specs.Option.{option_copied}
use Rattle.std.proofs.lemmas.Option.{slice_get_within}
use Rattle.fl_arena.specs.Chains.{items}
use Rattle.fl_arena.specs.Cursors.{cursor_at}
use Rattle.fl_arena.specs.declared.cursors.Cursor.{Cursor}
use Rattle.fl_arena.proofs.FirstLemmas.{at_in_place, first_more, first_here, first_none, found_first}
use Rattle.fl_arena.proofs.chains.Arena.next_where.Goals as goal
use Rattle.fl_arena.proofs.chains.Arena.next_where.Goals.{in-Some+then-test, in_default}

pub loop-item-preserved : goal.loop-item-preserved
loop-item-preserved g c =
    let i = c.loop-item.cursor.index in
    let here = c.loop-item.invariant.at in
    let found : slice_get (items c.args.self.now c.args.from.chain) i ≡ Some c.in-Some.item.now = sym (c.in-Some.ensures.at_index c.args.from.chain i here) in
    let on = c.step.ensures.at_index c.args.from.chain i (c.in-Some.ensures.some.0 refl) here in
    let index = ap (λ (k : Cursor). k.index) on in
    record {
      at = on ∙ ap (cursor_at c.args.self.now c.args.from.chain) (sym index);
      first = λ p tests. rw index (first_more p (items c.args.self.now c.args.from.chain) (c.args.from.index
          + position_or_len p (drop c.args.from.index (items c.args.self.now c.args.from.chain))) i (c.loop-item.invariant.first p tests) c.in-Some.item.now
          found (sym (tests (c.in-Some.item, tt) c.test.result c.test.ensures) ∙ c.if-test.false));
    }

pub returns-clause-first : goal.returns-clause-first
returns-clause-first g c p tests =
    let i = c.loop-item.cursor.index in
    let here = c.loop-item.invariant.at in
    let so_far = c.loop-item.invariant.first p tests in
    let first : i ≡ c.args.from.index + position_or_len p (drop c.args.from.index (items c.args.self.now c.args.from.chain)) =
    elim c.match-item.branch [
      | in-Some+then-test w ↦ first_here p (items c.args.self.now c.args.from.chain) (c.args.from.index
          + position_or_len p (drop c.args.from.index (items c.args.self.now c.args.from.chain))) i so_far w.in-Some.item.now
          (sym (w.in-Some.ensures.at_index c.args.from.chain i here)) (sym (tests (w.in-Some.item, tt) w.test.result w.test.ensures) ∙ w.if-test.true)
      | in_default w ↦ first_none p (items c.args.self.now c.args.from.chain) (c.args.from.index
          + position_or_len p (drop c.args.from.index (items c.args.self.now c.args.from.chain))) i so_far
          (sym (c.item.ensures.at_index c.args.from.chain i here) ∙ ap option_copied w.in_default.is)
    ] in
    here ∙ ap (cursor_at c.args.self.now c.args.from.chain) first

pub returns-clause-found : goal.returns-clause-found
returns-clause-found g c p tests = found_first c.args.self.now c.args.from.chain c.args.from.index p c.loop-item.cursor (returns-clause-first g c p tests)

pub loop-item-init : goal.loop-item-init
loop-item-init g c = record { at = c.requires.at; first = λ p tests. refl }

pub item-requires : goal.item-requires
item-requires g c = at_in_place c.args.self.now _ _ _ c.loop-item.invariant.at

pub step-requires : goal.step-requires
step-requires g c = at_in_place c.args.self.now _ _ _ c.loop-item.invariant.at

pub loop-item-smaller : goal.loop-item-smaller
loop-item-smaller g c =
    let i = c.loop-item.cursor.index in
    let here = c.loop-item.invariant.at in
    let found : slice_get (items c.args.self.now c.args.from.chain) i ≡ Some c.in-Some.item.now = sym (c.in-Some.ensures.at_index c.args.from.chain i here) in
    let inside = slice_get_within (items c.args.self.now c.args.from.chain) i c.in-Some.item.now found in
    omega (arith, inside, ap (λ (k : Cursor). k.index) (c.step.ensures.at_index c.args.from.chain i (c.in-Some.ensures.some.0 refl) here))

pub returns-clause-chain : goal.returns-clause-chain
returns-clause-chain g c = ap (λ (k : Cursor). k.chain) c.loop-item.invariant.at

pub returns-clause-in_place : goal.returns-clause-in_place
returns-clause-in_place g c = at_in_place c.args.self.now _ _ _ c.loop-item.invariant.at
