use Rattle.std.proofs.Common.{◌≡◌, ◌∙◌, ◌++◌, ◌∷◌, [], sym, refl, ap, Some, None, slice_get}
use Rattle.std.specs.Option.{option_copied}
use Rattle.fl_arena.specs.Chains.{items}
use Rattle.fl_arena.specs.Cursors.{cursor_at}
use Rattle.fl_arena.specs.declared.cursors.Cursor.{Cursor}
use Rattle.fl_order.specs.declared.state_part.StatePart.{StatePart}
use Rattle.fl_state.proofs.Walks.{one_more, all_done}
use Rattle.fl_state.proofs.walk.tell_chain.Goals as goal

pub loop-item-preserved : goal.loop-item-preserved
loop-item-preserved g c =
    let a = c.args.arena.now in
    let chain = c.args.chain in
    let inv = c.loop-item.invariant in
    let j = c.loop-item.cursor.index in
    let xs = items a chain in
    let before = g.S.StateSink.told c.loop-item.sink in
    let found : slice_get xs j ≡ Some c.in-Some.item.now = sym (c.in-Some.ensures.at_index chain j inv.at) in
    let on = c.step.ensures.at_index chain j (c.in-Some.ensures.some.0 refl) inv.at in
    let index = ap (λ (k : Cursor). k.index) on in
    record {
      at = on ∙ ap (cursor_at a chain) (sym index);
      kept = c.tell.ensures.kept ∙ inv.kept;
      rest = one_more g.T.Says.said xs j c.step.new.cursor.index c.in-Some.item.now before (g.S.StateSink.told c.tell.new.self) found index
          (c.tell.ensures.told c.if-not-tell.false ∙ ap (λ (part : StatePart). before ++ part ∷ []) c.part.ensures) ∙ inv.rest;
    }

pub returns-clause-told : goal.returns-clause-told
returns-clause-told g c _ =
    let inv = c.loop-item.invariant in
    let j = c.loop-item.cursor.index in
    let xs = items c.args.arena.now c.args.chain in
    let none : slice_get xs j ≡ None = sym (c.item.ensures.at_index c.args.chain j inv.at) ∙ ap option_copied c.in_default.is in
    all_done g.T.Says.said xs j _ _ none inv.rest
