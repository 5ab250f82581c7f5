use Rattle.std.proofs.Common.{◌≡◌, ◌∙◌, ◌++◌, ◌∷◌, [], sym, ap, Some, None, slice_get}
use Rattle.std.specs.Option.{option_copied}
use Rattle.fl_arena.specs.declared.cursors.Cursor.{Cursor}
use Rattle.fl_marks.specs.declared.lock.Mark.{Mark}
use Rattle.fl_order.specs.declared.state_part.StatePart.{StatePart}
use Rattle.fl_ranges.specs.Layout.{run_of}
use Rattle.fl_spans.specs.Row.{spans_at}
use Rattle.fl_spans.specs.Rows.{run_cursor}
use Rattle.fl_spans.specs.declared.span.Span.{Span}
use Rattle.fl_state.specs.Inside.Saying.{lock_part}
use Rattle.fl_state.proofs.Walks.{one_more, all_done, map_twice}
use Rattle.fl_state.proofs.rows.tell_row.Goals as goal

pub loop-span-preserved : goal.loop-span-preserved
loop-span-preserved g c =
    let row = c.args.row.now in
    let inv = c.loop-span.invariant in
    let j = c.loop-span.next.index in
    let xs = spans_at c.args.locks.now row in
    let said : Span Mark → StatePart = λ s. lock_part (run_of c.args.key.now s) in
    let before = g.S.StateSink.told c.loop-span.sink in
    let found : slice_get xs j ≡ Some c.in-Some.span.now =
    sym (c.in-Some.ensures.run row.chain row.index j c.requires.row.chain c.first_run-next.ensures.there inv.at) in
    let on = c.next_run.ensures row.chain row.index j inv.at in
    let index = ap (λ (k : Cursor). k.index) on in
    record {
      at = on ∙ ap (run_cursor c.args.locks.now row.chain row.index) (sym index);
      kept = c.tell.ensures.kept ∙ inv.kept;
      rest = one_more said xs j c.next_run.new.run.index c.in-Some.span.now before (g.S.StateSink.told c.tell.new.self) found index
          (c.tell.ensures.told c.if-not-tell.false ∙ ap (λ (part : StatePart). before ++ part ∷ []) c.lock_part-part.ensures) ∙ inv.rest;
    }

pub returns-clause-told : goal.returns-clause-told
returns-clause-told g c _ =
    let row = c.args.row.now in
    let inv = c.loop-span.invariant in
    let j = c.loop-span.next.index in
    let xs = spans_at c.args.locks.now row in
    let said : Span Mark → StatePart = λ s. lock_part (run_of c.args.key.now s) in
    let none : slice_get xs j ≡ None =
    sym (c.run.ensures.run row.chain row.index j c.requires.row.chain c.first_run-next.ensures.there inv.at) ∙ ap option_copied c.in_default.is in
    all_done said xs j _ _ none inv.rest ∙ ap (λ l. g.S.StateSink.told c.args.sink.now ++ l) (sym (map_twice lock_part (run_of c.args.key.now) xs))
