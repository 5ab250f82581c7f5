use Rattle.std.proofs.Common.{◌≡◌, ◌∙◌, sym, ap, Some, None, slice_get}
use Rattle.std.specs.Option.{option_copied}
use Rattle.fl_arena.specs.declared.cursors.Cursor.{Cursor}
use Rattle.fl_spans.specs.Rows.{run_cursor}
use Rattle.fl_spans.specs.Row.{spans_at}
use Rattle.fl_ranges.specs.Layout.{run_of}
use Rattle.fl_ranges.proofs.Listing.{one_more, row_done}
use Rattle.fl_ranges.proofs.held_runs.add_row.Goals as goal

pub loop-span-preserved : goal.loop-span-preserved
loop-span-preserved c =
    let row = c.args.row.now in
    let inv = c.loop-span.invariant in
    let j = c.loop-span.next.index in
    let xs = spans_at c.args.table.now row in
    let found : slice_get xs j ≡ Some c.in-Some.span.now =
    sym (c.in-Some.ensures.run row.chain row.index j c.requires.row.chain c.first_run-next.ensures.there inv.at) in
    let on = c.next_run.ensures row.chain row.index j inv.at in
    let index = ap (λ (k : Cursor). k.index) on in
    record {
      at = on ∙ ap (run_cursor c.args.table.now row.chain row.index) (sym index);
      rest = one_more (run_of c.args.key.now) xs j c.next_run.new.run.index c.in-Some.span.now c.loop-span.runs.items c.push.new.self.items found index
          c.in_ok-push.ensures.items ∙ inv.rest;
    }

pub returns : goal.returns
returns c =
    let row = c.args.row.now in
    let inv = c.loop-span.invariant in
    let j = c.loop-span.next.index in
    let xs = spans_at c.args.table.now row in
    let none : slice_get xs j ≡ None =
    sym (c.run.ensures.run row.chain row.index j c.requires.row.chain c.first_run-next.ensures.there inv.at) ∙ ap option_copied c.in_default.is in
    row_done (run_of c.args.key.now) xs j _ _ none inv.rest
