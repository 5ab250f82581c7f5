use Rattle.std.proofs.Common.{◌≡◌, Some, slice_get, sym, ap, ◌∙◌}
use Rattle.fl_arena.specs.declared.cursors.Cursor.{Cursor}
use Rattle.fl_spans.specs.Rows.{run_cursor}
use Rattle.fl_spans.specs.Row.{spans_at}
use Rattle.fl_spans.proofs.Parts.{apart_of}
use Rattle.fl_spans.proofs.Found.{ends_before}
use Rattle.fl_spans.proofs.search.walk_start.Goals as goal

pub returns-then-span-byte-clause-before : goal.returns-then-span-byte-clause-before
returns-then-span-byte-clause-before g c =
    let xs = spans_at c.args.rows.now c.args.row.now in
    let j = c.last_run-last.result.index in
    let at =
    c.last_run-last.ensures.last
    ∙ ap (run_cursor c.args.rows.now c.args.row.now.chain c.args.row.now.index) (sym (ap (λ (k : Cursor). k.index) c.last_run-last.ensures.last)) in
    let found : slice_get xs j ≡ Some c.in-Some.span.now =
    sym (c.in-Some.ensures.run c.args.row.now.chain c.args.row.now.index j c.requires.row.chain c.last_run-last.ensures.there at) in
    ends_before c.args.byte xs j c.in-Some.span.now (apart_of xs c.requires.spans) found c.if-span-byte.true
