use Rattle.std.proofs.Common.{◌≡◌, ◌+◌, drop, Some, None, slice_get, sym, ap, not, ◌∙◌, arith}
use Rattle.std.specs.List.{position_or_len}
use Rattle.std.specs.Option.{option_copied}
use Rattle.fl_arena.specs.declared.cursors.Cursor.{Cursor}
use Rattle.fl_spans.specs.Rows.{run_cursor}
use Rattle.fl_spans.specs.Row.{spans_at}
use Rattle.fl_spans.specs.Inside.Walk.{reaches}
use Rattle.fl_spans.proofs.Walks.{drop_here, drop_end, count_more, count_end}
use Rattle.fl_spans.proofs.Found.{place_past}
use Rattle.fl_spans.proofs.change.seek.Goals as goal

pub loop-span-init : goal.loop-span-init
loop-span-init g c = record {
  at = c.walk_start-at.ensures.at;
  first = place_past (reaches g.M.PartialEq.eq c.args.start c.args.mark.now) c.reach.result c.reach.ensures (spans_at c.args.rows.now c.args.row.now)
      c.walk_start-at.result.index c.walk_start-at.ensures.within c.walk_start-at.ensures.before;
}

pub loop-span-preserved : goal.loop-span-preserved
loop-span-preserved g c =
    let inv = c.loop-span.invariant in
    let j = c.loop-span.at.index in
    let p = reaches g.M.PartialEq.eq c.args.start c.args.mark.now in
    let xs = spans_at c.args.rows.now c.args.row.now in
    let found : slice_get xs j ≡ Some c.in-Some.span.now =
    sym (c.in-Some.ensures.run c.args.row.now.chain c.args.row.now.index j c.requires.row.chain c.walk_start-at.ensures.there inv.at) in
    let on = c.next_run.ensures c.args.row.now.chain c.args.row.now.index j inv.at in
    let index = ap (λ (k : Cursor). k.index) on in
    record {
      at = on ∙ ap (run_cursor c.args.rows.now c.args.row.now.chain c.args.row.now.index) (sym index);
      first = rw index (omega (
        arith,
        inv.first,
        ap (position_or_len p) (drop_here xs j c.in-Some.span.now found),
        count_more (λ t. not (p t)) c.in-Some.span.now (drop (j + 1) xs) (ap not (sym c.reaches.ensures ∙ c.if-reaches.false)),
      ));
    }

pub returns-then-reaches-clause-first : goal.returns-then-reaches-clause-first
returns-then-reaches-clause-first g c =
    let inv = c.loop-span.invariant in
    let j = c.loop-span.at.index in
    let p = reaches g.M.PartialEq.eq c.args.start c.args.mark.now in
    let xs = spans_at c.args.rows.now c.args.row.now in
    let found : slice_get xs j ≡ Some c.in-Some.span.now =
    sym (c.in-Some.ensures.run c.args.row.now.chain c.args.row.now.index j c.requires.row.chain c.walk_start-at.ensures.there inv.at) in
    omega (
      arith,
      inv.first,
      ap (position_or_len p) (drop_here xs j c.in-Some.span.now found),
      count_end (λ t. not (p t)) c.in-Some.span.now (drop (j + 1) xs) (ap not (sym c.reaches.ensures ∙ c.if-reaches.true)),
    )

pub returns-in_default-clause-first : goal.returns-in_default-clause-first
returns-in_default-clause-first g c =
    let inv = c.loop-span.invariant in
    let j = c.loop-span.at.index in
    let p = reaches g.M.PartialEq.eq c.args.start c.args.mark.now in
    let xs = spans_at c.args.rows.now c.args.row.now in
    let none : slice_get xs j ≡ None =
    sym (c.run.ensures.run c.args.row.now.chain c.args.row.now.index j c.requires.row.chain c.walk_start-at.ensures.there inv.at)
    ∙ ap option_copied c.in_default.is in
    omega (arith, inv.first, ap (position_or_len p) (drop_end xs j none))
