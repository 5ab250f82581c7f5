use Rattle.std.proofs.Common.{◌≡◌, ◌+◌, true, drop, ◌∷◌, sym, ap, ◌∙◌, arith}
use Rattle.std.specs.List.{prefix_len}
use Rattle.std.specs.Option.{option_copied}
use Rattle.fl_arena.specs.declared.cursors.Cursor.{Cursor}
use Rattle.fl_spans.specs.Rows.{run_cursor}
use Rattle.fl_spans.specs.Row.{spans_at}
use Rattle.fl_spans.specs.Inside.Walk.{begins_by, gathered}
use Rattle.fl_spans.proofs.Walks.{drop_here, drop_end, count_more, count_end, gathered_more, gathered_end}
use Rattle.fl_spans.proofs.change.gather.Goals as goal
use Rattle.fl_spans.proofs.change.gather.Goals.{in-Some+then-not-begins_by, in_default}

pub loop-span-preserved : goal.loop-span-preserved
loop-span-preserved g c =
    let inv = c.loop-span.invariant in
    let j = c.loop-span.next.index in
    let same = g.M.PartialEq.eq in
    let mark = c.args.mark.now in
    let xs = spans_at c.args.rows.now c.args.row.now in
    let here : drop j xs ≡ c.in-Some.span.now ∷ drop (j + 1) xs =
    drop_here xs j c.in-Some.span.now
    (sym (c.in-Some.ensures.run c.args.row.now.chain c.args.row.now.index j c.requires.row.chain c.requires.there inv.at)) in
    let on = c.next_run.ensures c.args.row.now.chain c.args.row.now.index j inv.at in
    let index = ap (λ (k : Cursor). k.index) on in
    let begins : begins_by same c.args.end mark c.in-Some.span.now ≡ true = sym c.begins_by.ensures ∙ c.if-not-begins_by.false in
    record {
      at = on ∙ ap (run_cursor c.args.rows.now c.args.row.now.chain c.args.row.now.index) (sym index);
      from = omega (arith, inv.from, index);
      change =
          inv.change
          ∙ ap (gathered same c.args.start c.args.end mark c.loop-span.change) here
          ∙ gathered_more same c.args.start c.args.end mark c.loop-span.change c.in-Some.span.now (drop (j + 1) xs) begins
          ∙ ap (λ s. gathered same c.args.start c.args.end mark s (drop (j + 1) xs)) (sym c.absorbed-change.ensures)
          ∙ ap (λ k. gathered same c.args.start c.args.end mark c.absorbed-change.result (drop k xs)) (sym index);
      taken = rw index (omega (
        arith,
        inv.taken,
        ap (prefix_len (begins_by same c.args.end mark)) here,
        count_more (begins_by same c.args.end mark) c.in-Some.span.now (drop (j + 1) xs) begins,
      ));
    }

pub returns-clause-change : goal.returns-clause-change
returns-clause-change g c =
    let inv = c.loop-span.invariant in
    let j = c.loop-span.next.index in
    let same = g.M.PartialEq.eq in
    let mark = c.args.mark.now in
    let xs = spans_at c.args.rows.now c.args.row.now in
    let end : gathered same c.args.start c.args.end mark c.loop-span.change (drop j xs) ≡ c.loop-span.change =
    elim c.match-run.branch [
      | in-Some+then-not-begins_by w ↦
          ap (gathered same c.args.start c.args.end mark c.loop-span.change) (drop_here xs j w.in-Some.span.now
          (sym (w.in-Some.ensures.run c.args.row.now.chain c.args.row.now.index j c.requires.row.chain c.requires.there inv.at)))
          ∙ gathered_end same c.args.start c.args.end mark c.loop-span.change w.in-Some.span.now (drop (j + 1) xs)
          (sym w.begins_by.ensures ∙ w.if-not-begins_by.true)
      | in_default w ↦
          ap (gathered same c.args.start c.args.end mark c.loop-span.change) (drop_end xs j
          (sym (c.run.ensures.run c.args.row.now.chain c.args.row.now.index j c.requires.row.chain c.requires.there inv.at)
          ∙ ap option_copied w.in_default.is))
    ] in
    sym (inv.change ∙ end)

pub returns-clause-taken : goal.returns-clause-taken
returns-clause-taken g c =
    let inv = c.loop-span.invariant in
    let j = c.loop-span.next.index in
    let p = begins_by g.M.PartialEq.eq c.args.end c.args.mark.now in
    let xs = spans_at c.args.rows.now c.args.row.now in
    let end : prefix_len p (drop j xs) ≡ 0 =
    elim c.match-run.branch [
      | in-Some+then-not-begins_by w ↦
          ap (prefix_len p) (drop_here xs j w.in-Some.span.now
          (sym (w.in-Some.ensures.run c.args.row.now.chain c.args.row.now.index j c.requires.row.chain c.requires.there inv.at)))
          ∙ count_end p w.in-Some.span.now (drop (j + 1) xs) (sym w.begins_by.ensures ∙ w.if-not-begins_by.true)
      | in_default w ↦
          ap (prefix_len p) (drop_end xs j
          (sym (c.run.ensures.run c.args.row.now.chain c.args.row.now.index j c.requires.row.chain c.requires.there inv.at)
          ∙ ap option_copied w.in_default.is))
    ] in
    omega (arith, inv.taken, inv.from, end)
