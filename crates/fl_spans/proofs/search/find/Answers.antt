use Rattle.std.proofs.Common.{◌≡◌, ◌+◌, ◌-◌, ◌<◌, false, length, drop, ◌∷◌, Some, None, slice_get, sym, ap, subst, ◌∙◌}
use Rattle.std.proofs.Common.{arith}
use Rattle.std.specs.List.{find}
use Rattle.std.specs.Option.{option_copied}
use Rattle.std.proofs.lemmas.Option.{slice_get_within}
use Rattle.fl_arena.specs.declared.cursors.Cursor.{Cursor}
use Rattle.fl_spans.specs.Rows.{run_cursor}
use Rattle.fl_spans.specs.Row.{spans_at}
use Rattle.fl_spans.specs.Spans.{AreSpans}
use Rattle.fl_spans.proofs.Walks.{drop_here, drop_end}
use Rattle.fl_spans.proofs.Found.{drop_are, find_past, passes, found_next, found_at, fails, too_early, none_from}
use Rattle.fl_spans.proofs.search.find.Goals as goal
use Rattle.fl_spans.proofs.search.find.Goals.{in-Some+then-end-span, in_default}
use Rattle.fl_spans.proofs.search.find.Goals.{else-start-span-via-then-start-span+else-test}
use Rattle.fl_spans.proofs.search.find.Goals.{else-start-span-via-else-start-span}

pub loop-span-init : goal.loop-span-init
loop-span-init g c = record {
  at = c.walk_start-next.ensures.at;
  rest = λ p tests.
      find_past (passes c.args.start c.args.end p) c.args.start (too_early c.args.start c.args.end p) (spans_at c.args.rows.now c.args.row.now)
      c.walk_start-next.result.index c.walk_start-next.ensures.before;
}

pub loop-span-preserved : goal.loop-span-preserved
loop-span-preserved g c =
    let inv = c.loop-span.invariant in
    let j = c.loop-span.next.index in
    let xs = spans_at c.args.rows.now c.args.row.now in
    let found : slice_get xs j ≡ Some c.in-Some.span.now =
    sym (c.in-Some.ensures.run c.args.row.now.chain c.args.row.now.index j c.requires.row.chain c.walk_start-next.ensures.there inv.at) in
    let on = c.next_run.ensures c.args.row.now.chain c.args.row.now.index j inv.at in
    let index = ap (λ (k : Cursor). k.index) on in
    record {
      at = on ∙ ap (run_cursor c.args.rows.now c.args.row.now.chain c.args.row.now.index) (sym index);
      rest = λ p tests.
          let skipped : passes c.args.start c.args.end p c.in-Some.span.now ≡ false =
          elim c.else-start-span.branch [
            | else-start-span-via-then-start-span+else-test w ↦
                fails c.args.start c.args.end p c.in-Some.span.now (sym (tests _ w.test.result w.test.ensures) ∙ w.if-test.false)
            | else-start-span-via-else-start-span w ↦ too_early c.args.start c.args.end p c.in-Some.span.now w.if-start-span.false
          ] in
          inv.rest p tests
          ∙ ap (find (passes c.args.start c.args.end p)) (drop_here xs j c.in-Some.span.now found)
          ∙ found_next c.args.start c.args.end p c.in-Some.span.now (drop (j + 1) xs) skipped
          ∙ ap (λ k. find (passes c.args.start c.args.end p) (drop k xs)) (sym index);
    }

pub loop-span-smaller : goal.loop-span-smaller
loop-span-smaller g c =
    let inv = c.loop-span.invariant in
    let j = c.loop-span.next.index in
    let xs = spans_at c.args.rows.now c.args.row.now in
    let found : slice_get xs j ≡ Some c.in-Some.span.now =
    sym (c.in-Some.ensures.run c.args.row.now.chain c.args.row.now.index j c.requires.row.chain c.walk_start-next.ensures.there inv.at) in
    let index = ap (λ (k : Cursor). k.index) (c.next_run.ensures c.args.row.now.chain c.args.row.now.index j inv.at) in
    let less : length xs - c.next_run.new.run.index < length xs - j = omega (arith, index, slice_get_within xs j c.in-Some.span.now found) in
    less

pub returns-then-test : goal.returns-then-test
returns-then-test g c p tests =
    let inv = c.loop-span.invariant in
    let j = c.loop-span.next.index in
    let xs = spans_at c.args.rows.now c.args.row.now in
    let found : slice_get xs j ≡ Some c.in-Some.span.now =
    sym (c.in-Some.ensures.run c.args.row.now.chain c.args.row.now.index j c.requires.row.chain c.walk_start-next.ensures.there inv.at) in
    sym (inv.rest p tests
    ∙ ap (find (passes c.args.start c.args.end p)) (drop_here xs j c.in-Some.span.now found)
    ∙ found_at c.args.start c.args.end p c.in-Some.span.now (drop (j + 1) xs) c.if-end-span.false c.if-start-span.true
    (sym (tests _ c.test.result c.test.ensures) ∙ c.if-test.true))

pub returns : goal.returns
returns g c p tests =
    let inv = c.loop-span.invariant in
    let j = c.loop-span.next.index in
    let xs = spans_at c.args.rows.now c.args.row.now in
    let none : find (passes c.args.start c.args.end p) (drop j xs) ≡ None =
    elim c.match-run.branch [
      | in-Some+then-end-span w ↦
          let here : drop j xs ≡ w.in-Some.span.now ∷ drop (j + 1) xs =
          drop_here xs j w.in-Some.span.now
          (sym (w.in-Some.ensures.run c.args.row.now.chain c.args.row.now.index j c.requires.row.chain c.walk_start-next.ensures.there inv.at)) in
          ap (find (passes c.args.start c.args.end p)) here
          ∙ none_from c.args.start c.args.end p w.in-Some.span.now (drop (j + 1) xs) (subst AreSpans here (drop_are xs j c.requires.spans)) w.if-end-span.true
      | in_default w ↦
          ap (find (passes c.args.start c.args.end p)) (drop_end xs j
          (sym (c.run.ensures.run c.args.row.now.chain c.args.row.now.index j c.requires.row.chain c.walk_start-next.ensures.there inv.at)
          ∙ ap option_copied w.in_default.is))
    ] in
    sym (inv.rest p tests ∙ none)
