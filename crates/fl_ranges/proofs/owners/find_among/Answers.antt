use Rattle.std.proofs.Common.{◌≡◌, ◌||◌, ℕ, false, Some, None, is_some, slice_get, slice_index_or, sym, ap, ◌∙◌, arith}
use Rattle.std.specs.List.{find, list_any}
use Rattle.fl_arena.specs.declared.cursors.Cursor.{Cursor}
use Rattle.fl_spans.specs.Rows.{chain_count, rows, keys, runs_at}
use Rattle.fl_ranges.specs.Placing.{home}
use Rattle.fl_ranges.specs.Layout.{runs_in}
use Rattle.fl_ranges.specs.Inside.Owners.{run_conflicts_by}
use Rattle.fl_ranges.specs.Inside.Contenders.{class_rows, kin_owner, span_conflicts}
use Rattle.fl_ranges.proofs.ContenderRows.{kin_spans}
use Rattle.fl_ranges.proofs.ContenderMarks.{contender_class, contender_end, more_behind, AreMarked, still_passed}
use Rattle.fl_ranges.proofs.ContenderMarks.{next_passed, next_rest, or_none}
use Rattle.fl_ranges.proofs.owners.find_among.Goals as goal

pub loop-owner-init : goal.loop-owner-init
loop-owner-init c =
    let key = c.args.key.now in
    let range = c.args.range.now in
    let first = c.first_of_class-row.ensures in
    record {
      row = first.row;
      chain = first.chain;
      within = omega arith;
      passed = λ k none. absurd (omega (arith, none));
      rest = λ k within.
          let o = slice_index_or c.args.owners.now k 0 in
          sym (ap (λ b. slice_index_or c.args.found.now k false || b)
          (contender_class key range.start range.end c.args.kind c.args.table.now c.requires.kept o
          ∙ ap (λ rs. list_any (run_conflicts_by key range.start range.end c.args.kind o) (runs_in (class_rows key rs))) (sym first.first)));
    }

pub returns-then-first-owners : goal.returns-then-first-owners
returns-then-first-owners c =
    let v = c.args.table.now in
    let key = c.args.key.now in
    let range = c.args.range.now in
    let inv = c.loop-owner.invariant in
    let i = c.loop-owner.row.index in
    let found : kin_owner key (slice_get (keys (rows v (home (chain_count v) key.node))) i) ≡ Some c.in-Some.owner =
    ap (λ d. kin_owner key (slice_get (keys (rows v d)) i)) (sym inv.chain) ∙ sym c.in-Some.ensures.owner in
    let are = c.requires.kept (home (chain_count v) key.node) in
    λ k within.
    sym (or_none (slice_index_or c.loop-owner.found k false))
    ∙ ap (λ b. slice_index_or c.loop-owner.found k false || b)
    (sym (still_passed key range.start range.end c.args.kind (rows v (home (chain_count v) key.node)) i c.in-Some.owner found are.in_order c.args.owners.now
    c.loop-owner.place c.skip_less-first.result c.skip_less-first.ensures.less inv.passed k (omega (arith, c.if-first-owners.true))))
    ∙ inv.rest k within

pub look_into-requires-clause-spans : goal.look_into-requires-clause-spans
look_into-requires-clause-spans c =
    let rs = rows c.args.table.now c.loop-owner.row.chain in
    let are = c.requires.kept c.loop-owner.row.chain in
    kin_spans c.args.key.now rs c.loop-owner.row.index c.in-Some.owner (sym c.in-Some.ensures.owner) are.spans

pub loop-owner-preserved : goal.loop-owner-preserved
loop-owner-preserved c =
    let v = c.args.table.now in
    let key = c.args.key.now in
    let range = c.args.range.now in
    let inv = c.loop-owner.invariant in
    let i = c.loop-owner.row.index in
    let on = c.next_row.ensures.next in
    let first = c.skip_less-first in
    let last = c.skip_same-place in
    let found : kin_owner key (slice_get (keys (rows v (home (chain_count v) key.node))) i) ≡ Some c.in-Some.owner =
    ap (λ d. kin_owner key (slice_get (keys (rows v d)) i)) (sym inv.chain) ∙ sym c.in-Some.ensures.owner in
    let are = c.requires.kept (home (chain_count v) key.node) in
    let more = more_behind c.args.owners.now c.in-Some.owner first.result last.result c.requires.ascending last.ensures.from first.ensures.stop
    last.ensures.stop in
    let seen = λ (d : ℕ). is_some (find (span_conflicts key c.in-Some.owner range.start range.end c.args.kind) (runs_at (rows v d) i)) in
    let marked : AreMarked c.loop-owner.found c.look_into.new.found first.result last.result (seen (home (chain_count v) key.node)) = record {
      set = λ k from before. c.look_into.ensures.set k from before ∙ ap (λ d. slice_index_or c.loop-owner.found k false || seen d) inv.chain;
      before = c.look_into.ensures.before;
      behind = c.look_into.ensures.behind;
    } in
    record {
      row = c.next_row.ensures.row;
      chain = ap (λ (k : Cursor). k.chain) on ∙ inv.chain;
      within = last.ensures.within;
      passed = rw (ap (λ (k : Cursor). k.index) on) (next_passed key range.start range.end c.args.kind (rows v (home (chain_count v) key.node)) i c.in-Some.owner
          found are.in_order c.args.owners.now c.loop-owner.place first.result first.ensures.less inv.passed last.result last.ensures.same);
      rest = rw (ap (λ (k : Cursor). k.index) on) (λ k within.
          next_rest key range.start range.end c.args.kind (rows v (home (chain_count v) key.node)) i c.in-Some.owner found are.in_order c.args.owners.now
          c.loop-owner.place first.result first.ensures.less inv.passed last.result last.ensures.same last.ensures.from more c.loop-owner.found
          c.look_into.new.found marked k within
          ∙ inv.rest k within);
    }

pub returns : goal.returns
returns c =
    let v = c.args.table.now in
    let key = c.args.key.now in
    let range = c.args.range.now in
    let inv = c.loop-owner.invariant in
    let i = c.loop-owner.row.index in
    let none : kin_owner key (slice_get (keys (rows v (home (chain_count v) key.node))) i) ≡ None =
    ap (λ d. kin_owner key (slice_get (keys (rows v d)) i)) (sym inv.chain) ∙ sym c.owner_at.ensures.owner ∙ c.in_default.is in
    λ k within.
    sym (or_none (slice_index_or c.loop-owner.found k false))
    ∙ ap (λ b. slice_index_or c.loop-owner.found k false || b)
    (sym (contender_end key range.start range.end c.args.kind (rows v (home (chain_count v) key.node)) i none (slice_index_or c.args.owners.now k 0)))
    ∙ inv.rest k within
