use Rattle.std.proofs.Common.{rules, ◌≡◌, ◌∙◌, ◌++◌, ℕ, false, None, [], map, refl, ap, subst}
use Rattle.std.proofs.lemmas.List.Sorted.{answers_always}
use Rattle.fl_marks.specs.declared.lock.Class.TheVariants.{Record}
use Rattle.fl_marks.specs.declared.lock.Kind.TheVariants.{Read}
use Rattle.fl_marks.specs.HeldRuns.{runs_in_order, ConflictAsMarks}
use Rattle.fl_marks.specs.Marking.{Marking}
use Rattle.fl_locks.specs.declared.row.LockRow.{LockRow}
use Rattle.fl_locks.specs.LockRows.{held_row, waiting_rows, by_node}
use Rattle.fl_locks.specs.Inside.{requests_of}
use Rattle.fl_locks.proofs.ByNode.{sorted_stably}
use Rattle.fl_locks.proofs.WhoBlocks.{who_blocks}
use Rattle.fl_locks.proofs.listing.lock_rows.Goals as goal

-- a row of a node
row_on : ℕ → LockRow
row_on node = record {
  key = record { class = Record; node = node; owner = 0 };
  start = 0;
  end = 0;
  mark = record { kind = Read; pid = 0 };
  name = None;
  linked = false;
  unique = None;
  blockers = [];
}

some_row : (node : ℕ) → (row : LockRow) × (row.key.node ≡ node)
unfolding row_on
some_row node = (row_on node, refl)

pub returns-clause-rows : goal.returns-clause-rows
returns-clause-rows c =
    let s = c.args.core.now in
    let node : LockRow → ℕ = λ row. row.key.node in
    let sort = c.in_ok-sort_by_key.ensures in
    let runs : c.in_ok-runs.runs.items ≡ runs_in_order s.marking = c.in_ok-runs.ensures.runs ∙ ap runs_in_order c.table.ensures in
    let held =
    c.in_ok-add_held.ensures
    ∙ (λ i. c.new-rows.ensures.items i ++ map (held_row (c.directory.ensures i)) ((c.deref.ensures.value ∙ runs) i)) in
    let parked : requests_of c.deref-3.result.now ≡ s.view.parked =
    ap requests_of c.deref-3.ensures.value ∙ c.in_ok-claims.ensures ∙ c.parked.ensures in
    sorted_stably node c.add_waiting.new.rows.items c.sort_by_key.new.self.items some_row sort.permutation
    (sort.sorted node (answers_always _ _ _ (λ f a r g h. search rules))) (sort.stable node (answers_always _ _ _ (λ f a r g h. search rules)))
    ∙ ap by_node (c.in_ok-add_waiting.ensures ∙ (λ i. held i ++ waiting_rows s [] (parked i)))

pub returns-clause-blockers : goal.returns-clause-blockers
returns-clause-blockers c =
    let s = c.args.core.now in
    who_blocks s (subst (λ (m : Marking). ConflictAsMarks m (runs_in_order m)) c.table.ensures
    (subst (ConflictAsMarks c.table.result.now.marking) c.in_ok-runs.ensures.runs c.in_ok-runs.ensures.conflicts))
