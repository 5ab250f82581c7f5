use Rattle.std.proofs.Common.{rules, ◌∙◌, ap, sym, subst, List}
use Rattle.std.proofs.lemmas.List.MinMax.{ranks_by}
use Rattle.std.proofs.lemmas.List.Sorted.{answers_always, list_any-IsPermutation}
use Rattle.std.specs.List.Sorted.{IsPermutation}
use Rattle.fl_marks.specs.declared.run.Run.{Run}
use Rattle.fl_marks.specs.HeldRuns.{runs_in_order, run_conflicts_with, ConflictAsMarks}
use Rattle.fl_ranges.specs.LockTable.{LockTable}
use Rattle.fl_ranges.specs.Layout.{table_runs}
use Rattle.fl_ranges.proofs.Conflicting.{runs_conflict}
use Rattle.fl_ranges.proofs.Counting.{start_of}
use Rattle.fl_ranges.proofs.HeldRuns.{listing_total, before, in_order}
use Rattle.fl_ranges.proofs.TableCalls.{table_apart}
use Rattle.fl_ranges.proofs.table.Table.held_runs.Goals as goal

pub returns : goal.returns
returns c =
    let v = c.self.inside.rows in
    let sorted = c.sort_unstable_by.new.self.items in
    let good = table_apart v c.self.inside.limit c.self.invariant in
    let same : IsPermutation (table_runs v) sorted =
    subst (λ (rs : List Run). IsPermutation rs sorted) c.in_ok-runs.ensures c.sort_unstable_by.ensures.permutation in
    record {
      runs = in_order (table_runs v) good sorted same
          (c.sort_unstable_by.ensures.sorted before (ranks_by listing_total start_of) (answers_always _ _ _ (λ f a r g h. search rules)))
          ∙ ap (λ (t : LockTable). runs_in_order t.marking) c.self.view_is;
      conflicts = subst (λ (t : LockTable). ConflictAsMarks t.marking sorted) c.self.view_is (λ whose key start end kind range.
          sym (list_any-IsPermutation (run_conflicts_with whose key start end kind) (table_runs v) sorted same)
          ∙ runs_conflict whose key start end kind (table_runs v) range good.apart);
    }
