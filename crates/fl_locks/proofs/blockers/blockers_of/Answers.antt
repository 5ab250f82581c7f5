use Rattle.std.proofs.Common.{rules, ◌≡◌, ◌∙◌, ◌++◌, [], cond, map, ℕ, ap, sym}
use Rattle.std.proofs.lemmas.Fn.{dedup_same}
use Rattle.std.proofs.lemmas.List.{append-nil}
use Rattle.std.proofs.lemmas.List.Sorted.{answers_always}
use Rattle.std.specs.List.{filter}
use Rattle.fl_waiting.specs.Waiting.{older_blocks}
use Rattle.fl_marks.specs.declared.run.Run.{Run}
use Rattle.fl_locks.specs.declared.row.Blocker.{Blocker}
use Rattle.fl_locks.specs.LockRows.{lock_on, holder, asker, goes_first, first_pids, in_the_way_of}
use Rattle.fl_locks.specs.Inside.{meant, requests_of}
use Rattle.fl_locks.proofs.FirstPids.{of_one_owner, firsts}
use Rattle.fl_locks.proofs.RunsOn.{of_its_node}
use Rattle.fl_locks.proofs.blockers.blockers_of.Goals as goal
use Rattle.fl_locks.proofs.blockers.blockers_of.Goals.{then-rules+in_ok-add_askers, else-rules}

pub returns : goal.returns
returns c =
    let w = meant c.args.wanted.now in
    let older = requests_of c.args.older.now in
    let held = map holder (filter (λ (r : Run). older_blocks w (lock_on r)) c.args.runs.now) in
    let first : c.add_holders.new.found.items ≡ held =
    c.in_ok-add_holders.ensures
    ∙ (λ i. c.new-found.ensures.items i ++ map holder (c.runs_on.ensures (λ (r : Run). older_blocks w (lock_on r)) (of_its_node w) i)) in
    let all : c.if-rules.found.items ≡ in_the_way_of c.args.rules c.args.runs.now older w = elim c.if-rules.branch [
      | then-rules+in_ok-add_askers b ↦
          ap (λ v. v.items) b.found-is ∙ b.in_ok-add_askers.ensures
          ∙ (λ i. first i ++ cond (sym b.if-rules.true i) (map asker (filter (goes_first w) older)) [])
      | else-rules b ↦
          ap (λ v. v.items) b.found-is ∙ first ∙ sym (append-nil held)
          ∙ (λ i. held ++ cond (sym b.if-rules.false i) (map asker (filter (goes_first w) older)) [])
    ] in
    let owner : Blocker → ℕ = λ b. b.owner in
    let sort = c.in_ok-sort_by_key.ensures in
    c.new.ensures
    ∙ dedup_same _ of_one_owner _ (λ x y b f' x' y' k. search rules) _ _ c.dedup_by_key.ensures.filtered
    ∙ firsts c.if-rules.found.items c.sort_by_key.new.self.items
    (sort.sorted owner (answers_always _ _ _ (λ f a r g h. search rules))) (sort.stable owner (answers_always _ _ _ (λ f a r g h. search rules)))
    ∙ ap first_pids all
