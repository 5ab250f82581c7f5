use Rattle.std.proofs.Common.{rules, ◌-◌, ℕ, nat_lt, nat_le, length, take, drop}
use Rattle.std.proofs.lemmas.List.{take_rest}
use Rattle.std.proofs.lemmas.List.Sorted.{IsPartitionPoint-from_clause, IsPartitionedBy-ltb, IsPartitionedBy-leb, IsNonDecreasingBy-drop}
use Rattle.std.proofs.lemmas.List.Sorted.{IsNonDecreasingBy-take}
use Rattle.fl_marks.specs.declared.run.Run.{Run}
use Rattle.fl_locks.proofs.RunsOn.{part_of}
use Rattle.fl_locks.proofs.blockers.runs_on.Goals as goal

pub returns : goal.returns
returns c =
    let n : Run → ℕ = λ r. r.key.node in
    let node = c.args.node in
    let xs = c.args.runs.now in
    let i = c.partition_point-start.result in
    let rest = take (length xs - i) (drop i xs) in
    let start = c.partition_point-start.ensures in
    let end = c.partition_point-end.ensures in
    part_of n node xs rest i c.partition_point-end.result (take_rest xs i) start.bound end.bound
    (IsPartitionPoint-from_clause (λ (r : Run). nat_lt r.key.node node) xs i start.partitioned (IsPartitionedBy-ltb n xs node c.requires) (λ a r q k. search rules))
    (IsPartitionPoint-from_clause (λ (r : Run). nat_le r.key.node node) rest c.partition_point-end.result end.partitioned
    (IsPartitionedBy-leb n rest node (IsNonDecreasingBy-take n (length xs - i) (drop i xs) (IsNonDecreasingBy-drop n i xs c.requires))) (λ a r q k. search rules))
