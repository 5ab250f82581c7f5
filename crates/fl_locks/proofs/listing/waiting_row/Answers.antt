use Rattle.std.proofs.Common.{sym, subst}
use Rattle.std.specs.List.Sorted.{IsNonDecreasingBy}
use Rattle.fl_marks.specs.declared.run.Run.{Run}
use Rattle.fl_locks.proofs.RunsOn.{runs_by_node}
use Rattle.fl_locks.proofs.listing.waiting_row.Goals as goal

pub blockers_of-requires : goal.blockers_of-requires
blockers_of-requires c = subst (IsNonDecreasingBy (λ (r : Run). r.key.node)) (sym c.requires) (runs_by_node c.args.core.now.marking)
