use Rattle.fl_ranges.proofs.Speaking.{others_conflict, class_conflicts, unlocked_conflicts, cleared_conflicts}
use Rattle.fl_ranges.proofs.laws.a_change_counts_where_it_speaks.Goals as goal

pub returns-clause-others : goal.returns-clause-others
returns-clause-others c = others_conflict

pub returns-clause-class : goal.returns-clause-class
returns-clause-class c = class_conflicts

pub returns-clause-unlocked : goal.returns-clause-unlocked
returns-clause-unlocked c = unlocked_conflicts

pub returns-clause-cleared : goal.returns-clause-cleared
returns-clause-cleared c = cleared_conflicts
