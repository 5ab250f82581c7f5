use Rattle.fl_ranges.proofs.Lawful.{lawful_empty, lawful_stroked, lawful_without}
use Rattle.fl_ranges.proofs.laws.a_change_without_conflict_keeps_locks_lawful.Goals as goal

pub returns : goal.returns
returns c = record { nothing = lawful_empty; struck = lawful_stroked; cleared = lawful_without }
