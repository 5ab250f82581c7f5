use Rattle.std.proofs.Common.{sym, ap, subst}
use Rattle.fl_ranges.specs.LockTable.{LockTable}
use Rattle.fl_marks.specs.Conflict.{IsLawful}
use Rattle.fl_ranges.proofs.Lawful.{lawful_empty}
use Rattle.fl_ranges.proofs.TableCalls.{new_table, new_seen}
use Rattle.fl_ranges.proofs.table.Table.new.Goals as goal

pub invariant_of-result : goal.invariant_of-result
invariant_of-result c =
    new_table c.in_ok-new.field-0 c.args.limit c.args.chains c.requires.limit c.requires.some_chain c.in_ok-new.ensures.rows c.in_ok-new.ensures.limit

pub returns-clause-empty : goal.returns-clause-empty
returns-clause-empty c = new_seen c.in_ok-new.field-0 c.args.limit c.args.chains c.in_ok-new.ensures.rows

pub returns-clause-lawful : goal.returns-clause-lawful
returns-clause-lawful c = subst IsLawful (sym (ap (λ (t : LockTable). t.marking) (returns-clause-empty c))) lawful_empty
