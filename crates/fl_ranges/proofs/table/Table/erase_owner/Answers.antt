use Rattle.std.proofs.Common.{None}
use Rattle.fl_marks.specs.Marking.{Stroke, stroked}
use Rattle.fl_ranges.proofs.Lawful.{lawful_stroked, lawful_with}
use Rattle.fl_ranges.proofs.Elsewhere.{elsewhere_with}
use Rattle.fl_ranges.proofs.TableCalls.{seen}
use Rattle.fl_ranges.proofs.table.Table.erase_owner.Goals as goal

pub returns-clause-erased : goal.returns-clause-erased
returns-clause-erased c =
    seen c.self.inside.limit _ _ _ _ c.args.self.now (stroked
    (record { key = c.args.key.now; start = 0; end = 9223372036854775807; mark = None })) c.self.view_is c.erase_owner.ensures.table.count c.erase_owner.ensures.erased

pub returns-clause-lawful : goal.returns-clause-lawful
returns-clause-lawful c = λ lawful.
    let s : Stroke = record { key = c.args.key.now; start = 0; end = 9223372036854775807; mark = None } in
    lawful_with c.args.self.now _ (stroked s c.args.self.now.marking) (returns-clause-erased c)
    (lawful_stroked c.args.self.now.marking s (λ mark is. absurd (cc is)) lawful)

pub returns-clause-elsewhere : goal.returns-clause-elsewhere
returns-clause-elsewhere c =
    elsewhere_with (record { key = c.args.key.now; start = 0; end = 9223372036854775807; mark = None }) c.args.self.now _ (returns-clause-erased c)
