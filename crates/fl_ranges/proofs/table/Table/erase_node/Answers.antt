use Rattle.fl_marks.specs.Runs.{without_node}
use Rattle.fl_ranges.proofs.Lawful.{lawful_without, lawful_with}
use Rattle.fl_ranges.proofs.Elsewhere.{off_node_with}
use Rattle.fl_ranges.proofs.TableCalls.{seen}
use Rattle.fl_ranges.proofs.table.Table.erase_node.Goals as goal

pub returns-clause-erased : goal.returns-clause-erased
returns-clause-erased c =
    seen c.self.inside.limit _ _ _ _ c.args.self.now (without_node c.args.node) c.self.view_is c.erase_node.ensures.table.count c.erase_node.ensures.erased

pub returns-clause-lawful : goal.returns-clause-lawful
returns-clause-lawful c = λ lawful.
    lawful_with c.args.self.now _ (without_node c.args.node c.args.self.now.marking) (returns-clause-erased c)
    (lawful_without c.args.self.now.marking c.args.node lawful)

pub returns-clause-elsewhere : goal.returns-clause-elsewhere
returns-clause-elsewhere c = off_node_with c.args.node c.args.self.now _ (returns-clause-erased c)
