use Rattle.std.proofs.Common.{◌≡◌, Some, ap, sym, ◌∙◌}
use Rattle.fl_marks.specs.declared.lock.Mark.{Mark}
use Rattle.fl_marks.specs.Conflict.{conflicts}
use Rattle.fl_ranges.proofs.Lawful.{lawful_either}
use Rattle.fl_ranges.proofs.Elsewhere.{elsewhere_either}
use Rattle.fl_ranges.proofs.table.Table.put.Goals as goal

pub returns-clause-lawful : goal.returns-clause-lawful
returns-clause-lawful c = λ clear.
    lawful_either c.stroke.result (record { key = c.args.key.now; start = c.args.range.now.start; end = c.args.range.now.end; mark = Some c.args.mark })
    c.args.self.now c.stroke.new.self c.stroke.ensures.ok c.stroke.ensures.err
    (λ mark is. let same : c.args.mark ≡ mark =
    cc in ap (λ (w : Mark). conflicts c.args.self.now.marking c.args.key.now c.args.range.now.start c.args.range.now.end w.kind) (sym same) ∙ clear)

pub returns-clause-elsewhere : goal.returns-clause-elsewhere
returns-clause-elsewhere c =
    elsewhere_either c.stroke.result (record { key = c.args.key.now; start = c.args.range.now.start; end = c.args.range.now.end; mark = Some c.args.mark })
    c.args.self.now c.stroke.new.self c.stroke.ensures.ok c.stroke.ensures.err
