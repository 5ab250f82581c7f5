use Rattle.std.proofs.Common.{None}
use Rattle.fl_ranges.proofs.Lawful.{lawful_either}
use Rattle.fl_ranges.proofs.Elsewhere.{elsewhere_either}
use Rattle.fl_ranges.proofs.table.Table.erase.Goals as goal

pub returns-clause-lawful : goal.returns-clause-lawful
returns-clause-lawful c =
    lawful_either c.stroke.result (record { key = c.args.key.now; start = c.args.range.now.start; end = c.args.range.now.end; mark = None }) c.args.self.now
    c.stroke.new.self c.stroke.ensures.ok c.stroke.ensures.err (λ mark is. absurd (cc is))

pub returns-clause-elsewhere : goal.returns-clause-elsewhere
returns-clause-elsewhere c =
    elsewhere_either c.stroke.result (record { key = c.args.key.now; start = c.args.range.now.start; end = c.args.range.now.end; mark = None }) c.args.self.now
    c.stroke.new.self c.stroke.ensures.ok c.stroke.ensures.err
