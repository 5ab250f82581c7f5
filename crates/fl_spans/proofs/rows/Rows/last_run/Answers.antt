use Rattle.std.proofs.Common.{sym}
use Rattle.fl_spans.proofs.Reading.{at_head, last_told, row_there}
use Rattle.fl_spans.proofs.rows.Rows.last_run.Goals as goal

pub returns-clause-last : goal.returns-clause-last
returns-clause-last g c =
    let at = at_head _ _ _ c.self.view_is c.args.row.now c.requires.row in
    last_told _ _ _ c.self.view_is c.args.row.now c.last.result _ c.from.result c.requires.row (sym (c.in-Some.ensures.at_index _ _ at)) c.from.ensures
    c.last.ensures.last

pub returns-clause-there : goal.returns-clause-there
returns-clause-there g c = row_there _ _ _ c.self.view_is c.args.row.now c.requires.row c.requires.at_row
