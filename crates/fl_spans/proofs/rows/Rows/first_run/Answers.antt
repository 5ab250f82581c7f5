use Rattle.std.proofs.Common.{sym}
use Rattle.fl_spans.proofs.Reading.{at_head, first_told, row_there}
use Rattle.fl_spans.proofs.rows.Rows.first_run.Goals as goal

pub returns-clause-first : goal.returns-clause-first
returns-clause-first g c =
    let at = at_head _ _ _ c.self.view_is c.args.row.now c.requires.row in
    first_told _ _ _ c.self.view_is c.args.row.now c.cursor.result _ c.from.result (sym (c.in-Some.ensures.at_index _ _ at)) c.from.ensures
    c.cursor.ensures.first

pub returns-clause-there : goal.returns-clause-there
returns-clause-there g c = row_there _ _ _ c.self.view_is c.args.row.now c.requires.row c.requires.at_row
