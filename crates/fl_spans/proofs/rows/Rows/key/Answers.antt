use Rattle.std.proofs.Common.{sym}
use Rattle.fl_spans.proofs.Reading.{at_head, key_told}
use Rattle.fl_spans.proofs.rows.Rows.key.Goals as goal

pub returns-clause-key : goal.returns-clause-key
returns-clause-key g c =
    let at = at_head _ _ _ c.self.view_is c.args.row.now c.requires in
    key_told _ _ _ c.self.view_is c.args.row.now _ c.requires (sym (c.in_ok-head.ensures.at_index _ _ at))
