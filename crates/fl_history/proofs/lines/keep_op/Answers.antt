use Rattle.std.proofs.Common.{◌∙◌, ap, sym}
use Rattle.fl_history.specs.Inside.Records.{opened_parts}
use Rattle.fl_history.proofs.lines.keep_op.Goals as goal

pub returns-in-Some-clause-opened : goal.returns-in-Some-clause-opened
returns-in-Some-clause-opened c =
    ap (opened_parts c.args.names.now.items) c.short_lock.ensures ∙ sym ((c.lock_parts.ensures c.in-Some.kind c.in-Some.ask).0 c.in-Some.is)
