-- The fields, in the order of the layout.
use Rattle.fl_wire.proofs.Appending.{appended}
use Rattle.fl_wire.specs.Spell.{open_bytes}
use Rattle.fl_wire.proofs.writing.push_open.Goals as goal

pub returns-clause-items : goal.returns-clause-items
unfolding open_bytes
returns-clause-items c =
    appended c.push_u64.ensures.items c.push_zeros.ensures.items
