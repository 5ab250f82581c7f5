-- The fields, in the order of the layout.
use Rattle.fl_wire.proofs.Appending.{appended}
use Rattle.fl_wire.specs.Spell.{entry_bytes}
use Rattle.fl_wire.proofs.writing.push_entry.Goals as goal

pub returns-clause-items : goal.returns-clause-items
unfolding entry_bytes
returns-clause-items c =
    appended (appended c.push_u64.ensures.items c.push_zeros.ensures.items) c.push_attr.ensures.items
