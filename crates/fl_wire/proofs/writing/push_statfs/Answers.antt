-- The fields, in the order of the layout.
use Rattle.fl_wire.proofs.Appending.{appended}
use Rattle.fl_wire.specs.Spell.{statfs_bytes}
use Rattle.fl_wire.proofs.writing.push_statfs.Goals as goal

pub returns-clause-items : goal.returns-clause-items
unfolding statfs_bytes
returns-clause-items c =
    appended
    (appended (appended (appended (appended (appended c.push_zeros.ensures.items c.push_u64.ensures.items) c.push_u64-2.ensures.items)
    c.push_u32.ensures.items) c.push_u32-2.ensures.items) c.push_u32-3.ensures.items)
    c.push_zeros-2.ensures.items
