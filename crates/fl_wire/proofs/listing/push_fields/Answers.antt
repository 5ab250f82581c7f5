-- The fields, in the order of the layout.
use Rattle.fl_wire.proofs.Appending.{appended}
use Rattle.fl_wire.proofs.listing.push_fields.Goals as goal

pub returns-clause-items : goal.returns-clause-items
returns-clause-items c =
    appended (appended (appended c.push_u64.ensures.items c.push_u64-2.ensures.items) c.push_u32.ensures.items) c.push_u32-2.ensures.items
