-- The fields, in the order of the layout.
use Rattle.fl_wire.proofs.Appending.{appended}
use Rattle.fl_wire.specs.Init.{agreed_bytes}
use Rattle.fl_wire.proofs.init.push_agreed.Goals as goal

pub returns-clause-items : goal.returns-clause-items
unfolding agreed_bytes
returns-clause-items c =
    appended
    (appended (appended (appended (appended (appended (appended (appended c.push_u32.ensures.items c.push_u32-2.ensures.items) c.push_u32-3.ensures.items)
    c.push_u32-4.ensures.items) c.push_u16.ensures.items) c.push_u16-2.ensures.items) c.push_u32-5.ensures.items) c.push_u32-6.ensures.items)
    c.push_zeros.ensures.items
