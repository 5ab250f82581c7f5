-- The fields, in the order of the layout.
use Rattle.fl_wire.proofs.Appending.{appended}
use Rattle.fl_wire.specs.Init.{again_bytes}
use Rattle.fl_wire.proofs.init.push_version.Goals as goal

pub returns-clause-items : goal.returns-clause-items
unfolding again_bytes
returns-clause-items c =
    appended (appended c.push_u32.ensures.items c.push_u32-2.ensures.items) c.push_zeros.ensures.items
