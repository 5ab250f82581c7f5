-- What a core's parts are between the changes of one order.
use Rattle.std.specs.Prelude.{not, Option, Some, None, Result, List}
use Rattle.std.specs.List.{filter}
use Rattle.fl_core.specs.Replies.{ending_of, picks}
use Rattle.fl_core.specs.State.{Snapshot}
use Rattle.fl_core.specs.declared.ending.Ending.{Ending}
use Rattle.fl_waiting.specs.declared.parked.Request.{Request}
use Rattle.fl_order.specs.declared.errno.Errno.{Errno}
use Rattle.fl_order.specs.declared.told.Answer.{Answer}
use Rattle.fl_order.specs.declared.order.Op.{Op}

-- the parked requests are these
abbrev pub with_parked : List Request → Snapshot → Snapshot
with_parked parked p = record p { view = record p.view { parked = parked } }

-- those that an ending leaves, if there is one
abbrev pub left_if : Option Ending → List Request → List Request
left_if None parked = parked
left_if (Some ending) parked = filter (λ r. not (picks ending r)) parked

-- the requests that an order leaves, by what it is answered itself
abbrev pub left_by : List Request → Op → Option (Result Answer Errno) → List Request
left_by parked op own = left_if (ending_of op own) parked
