-- The order that a message says, if it says one.
use Rattle.std.specs.Prelude.{Option, None, Some, Result, Ok, Err}
use Rattle.fl_order.specs.declared.body.Body.{Body}
use Rattle.fl_order.specs.declared.errno.Errno.{Errno}
use Rattle.fl_order.specs.declared.order.Op.TheVariants.{Getattr}
use Rattle.fl_order.specs.declared.order.Order.{Order}
use Rattle.fl_order.specs.declared.refusal.Refusal.{Refusal}

-- the order that is said; some order, if none is
abbrev pub said_order : Result Order Refusal → Order
said_order (Ok order) = order
said_order (Err refusal) = record { unique = 0; node = 0; uid = 0; gid = 0; pid = 0; op = Getattr }

-- why there is no body, if there is none
abbrev pub fault_of : Result Body Errno → Option Errno
fault_of (Ok body) = None
fault_of (Err e) = Some e
