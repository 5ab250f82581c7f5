-- Messages that are sent again to a session that goes on behind lines (`FUSE_UNIQUE_RESEND` of Linux `fuse.h`, protocol
-- 7.40).
use Rattle.std.specs.Prelude.{ℕ, ◌-◌, ◌^◌, ◌&&◌, nat_le, Bool, if◌then◌else◌, map, Option, None, Some}
use Rattle.fl_order.specs.declared.order.Order.{Order}
use Rattle.fl_transport.specs.declared.handshake.Incoming.{Incoming}
use Rattle.fl_transport.specs.declared.handshake.Incoming.TheVariants as incoming
use Rattle.fl_transport.specs.declared.response.Response.{Response}
use Rattle.fl_transport.specs.declared.response.Response.TheVariants.{Nothing, Init, One, Replies, Whole}

-- The unique without its mark, if it is that of a message that is sent again: these have bit 63 set. A session knows
-- such messages, or doesn't.
abbrev pub unmarked : Bool → ℕ → Option ℕ
unmarked resends unique = if resends && nat_le (2 ^ 63) unique then Some (unique - 2 ^ 63) else None

-- an order under this unique
abbrev pub order_under : ℕ → Order → Order
order_under unique order = record order { unique = unique }

-- An answer of the session itself under this unique. It never is the replies of an order.
abbrev pub response_under : ℕ → Response → Response
response_under unique Nothing = Nothing
response_under unique (Init marked step) = Init unique step
response_under unique (One told) = One (record told { unique = unique })
response_under unique (Replies tolds) = Replies tolds
response_under unique (Whole marked ask) = Whole unique ask

-- what a message is to a session, under this unique
abbrev pub incoming_under : ℕ → Incoming → Incoming
incoming_under unique (incoming.Order order) = incoming.Order (order_under unique order)
incoming_under unique (incoming.Batch orders) = incoming.Batch (map (order_under unique) orders)
incoming_under unique (incoming.Response response) = incoming.Response (response_under unique response)
