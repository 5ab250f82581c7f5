-- Messages whose orders can be written as lines, and read back.
use Rattle.std.specs.Prelude.{All}
use Rattle.fl_order.specs.Sayable.{IsSayable}
use Rattle.fl_session.specs.Once.{orders_in}
use Rattle.fl_session.specs.Session.{Came}
use Rattle.fl_transport.specs.Handshake.{incoming_by}
use Rattle.fl_wire.specs.Says.{said}

-- What a message says fits the fields of its orders. `fl_wire` says so of each message that it reads (`sayable`).
abbrev pub CanBeSaid : Came → Type 0
CanBeSaid c = All IsSayable (orders_in (incoming_by c.message (said c.message)))
