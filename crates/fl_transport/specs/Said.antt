-- Which orders the messages of a session say.
use Rattle.std.specs.Prelude.{ℕ, false, List, [], ◌∷◌, ◌++◌, if◌then◌else◌}
use Rattle.fl_order.specs.declared.order.Order.{Order}
use Rattle.fl_transport.specs.Handshake.{advanced, incoming_of, opening}
use Rattle.fl_transport.specs.declared.handshake.Handshake.{Handshake}
use Rattle.fl_transport.specs.declared.handshake.Incoming.{Incoming}
use Rattle.fl_transport.specs.declared.handshake.Incoming.TheVariants as incoming

-- the orders that a message is: one, those of a batch, or none
abbrev pub orders_in : Incoming → List Order
orders_in (incoming.Order order) = order ∷ []
orders_in (incoming.Batch orders) = orders
orders_in (incoming.Response response) = []

-- the orders that a message says to a session that isn't whole and is this far: after the INIT that was agreed, and
-- before a DESTROY
abbrev pub orders_said : Handshake → List ℕ → List Order
orders_said handshake message = if handshake.over then [] else orders_in (incoming_of false handshake message)

-- the orders that these messages say to a session that isn't whole and is this far
abbrev pub said_from : Handshake → List (List ℕ) → List Order
said_from handshake [] = []
said_from handshake (message ∷ messages) =
    orders_said handshake message ++ said_from (advanced handshake message) messages

-- the orders that the messages of a session say that isn't whole
abbrev pub said_in : List (List ℕ) → List Order
said_in messages = said_from opening messages
