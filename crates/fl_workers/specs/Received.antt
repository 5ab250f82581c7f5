-- What the receiver of a session with workers received, and what it answered itself.
use Rattle.std.specs.Prelude.{◌≡◌, ℕ, ◌≤◌, Bool, true, false, List, [], ◌∷◌, ◌++◌, length, map, Option, if◌then◌else◌}
use Rattle.fl_log.specs.Appended.{Appended}
use Rattle.fl_order.specs.declared.order.Order.{Order}
use Rattle.fl_transport.specs.Ending.{IsEnding, IsRead}
use Rattle.fl_transport.specs.Handshake.{advanced, handshake_of, incoming_of, opening}
use Rattle.fl_transport.specs.Response.{goodbye_to}
use Rattle.fl_transport.specs.Said.{said_in}
use Rattle.fl_transport.specs.declared.fault.Fault.{Fault}
use Rattle.fl_transport.specs.declared.handshake.Handshake.{Handshake}
use Rattle.fl_transport.specs.declared.handshake.Incoming.{Incoming}
use Rattle.fl_transport.specs.declared.handshake.Incoming.TheVariants as incoming
use Rattle.fl_transport.specs.declared.response.Response.{Response}
use Rattle.fl_transport.specs.declared.response.Response.TheVariants.{Nothing}
use Rattle.fl_workers.specs.Sent.{HasSent, entry, replies_of}
use Rattle.fl_workers.specs.declared.entry.ReplyEntry.{ReplyEntry}

-- the answer of the session itself to a message, if it is no order
abbrev pub own_answer_in : Incoming → List Response
own_answer_in (incoming.Order order) = []
own_answer_in (incoming.Batch orders) = []
own_answer_in (incoming.Response response) = response ∷ []

-- the same of a message to a session that isn't whole and is this far; after a DESTROY nothing comes
abbrev pub own_answer_to : Handshake → List ℕ → List Response
own_answer_to handshake message = if handshake.over then [] else own_answer_in (incoming_of false handshake message)

-- the answers of the session itself to these messages, when it is this far
abbrev pub own_answers_from : Handshake → List (List ℕ) → List Response
own_answers_from handshake [] = []
own_answers_from handshake (message ∷ messages) =
    own_answer_to handshake message ++ own_answers_from (advanced handshake message) messages

-- the answers of the session itself to its messages, that to a DESTROY too
abbrev pub own_answers : List (List ℕ) → List Response
own_answers messages = own_answers_from opening messages

-- an answer of the session itself, as this author gives it to be sent
abbrev pub answer_by : ℕ → Response → ReplyEntry
answer_by author response = entry author (replies_of response)

-- This is what the last message is answered if it is a DESTROY.
pub record IsLast (messages : List (List ℕ)) (goodbye : Response) : Type 0 where
  pub front : List (List ℕ)
  pub last : List ℕ
  pub parts : messages ≡ front ++ last ∷ []
  pub answer : goodbye ≡ goodbye_to last

-- what is left to be answered at the end of a session: the DESTROY that ended it, if one did
abbrev pub left_to_answer : Bool → Response → List Response
left_to_answer over goodbye = if over then goodbye ∷ [] else []

-- How a receiver went: what was left of its reader and is left now, its fault, the orders that it dispatched, what it
-- leaves to answer a DESTROY, what it had given to be sent and has now, and whether some answer was lost on the way
-- there.
pub record Reception : Type 0 where
  pub left : Option (List ℕ)
  pub left_now : Option (List ℕ)
  pub fault : Option Fault
  pub orders : List Order
  pub goodbye : Response
  pub sent : Appended ReplyEntry
  pub sent_now : Appended ReplyEntry
  pub lost : Bool

-- What was read is whole messages and a rest, and the orders of these messages were dispatched. If a DESTROY ended the
-- session, this is left to answer it. Otherwise nothing is. Each other message that is no order was answered, in this
-- order, and nothing else was given to be sent; some answers may lack if one was lost.
pub record HasReceived (it : Reception) : Type 0 where
  pub messages : List (List ℕ)
  pub rest : List ℕ
  pub is_read : IsRead it.left it.left_now messages rest
  pub bounded : length rest ≤ 8192
  pub ending : IsEnding it.fault (handshake_of messages).over rest it.left_now
  pub said : it.orders ≡ said_in messages
  pub over : (handshake_of messages).over ≡ true → IsLast messages it.goodbye
  pub live : (handshake_of messages).over ≡ false → it.goodbye ≡ Nothing
  pub answered : List Response
  pub own : own_answers messages ≡ answered ++ left_to_answer (handshake_of messages).over it.goodbye
  pub sent : HasSent (map (answer_by it.sent.author) answered) it.sent it.sent_now it.lost
