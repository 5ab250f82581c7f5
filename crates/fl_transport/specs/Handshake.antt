-- How far its messages bring a session, and what each message is to it (Linux `fuse.h`, protocol 7.31).
use Rattle.std.specs.Prelude.{ℕ, Bool, true, false, not, ◌&&◌, List, fold, Option, None, Some, Result, Ok, Err}
use Rattle.std.specs.Prelude.{if◌then◌else◌}
use Rattle.fl_order.specs.OpKind.{kind_of_opcode}
use Rattle.fl_order.specs.declared.errno.Errno.{Errno}
use Rattle.fl_order.specs.declared.errno.Errno.TheVariants.{ENOSYS, EPROTO}
use Rattle.fl_order.specs.declared.kind.OpKind.{OpKind}
use Rattle.fl_order.specs.declared.kind.OpKind.TheVariants as kinds
use Rattle.fl_order.specs.declared.order.Order.{Order}
use Rattle.fl_order.specs.declared.refusal.Refusal.{Refusal}
use Rattle.fl_order.specs.declared.refusal.Refusal.TheVariants.{Answer, Silent, Batch, Destroy}
use Rattle.fl_transport.specs.Response.{error_to, goodbye_to, refusal_of}
use Rattle.fl_transport.specs.declared.handshake.Handshake.{Handshake}
use Rattle.fl_transport.specs.declared.handshake.Incoming.{Incoming}
use Rattle.fl_transport.specs.declared.handshake.Incoming.TheVariants as incoming
use Rattle.fl_transport.specs.declared.response.Response.{Response}
use Rattle.fl_transport.specs.declared.response.Response.TheVariants.{Nothing, Init, Whole}
use Rattle.fl_wire.specs.Batch.{forgets_in}
use Rattle.fl_wire.specs.Init.{init_step}
use Rattle.fl_wire.specs.Layout.{opcode_of, unique_of}
use Rattle.fl_wire.specs.Says.{said}
use Rattle.fl_wire.specs.Whole.{is_for_whole, whole_ask}
use Rattle.fl_wire.specs.declared.init.InitStep.{InitStep}
use Rattle.fl_wire.specs.declared.init.InitStep.TheVariants.{Refused, Again, Agreed}
use Rattle.fl_wire.specs.declared.whole.WholeAsk.{WholeAsk}

-- no message came yet
abbrev pub opening : Handshake
opening = record { agreed = false; over = false }

-- an INIT came to an agreement
abbrev pub is_agreed : InitStep → Bool
is_agreed (Refused e) = false
is_agreed Again = false
is_agreed (Agreed max_readahead flags) = true

-- a message of this kind agrees on the session: it is an INIT that came to an agreement
abbrev pub agrees : List ℕ → Option OpKind → Bool
agrees message (Some kinds.Init) = is_agreed (init_step message)
agrees message (Some kind) = false
agrees message None = false

-- what a message says to a session, which is whole or isn't: one that isn't doesn't know MKNOD, MKDIR and RMDIR
abbrev pub said_to : Bool → List ℕ → Result Order Refusal
said_to whole message = if not whole && is_for_whole message then Err (Answer ENOSYS) else said message

-- a message that says this is a DESTROY
abbrev pub says_destroy : Result Order Refusal → Bool
says_destroy (Ok order) = false
says_destroy (Err Destroy) = true
says_destroy (Err refusal) = false

-- One message more. An INIT may agree on the session, after that a DESTROY ends it, and then no message changes
-- anything.
abbrev pub advanced : Handshake → List ℕ → Handshake
advanced handshake message =
    if handshake.over then handshake
    else if handshake.agreed then record handshake { over = says_destroy (said message) }
    else record handshake { agreed = agrees message (kind_of_opcode (opcode_of message)) }

-- how far these messages bring a session
abbrev pub handshake_of : List (List ℕ) → Handshake
handshake_of messages = fold advanced opening messages

-- What the session itself answers to a message of this kind before an INIT is agreed. Any other message is EPROTO, or
-- dropped if no reply is owed to it.
abbrev pub own_answer : List ℕ → Option OpKind → Response
own_answer message (Some kinds.Init) = Init (unique_of message) (init_step message)
own_answer message (Some kind) = refusal_of kind (unique_of message) EPROTO
own_answer message None = error_to (unique_of message) EPROTO

-- the answer to a message that is refused with this error, unless a whole session answers it otherwise
abbrev pub refused : List ℕ → Errno → Option WholeAsk → Response
refused message e None = error_to (unique_of message) e
refused message e (Some ask) = Whole (unique_of message) ask

-- What a message that says this is after an INIT is agreed: an order, a batch of them, or the session itself answers
-- it.
abbrev pub incoming_by : List ℕ → Result Order Refusal → Incoming
incoming_by message (Ok order) = incoming.Order order
incoming_by message (Err (Answer e)) = incoming.Response (refused message e (whole_ask message))
incoming_by message (Err Silent) = incoming.Response Nothing
incoming_by message (Err Batch) = incoming.Batch (forgets_in message)
incoming_by message (Err Destroy) = incoming.Response (goodbye_to message)

-- what a message is to a session, whole or not, that is this far, and isn't over
abbrev pub incoming_of : Bool → Handshake → List ℕ → Incoming
incoming_of whole handshake message =
    if handshake.agreed then incoming_by message (said_to whole message)
    else incoming.Response (own_answer message (kind_of_opcode (opcode_of message)))
