-- The receiver of a session with workers, while it is under way.
use Rattle.std.specs.Prelude.{◌≡◌, ℕ, Bool, true, false, List, [], ◌++◌, map, Option, None, if◌then◌else◌}
use Rattle.fl_log.specs.Appended.{Appended}
use Rattle.fl_order.specs.declared.order.Order.{Order}
use Rattle.fl_transport.specs.Ending.{IsRead}
use Rattle.fl_transport.specs.Handshake.{handshake_of}
use Rattle.fl_transport.specs.Said.{said_in}
use Rattle.fl_transport.specs.declared.handshake.Handshake.{Handshake}
use Rattle.fl_transport.specs.declared.response.Response.{Response}
use Rattle.fl_transport.specs.declared.response.Response.TheVariants.{Nothing}
use Rattle.fl_workers.specs.Received.{IsLast, Reception, answer_by, left_to_answer, own_answers}
use Rattle.fl_workers.specs.Sent.{HasSent}
use Rattle.fl_workers.specs.declared.entry.ReplyEntry.{ReplyEntry}

-- Of these answers, which were owed in between, some were given to be sent in this order, and no others. If no answer
-- is lost now, none was before, and all were given.
pub record HasGiven (old new : Appended ReplyEntry) (lost lost_now : Bool) (answers : List Response) : Type 0 where
  pub whole : lost_now ≡ false → lost ≡ false
  pub sent : HasSent (map (answer_by old.author) answers) old new lost_now

-- of the session's own answers to a message, those that are given at once: that to a DESTROY isn't
abbrev pub given_now : Bool → List Response → List Response
given_now over answers = if over then [] else answers

-- The session's own answers to these messages were given to be sent, or some of them if one was lost, but for what is
-- left to answer a DESTROY.
pub record AreAnswered (it : Reception) (over : Bool) (messages : List (List ℕ)) : Type 0 where
  pub answered : List Response
  pub own : own_answers messages ≡ answered ++ left_to_answer over it.goodbye
  pub sent : HasGiven it.sent it.sent_now false it.lost answered

-- how a receiver went so far that hasn't ended, and so has no fault
abbrev pub so_far : (left left_now : Option (List ℕ)) (orders : List Order) (goodbye : Response)
    (sent sent_now : Appended ReplyEntry) (lost : Bool) → Reception
so_far left left_now orders goodbye sent sent_now lost =
    record {
      left = left;
      left_now = left_now;
      fault = None;
      orders = orders;
      goodbye = goodbye;
      sent = sent;
      sent_now = sent_now;
      lost = lost;
    }

-- What was read is whole messages and a rest, these messages bring the session this far, and their orders were
-- dispatched. If it is over, this is left to answer the last, and else nothing. The other messages that are no orders
-- were answered, if no answer was lost.
pub record IsReceiving (it : Reception) (handshake : Handshake) (rest : List ℕ) : Type 0 where
  pub messages : List (List ℕ)
  pub is_read : IsRead it.left it.left_now messages rest
  pub far : handshake ≡ handshake_of messages
  pub said : it.orders ≡ said_in messages
  pub over : handshake.over ≡ true → IsLast messages it.goodbye
  pub live : handshake.over ≡ false → it.goodbye ≡ Nothing
  pub own : AreAnswered it handshake.over messages
