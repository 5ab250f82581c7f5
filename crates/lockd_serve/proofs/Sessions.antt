-- The lines of a session can be read back from their text.
use Rattle.std.specs.Prelude.{◌&&◌, not, Err}
use Rattle.std.proofs.Common.{◌≡◌, Bool, true, false, if◌then◌else◌, List, [], ◌∷◌, All, map, refl, arith}
use Rattle.std.proofs.lemmas.List.Elements.{All-append, All-cons, All-head, All-nil, All-tail}
use Rattle.fl_core.specs.Step.{replies_in}
use Rattle.fl_counter.specs.Answered.{step_lines}
use Rattle.fl_desk.specs.Legal.{IsLegal, nothing, step}
use Rattle.fl_desk.specs.Replay.{state_after}
use Rattle.fl_history.specs.declared.history.Line.TheVariants as line
use Rattle.fl_order.specs.Sayable.{IsSayable}
use Rattle.fl_order.specs.declared.errno.Errno.TheVariants.{ENOSYS}
use Rattle.fl_order.specs.declared.order.Order.{Order}
use Rattle.fl_order.specs.declared.refusal.Refusal.TheVariants.{Answer}
use Rattle.fl_order.specs.declared.told.Told.{Told}
use Rattle.fl_session.specs.Again.{unmarked}
use Rattle.fl_session.specs.Once.{orders_in}
use Rattle.fl_session.specs.Session.{Came, Session, opening_session, session_from, session_of, with_either, with_incoming, with_message}
use Rattle.fl_session.specs.Session.{with_order, with_orders}
use Rattle.fl_transport.specs.Handshake.{advanced, incoming_by, incoming_of, own_answer, said_to}
use Rattle.fl_transport.specs.declared.handshake.Incoming.{Incoming}
use Rattle.fl_transport.specs.declared.handshake.Incoming.TheVariants as incoming
use Rattle.fl_order.specs.OpKind.{kind_of_opcode}
use Rattle.fl_trace.specs.Text.{Fits}
use Rattle.fl_waiting.specs.declared.rules.Rules.{Rules}
use Rattle.fl_wire.specs.Layout.{opcode_of, unique_of}
use Rattle.fl_wire.specs.Says.{said}
use Rattle.fl_wire.specs.Whole.{is_for_whole}
use Rattle.lockd_serve.specs.Said.{CanBeSaid}
use Rattle.lockd_serve.proofs.Histories.{AskedFits, TellsEach, legal_fits}
use Rattle.lockd_serve.proofs.Steps.{IsNamed, LastCounts}

record SessionFits (s : Session) : Type 0 where
  pub legal : IsLegal s.rules s.lines
  pub asked : All AskedFits s.lines
  pub plain : s.resends ≡ false

told_fit : (tolds : List Told) → All AskedFits (map (λ told. line.Told told) tolds)
told_fit [] = All-nil AskedFits
told_fit (told ∷ tolds) = All-cons AskedFits (line.Told told) _ tt (told_fit tolds)

order_fits : (s : Session) (refused : Bool) (order : Order) → IsSayable order → SessionFits s
    → SessionFits (with_order s refused order)
order_fits s true order said fits = record { legal = fits.legal; asked = fits.asked; plain = fits.plain }
order_fits s false order said fits = record {
  legal = step s.lines 0 order fits.legal refl;
  asked = All-append AskedFits s.lines (step_lines 0 order (replies_in (state_after s.rules s.lines) order)) fits.asked
      (All-cons AskedFits (line.Asked 0 order) _ (omega arith, said)
      (told_fit (replies_in (state_after s.rules s.lines) order)));
  plain = fits.plain;
}

orders_fit : (s : Session) (orders : List Order) (refused : List Bool) → All IsSayable orders → SessionFits s
    → SessionFits (with_orders s orders refused)
orders_fit s [] refused said fits = fits
orders_fit s (order ∷ orders) [] said fits =
    orders_fit (with_order s false order) orders [] (All-tail IsSayable order orders said)
    (order_fits s false order (All-head IsSayable order orders said) fits)
orders_fit s (order ∷ orders) (first ∷ refused) said fits =
    orders_fit (with_order s first order) orders refused (All-tail IsSayable order orders said)
    (order_fits s first order (All-head IsSayable order orders said) fits)

incoming_fits : (s : Session) (refused : List Bool) (it : Incoming) → All IsSayable (orders_in it) → SessionFits s
    → SessionFits (with_incoming s refused it)
incoming_fits s refused (incoming.Order order) said fits = orders_fit s (order ∷ []) refused said fits
incoming_fits s refused (incoming.Batch orders) said fits = orders_fit s orders refused said fits
incoming_fits s refused (incoming.Response response) said fits =
    record { legal = fits.legal; asked = fits.asked; plain = fits.plain }

message_fits : (s : Session) (c : Came) → CanBeSaid c → SessionFits s → SessionFits (with_message s c)
message_fits s c can fits = go s.handshake.over
  where
    taken : (unknown : Bool)
        → All IsSayable (orders_in (incoming_by c.message (if unknown then Err (Answer ENOSYS) else said c.message)))
    taken true = All-nil IsSayable
    taken false = can

    orders : (b : Bool) → All IsSayable (orders_in (if b then incoming_by c.message (said_to s.rules.whole c.message)
        else incoming.Response (own_answer c.message (kind_of_opcode (opcode_of c.message)))))
    orders true = taken (not s.rules.whole && is_for_whole c.message)
    orders false = All-nil IsSayable

    either : (b : Bool) → b ≡ false
        → SessionFits (with_either (record s { handshake = advanced s.handshake c.message })
        (unmarked b (unique_of c.message)) c.refused (incoming_of s.rules.whole s.handshake c.message))
    either true e = absurd (cc e)
    either false e =
        incoming_fits (record s { handshake = advanced s.handshake c.message }) c.refused
        (incoming_of s.rules.whole s.handshake c.message) (orders s.handshake.agreed)
        (record { legal = fits.legal; asked = fits.asked; plain = fits.plain })

    go : (b : Bool)
        → SessionFits (if b then s else with_either (record s { handshake = advanced s.handshake c.message })
        (unmarked s.resends (unique_of c.message)) c.refused (incoming_of s.rules.whole s.handshake c.message))
    go true = fits
    go false = either s.resends fits.plain

from_fits : (s : Session) (came : List Came) → All CanBeSaid came → SessionFits s → SessionFits (session_from s came)
from_fits s [] can fits = fits
from_fits s (c ∷ came) can fits =
    from_fits (with_message s c) came (All-tail CanBeSaid c came can)
    (message_fits s c (All-head CanBeSaid c came can) fits)

pub session_fits : LastCounts → IsNamed → TellsEach → (rules : Rules) (came : List Came) → All CanBeSaid came
    → Fits (session_of rules came).lines
session_fits last named each rules came can =
    let s = from_fits (opening_session rules) came can
    (record { legal = nothing; asked = All-nil AskedFits; plain = refl }) in
    legal_fits last named each (session_of rules came).rules (session_of rules came).lines s.legal s.asked
