-- What stays of a session from message to message: its rules, what it heard before its lines, whether it knows messages
-- that are sent again, and how far the messages alone bring it.
use Rattle.std.proofs.Common.{◌≡◌, ℕ, Bool, true, false, List, [], ◌∷◌, drop, Option, None, Some, refl, ap, ◌∙◌}
use Rattle.std.specs.Prelude.{fold, if◌then◌else◌}
use Rattle.fl_desk.specs.Replay.{state_after}
use Rattle.fl_history.specs.declared.recent.Recalled.{Recalled}
use Rattle.fl_history.specs.declared.recent.Recalled.TheVariants as recall
use Rattle.fl_order.specs.declared.order.Order.{Order}
use Rattle.fl_session.specs.Again.{incoming_under, unmarked}
use Rattle.fl_session.specs.Session.{Came, Session, messages_of, recalled_in, session_from}
use Rattle.fl_session.specs.Session.{with_again, with_either, with_incoming, with_message, with_order, with_orders}
use Rattle.fl_session.specs.Session.{with_orders_again, with_recalled}
use Rattle.fl_transport.specs.Handshake.{advanced, handshake_of, incoming_of, opening}
use Rattle.fl_transport.specs.declared.handshake.Incoming.{Incoming}
use Rattle.fl_transport.specs.declared.handshake.Incoming.TheVariants as incoming
use Rattle.fl_waiting.specs.Waiting.{is_parked}
use Rattle.fl_wire.specs.Layout.{unique_of}

-- these are the same in both
pub record IsAlike (s t : Session) : Type 0 where
  pub rules : s.rules ≡ t.rules
  pub heard : s.heard ≡ t.heard
  pub resends : s.resends ≡ t.resends
  pub handshake : s.handshake ≡ t.handshake

alike_on : (s t u : Session) → IsAlike s t → IsAlike t u → IsAlike s u
alike_on s t u first second =
    record {
      rules = first.rules ∙ second.rules;
      heard = first.heard ∙ second.heard;
      resends = first.resends ∙ second.resends;
      handshake = first.handshake ∙ second.handshake;
    }

pub by_order : (s : Session) (refused : Bool) (order : Order) → IsAlike (with_order s refused order) s
by_order s true order = record { rules = refl; heard = refl; resends = refl; handshake = refl }
by_order s false order = record { rules = refl; heard = refl; resends = refl; handshake = refl }

pub by_orders : (s : Session) (orders : List Order) (refused : List Bool) → IsAlike (with_orders s orders refused) s
by_orders s [] refused = record { rules = refl; heard = refl; resends = refl; handshake = refl }
by_orders s (order ∷ orders) [] =
    alike_on _ _ s (by_orders (with_order s false order) orders []) (by_order s false order)
by_orders s (order ∷ orders) (first ∷ refused) =
    alike_on _ _ s (by_orders (with_order s first order) orders refused) (by_order s first order)

by_incoming : (s : Session) (refused : List Bool) (it : Incoming) → IsAlike (with_incoming s refused it) s
by_incoming s refused (incoming.Order order) = by_orders s (order ∷ []) refused
by_incoming s refused (incoming.Batch orders) = by_orders s orders refused
by_incoming s refused (incoming.Response response) = record { rules = refl; heard = refl; resends = refl; handshake = refl }

by_recalled : (s : Session) (r : Recalled) (orders : List Order) (refused : List Bool)
    → IsAlike (with_recalled s r orders refused) s
by_recalled s (recall.Told told) orders refused = record { rules = refl; heard = refl; resends = refl; handshake = refl }
by_recalled s (recall.Asked count) orders refused = by_orders s (drop count orders) refused

by_orders_again : (s : Session) (unique : ℕ) (orders : List Order) (refused : List Bool)
    → IsAlike (with_orders_again s unique orders refused) s
by_orders_again s unique orders refused = go (is_parked unique (state_after s.rules s.lines).view.parked)
  where
    r : Recalled
    r = recalled_in s unique

    go : (waits : Bool) → IsAlike (if waits then s else with_recalled s r orders refused) s
    go true = record { rules = refl; heard = refl; resends = refl; handshake = refl }
    go false = by_recalled s r orders refused

by_again : (s : Session) (unique : ℕ) (refused : List Bool) (it : Incoming) → IsAlike (with_again s unique refused it) s
by_again s unique refused (incoming.Order order) = by_orders_again s unique (order ∷ []) refused
by_again s unique refused (incoming.Batch orders) = by_orders_again s unique orders refused
by_again s unique refused (incoming.Response response) = record { rules = refl; heard = refl; resends = refl; handshake = refl }

by_either : (s : Session) (marked : Option ℕ) (refused : List Bool) (it : Incoming)
    → IsAlike (with_either s marked refused it) s
by_either s None refused it = by_incoming s refused it
by_either s (Some unique) refused it = by_again s unique refused (incoming_under unique it)

-- what one message more leaves, of a session that is over or not
pub record IsMoved (s now : Session) (message : List ℕ) : Type 0 where
  pub rules : now.rules ≡ s.rules
  pub heard : now.heard ≡ s.heard
  pub resends : now.resends ≡ s.resends
  pub handshake : now.handshake ≡ advanced s.handshake message

pub by_message : (s : Session) (c : Came) → IsMoved s (with_message s c) c.message
by_message s c = go s.handshake.over refl
  where
    there : Session
    there = with_either (record s { handshake = advanced s.handshake c.message })
        (unmarked s.resends (unique_of c.message)) c.refused (incoming_of s.rules.whole s.handshake c.message)

    on : IsAlike there (record s { handshake = advanced s.handshake c.message })
    on = by_either (record s { handshake = advanced s.handshake c.message })
        (unmarked s.resends (unique_of c.message)) c.refused (incoming_of s.rules.whole s.handshake c.message)

    go : (over : Bool) → s.handshake.over ≡ over → IsMoved s (with_message s c) c.message
    go true is = record { rules = rw is refl; heard = rw is refl; resends = rw is refl; handshake = rw is refl }
    go false is = record {
      rules = ap (λ over. (if over then s else there).rules) is ∙ on.rules;
      heard = ap (λ over. (if over then s else there).heard) is ∙ on.heard;
      resends = ap (λ over. (if over then s else there).resends) is ∙ on.resends;
      handshake = ap (λ over. (if over then s else there).handshake) is ∙ on.handshake;
    }

by_messages : (s : Session) (came : List Came) → (fold with_message s came).rules ≡ s.rules
by_messages s [] = refl
by_messages s (c ∷ came) = by_messages (with_message s c) came ∙ (by_message s c).rules

-- the rules of a session are those that it began with
pub rules_from : (first : Session) (came : List Came) → (session_from first came).rules ≡ first.rules
rules_from first came = by_messages first came

-- what a session heard before its lines stays
pub heard_from : (first : Session) (came : List Came) → (session_from first came).heard ≡ first.heard
heard_from first [] = refl
heard_from first (c ∷ came) = heard_from (with_message first c) came ∙ (by_message first c).heard

brought_by : (s : Session) (came : List Came)
    → (fold with_message s came).handshake ≡ fold advanced s.handshake (messages_of came)
brought_by s [] = refl
brought_by s (c ∷ came) = brought_by (with_message s c) came
    ∙ ap (λ handshake. fold advanced handshake (messages_of came)) (by_message s c).handshake

-- a session is as far as its messages alone bring it
pub as_far : (first : Session) (came : List Came) → first.handshake ≡ opening
    → (session_from first came).handshake ≡ handshake_of (messages_of came)
as_far first came began = brought_by first came ∙ ap (λ h. fold advanced h (messages_of came)) began
