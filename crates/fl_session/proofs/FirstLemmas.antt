-- Sessions that know messages that are sent again, beside those that don't, and sessions that answered something
-- before.
use Rattle.std.proofs.Common.{◌≡◌, ℕ, Bool, true, false, List, [], ◌∷◌, ◌++◌, drop, map, Option, None, Some}
use Rattle.std.proofs.Common.{refl, sym, ap, ◌∙◌, append_assoc, arith}
use Rattle.std.specs.Prelude.{◌^◌, nat_le, if◌then◌else◌}
use Rattle.std.proofs.lemmas.Grind.{fold-append}
use Rattle.fl_core.specs.Step.{replies_in}
use Rattle.fl_desk.specs.Replay.{state_after}
use Rattle.fl_dir.specs.Directory.{Listing}
use Rattle.fl_history.specs.declared.history.Line.{Line}
use Rattle.fl_history.specs.declared.recent.Recalled.{Recalled}
use Rattle.fl_history.specs.declared.recent.Recalled.TheVariants as recall
use Rattle.fl_order.specs.OpKind.{kind_of_opcode}
use Rattle.fl_order.specs.Order.{kind_of}
use Rattle.fl_order.specs.declared.kind.OpKind.{OpKind}
use Rattle.fl_order.specs.declared.kind.OpKind.TheVariants as kinds
use Rattle.fl_order.specs.declared.order.Order.{Order}
use Rattle.fl_session.proofs.LaterLemmas.{plain_is}
use Rattle.fl_session.proofs.OnceLemmas.{agrees_on}
use Rattle.fl_session.proofs.RulesLemmas.{by_message}
use Rattle.fl_session.specs.Again.{incoming_under, unmarked}
use Rattle.fl_session.specs.AsOne.{AllPlain}
use Rattle.fl_session.specs.Once.{resumed, under_way}
use Rattle.fl_session.specs.Session.{Came, Session, session_behind, session_from, session_of, with_again, with_either, with_incoming}
use Rattle.fl_session.specs.Session.{opening_session, recalled_in, with_message, with_order, with_orders, with_recalled, with_response}
use Rattle.fl_session.specs.Whole.{bytes_in, bytes_when}
use Rattle.fl_transport.specs.Handshake.{advanced, agrees, incoming_of, is_agreed, opening, own_answer}
use Rattle.fl_transport.specs.Response.{bytes_of, lost}
use Rattle.fl_transport.specs.declared.handshake.Incoming.{Incoming}
use Rattle.fl_transport.specs.declared.handshake.Incoming.TheVariants as incoming
use Rattle.fl_transport.specs.declared.response.Response.{Response}
use Rattle.fl_transport.specs.declared.response.Response.TheVariants.{One}
use Rattle.fl_waiting.specs.Waiting.{is_parked}
use Rattle.fl_waiting.specs.declared.rules.Rules.{Rules}
use Rattle.fl_wire.specs.Init.{init_spelling, init_step}
use Rattle.fl_wire.specs.Layout.{opcode_of, unique_of}
use Rattle.fl_wire.specs.Spell.{spelling_of}

-- ---- messages without a mark

-- the same session, which knows messages that are sent again, or doesn't
abbrev knowing : Bool → Session → Session
knowing knows s = record s { resends = knows }

order_known : (knows : Bool) (s : Session) (refused : Bool) (order : Order)
    → with_order (knowing knows s) refused order ≡ knowing knows (with_order s refused order)
order_known knows s true order = refl
order_known knows s false order = refl

orders_known : (knows : Bool) (s : Session) (orders : List Order) (refused : List Bool)
    → with_orders (knowing knows s) orders refused ≡ knowing knows (with_orders s orders refused)
orders_known knows s [] refused = refl
orders_known knows s (o ∷ orders) [] =
    ap (λ t. with_orders t orders []) (order_known knows s false o) ∙ orders_known knows (with_order s false o) orders []
orders_known knows s (o ∷ orders) (first ∷ refused) =
    ap (λ t. with_orders t orders refused) (order_known knows s first o)
    ∙ orders_known knows (with_order s first o) orders refused

incoming_known : (knows : Bool) (s : Session) (refused : List Bool) (it : Incoming)
    → with_incoming (knowing knows s) refused it ≡ knowing knows (with_incoming s refused it)
incoming_known knows s refused (incoming.Order order) = orders_known knows s (order ∷ []) refused
incoming_known knows s refused (incoming.Batch orders) = orders_known knows s orders refused
incoming_known knows s refused (incoming.Response response) = refl

known_if : (over knows : Bool) (s now after : Session) → now ≡ knowing knows after
    → (if over then knowing knows s else now) ≡ knowing knows (if over then s else after)
known_if true knows s now after e = refl
known_if false knows s now after e = e

message_known : (knows : Bool) (s : Session) (c : Came) → nat_le (2 ^ 63) (unique_of c.message) ≡ false
    → with_message (knowing knows s) c ≡ knowing knows (with_message s c)
message_known knows s c plain =
    plain_is (knowing knows s) c plain
    ∙ known_if s.handshake.over knows s _
    (with_incoming (record s { handshake = advanced s.handshake c.message }) c.refused (incoming_of s.rules.whole s.handshake c.message))
    (incoming_known knows (record s { handshake = advanced s.handshake c.message }) c.refused (incoming_of s.rules.whole s.handshake c.message))
    ∙ ap (knowing knows) (sym (plain_is s c plain))

session_known : (knows : Bool) (s : Session) (came : List Came) → AllPlain came
    → session_from (knowing knows s) came ≡ knowing knows (session_from s came)
session_known knows s [] plain = refl
session_known knows s (c ∷ came) plain =
    ap (λ t. session_from t came) (message_known knows s c plain.0) ∙ session_known knows (with_message s c) came plain.1

pub plain_session : (rules : Rules) (came : List Came) → AllPlain came
    → session_from (session_behind rules [] [] true) came ≡ record (session_of rules came) { resends = true }
plain_session rules came plain = session_known true (opening_session rules) came plain

-- ---- what was answered before changes nothing

-- the same session, which had sent these replies before
abbrev behind : List (List ℕ) → Session → Session
behind before s = record s { replies = before ++ s.replies }

order_behind : (a : List (List ℕ)) (s : Session) (refused : Bool) (order : Order)
    → with_order (behind a s) refused order ≡ behind a (with_order s refused order)
order_behind a s true order = λ i. record (with_order s true order) {
  replies = append_assoc a s.replies (bytes_of (lost (kind_of order.op) order.unique)) i;
}
order_behind a s false order = λ i. record (with_order s false order) {
  replies = append_assoc a s.replies (map spelling_of (replies_in (state_after s.rules s.lines) order)) i;
}

orders_behind : (a : List (List ℕ)) (s : Session) (orders : List Order) (refused : List Bool)
    → with_orders (behind a s) orders refused ≡ behind a (with_orders s orders refused)
orders_behind a s [] refused = refl
orders_behind a s (o ∷ orders) [] =
    ap (λ t. with_orders t orders []) (order_behind a s false o) ∙ orders_behind a (with_order s false o) orders []
orders_behind a s (o ∷ orders) (first ∷ refused) =
    ap (λ t. with_orders t orders refused) (order_behind a s first o) ∙ orders_behind a (with_order s first o) orders refused

response_behind : (a : List (List ℕ)) (s : Session) (response : Response)
    → with_response (behind a s) response ≡ behind a (with_response s response)
response_behind a s response = λ i. record s { replies = append_assoc a s.replies (bytes_in s.rules s.lines response) i }

incoming_behind : (a : List (List ℕ)) (s : Session) (refused : List Bool) (it : Incoming)
    → with_incoming (behind a s) refused it ≡ behind a (with_incoming s refused it)
incoming_behind a s refused (incoming.Order order) = orders_behind a s (order ∷ []) refused
incoming_behind a s refused (incoming.Batch orders) = orders_behind a s orders refused
incoming_behind a s refused (incoming.Response response) = response_behind a s response

recalled_behind : (waits : Bool) (a : List (List ℕ)) (s : Session) (found : Recalled) (orders : List Order)
    (refused : List Bool)
    → (if waits then behind a s else with_recalled (behind a s) found orders refused)
    ≡ behind a (if waits then s else with_recalled s found orders refused)
recalled_behind true a s found orders refused = refl
recalled_behind false a s (recall.Told told) orders refused = response_behind a s (One told)
recalled_behind false a s (recall.Asked count) orders refused = orders_behind a s (drop count orders) refused

again_behind : (a : List (List ℕ)) (s : Session) (unique : ℕ) (refused : List Bool) (it : Incoming)
    → with_again (behind a s) unique refused it ≡ behind a (with_again s unique refused it)
again_behind a s unique refused (incoming.Order order) =
    recalled_behind (is_parked unique (state_after s.rules s.lines).view.parked) a s (recalled_in s unique) (order ∷ [])
    refused
again_behind a s unique refused (incoming.Batch orders) =
    recalled_behind (is_parked unique (state_after s.rules s.lines).view.parked) a s (recalled_in s unique) orders refused
again_behind a s unique refused (incoming.Response response) = response_behind a s response

either_behind : (a : List (List ℕ)) (s : Session) (mark : Option ℕ) (refused : List Bool) (it : Incoming)
    → with_either (behind a s) mark refused it ≡ behind a (with_either s mark refused it)
either_behind a s None refused it = incoming_behind a s refused it
either_behind a s (Some unique) refused it = again_behind a s unique refused (incoming_under unique it)

behind_if : (over : Bool) (a : List (List ℕ)) (s now after : Session) → now ≡ behind a after
    → (if over then behind a s else now) ≡ behind a (if over then s else after)
behind_if true a s now after e = refl
behind_if false a s now after e = e

message_behind : (a : List (List ℕ)) (s : Session) (c : Came) → with_message (behind a s) c ≡ behind a (with_message s c)
message_behind a s c =
    let now : Session = record s { handshake = advanced s.handshake c.message } in
    let mark : Option ℕ = unmarked s.resends (unique_of c.message) in
    let it : Incoming = incoming_of s.rules.whole s.handshake c.message in
    behind_if s.handshake.over a s (with_either (behind a now) mark c.refused it) (with_either now mark c.refused it)
    (either_behind a now mark c.refused it)

session_behind_replies : (a : List (List ℕ)) (s : Session) (came : List Came)
    → session_from (behind a s) came ≡ behind a (session_from s came)
session_behind_replies a s [] = refl
session_behind_replies a s (c ∷ came) =
    ap (λ t. session_from t came) (message_behind a s c) ∙ session_behind_replies a (with_message s c) came

-- ---- the INIT of a session that goes on

-- a session that heard these lines, goes on behind these others and sent this, and in which no INIT is agreed
abbrev waiting : Rules → List Line → List Line → Bool → List (List ℕ) → Session
waiting rules heard base knows sent = record (session_behind rules heard base knows) { replies = sent }

-- what the session itself answers to a message before an INIT is agreed
abbrev answer_to : Came → List (List ℕ)
answer_to c = bytes_of (own_answer c.message (kind_of_opcode (opcode_of c.message)))

-- and that isn't told from what is there
own_bytes : (rules : Rules) (d : Listing) (message : List ℕ) (kind : Option OpKind)
    → bytes_when rules d (own_answer message kind) ≡ bytes_of (own_answer message kind)
own_bytes rules d message None = refl
own_bytes rules d message (Some kind) = grind arith

one_early : (rules : Rules) (heard base : List Line) (knows : Bool) (sent : List (List ℕ)) (c : Came)
    → nat_le (2 ^ 63) (unique_of c.message) ≡ false → agrees c.message (kind_of_opcode (opcode_of c.message)) ≡ false
    → with_message (waiting rules heard base knows sent) c ≡ waiting rules heard base knows (sent ++ answer_to c)
one_early rules heard base knows sent c plain early =
    plain_is (waiting rules heard base knows sent) c plain
    ∙ ap (λ bytes. record (waiting rules heard base knows (sent ++ bytes)) {
      handshake = record { agreed = agrees c.message (kind_of_opcode (opcode_of c.message)); over = false };
    }) (own_bytes rules (state_after rules base).view.directory c.message (kind_of_opcode (opcode_of c.message)))
    ∙ ap (λ b. record (waiting rules heard base knows (sent ++ answer_to c)) { handshake = record { agreed = b; over = false } }) early

agreed_on : (s : Session) (came : List Came) → s.handshake.agreed ≡ true → (session_from s came).handshake.agreed ≡ true
agreed_on s [] e = e
agreed_on s (c ∷ came) e = agreed_on (with_message s c) came (agrees_on s c e)

-- until an INIT is agreed, it makes no difference behind which lines a session goes on
all_early : (rules : Rules) (heard base : List Line) (knows : Bool) (sent : List (List ℕ)) (early : List Came) → AllPlain early
    → (session_from (waiting rules [] [] false sent) early).handshake ≡ opening
    → session_from (waiting rules heard base knows sent) early
    ≡ waiting rules heard base knows (session_from (waiting rules [] [] false sent) early).replies
all_early rules heard base knows sent [] plain end = refl
all_early rules heard base knows sent (c ∷ early) plain end =
    by (agrees c.message (kind_of_opcode (opcode_of c.message))) refl
    (λ begins. all_early rules heard base knows (sent ++ answer_to c) early plain.1 begins)
  where
    start : Session
    start = waiting rules [] [] false sent

    more : Bool → List Line → List Line → Session
    more knows heard base = waiting rules heard base knows (sent ++ answer_to c)

    by : (b : Bool) → agrees c.message (kind_of_opcode (opcode_of c.message)) ≡ b
        → ((session_from (more false [] []) early).handshake ≡ opening
        → session_from (more knows heard base) early
        ≡ waiting rules heard base knows (session_from (more false [] []) early).replies)
        → session_from (waiting rules heard base knows sent) (c ∷ early)
        ≡ waiting rules heard base knows (session_from start (c ∷ early)).replies
    by true e rest =
        let first : (with_message start c).handshake.agreed ≡ true = ap (λ h. h.agreed) (by_message start c).handshake ∙ e in
        let both : true ≡ false = sym (agreed_on (with_message start c) early first) ∙ ap (λ h. h.agreed) end in
        absurd (cc both)
    by false e rest =
        let one = one_early rules [] [] false sent c plain.0 e in
        ap (λ t. session_from t early) (one_early rules heard base knows sent c plain.0 e)
        ∙ rest (ap (λ (t : Session). (session_from t early).handshake) (sym one) ∙ end)
        ∙ ap (λ (t : Session). waiting rules heard base knows (session_from t early).replies) (sym one)

pub init_first : (first : Session) (early : List Came) (init : Came) (came : List Came) → first.handshake ≡ under_way
    → (session_of first.rules early).handshake ≡ opening → kind_of_opcode (opcode_of init.message) ≡ Some kinds.Init
    → is_agreed (init_step init.message) ≡ true → AllPlain early → AllPlain (init ∷ [])
    → session_from (session_behind first.rules first.heard first.lines true) (early ++ init ∷ came)
    ≡ record (session_from (resumed first) came) {
      replies = (session_of first.rules early).replies
          ++ init_spelling (unique_of init.message) (init_step init.message) ∷ (session_from (resumed first) came).replies;
    }
init_first first early init came far begins kind agreed before plain =
    fold-append with_message (waiting first.rules first.heard first.lines true []) early (init ∷ came)
    ∙ ap (λ t. session_from (with_message t init) came) (all_early first.rules first.heard first.lines true [] early before begins)
    ∙ ap (λ t. session_from t came) here
    ∙ session_behind_replies sent (behind (reply ∷ []) (resumed first)) came
    ∙ ap (behind sent) (session_behind_replies (reply ∷ []) (resumed first) came)
  where
    sent : List (List ℕ)
    sent = (session_of first.rules early).replies

    start : Session
    start = waiting first.rules first.heard first.lines true sent

    reply : List ℕ
    reply = init_spelling (unique_of init.message) (init_step init.message)

    here : with_message start init ≡ behind sent (behind (reply ∷ []) (resumed first))
    here =
        plain_is start init plain.0
        ∙ ap (λ k. with_response (record start { handshake = record { agreed = agrees init.message k; over = false } })
        (own_answer init.message k)) kind
        ∙ ap (λ b. record start { handshake = record { agreed = b; over = false }; replies = sent ++ reply ∷ [] }) agreed
        ∙ ap (λ h. record start { handshake = h; replies = sent ++ reply ∷ [] }) (sym far)
