-- A session that was cut off and goes on, beside one that wasn't.
use Rattle.std.proofs.Common.{◌≡◌, ℕ, Bool, true, false, ◌||◌, List, [], ◌∷◌, ◌++◌, length, drop, map, Option, None, Some}
use Rattle.std.proofs.Common.{refl, sym, ap, subst, ◌∙◌, append_assoc, append-nil}
use Rattle.std.specs.Prelude.{if◌then◌else◌}
use Rattle.std.proofs.Math.ListN.{drop_of_length-le}
use Rattle.std.proofs.lemmas.Grind.{fold-append}
use Rattle.std.proofs.lemmas.List.{length-map}
use borrow.Author.Tests.{leb-true}
use Rattle.fl_core.specs.Step.{replies_in}
use Rattle.fl_desk.specs.Replay.{state_after}
use Rattle.fl_history.specs.declared.recent.Recalled.{Recalled}
use Rattle.fl_history.specs.declared.recent.Recalled.TheVariants as recall
use Rattle.fl_order.specs.Order.{kind_of}
use Rattle.fl_order.specs.declared.order.Order.{Order}
use Rattle.fl_session.proofs.RulesLemmas.{by_message}
use Rattle.fl_session.specs.Again.{incoming_under, order_under, unmarked}
use Rattle.fl_session.specs.AsOne.{AreAsOne, IsSentAgain, replies_again, reply_again, reply_in, reply_unmarked}
use Rattle.fl_session.specs.Once.{AllComeAgain, AreNew, ComesAgain, IsUnknown, SaysTheSame, has_all, is_had, orders_in, resumed, under_way}
use Rattle.fl_session.specs.Session.{Came, Session, opening_session, recalled_in, session_from, session_of, with_again, with_either, with_incoming}
use Rattle.fl_session.specs.Session.{with_message, with_order, with_orders, with_orders_again, with_recalled, with_response}
use Rattle.fl_session.specs.Whole.{bytes_in}
use Rattle.fl_transport.specs.Handshake.{advanced, incoming_by, incoming_of, said_to, says_destroy}
use Rattle.fl_transport.specs.Response.{bytes_of, lost}
use Rattle.fl_transport.specs.declared.handshake.Handshake.{Handshake}
use Rattle.fl_transport.specs.declared.handshake.Incoming.{Incoming}
use Rattle.fl_transport.specs.declared.handshake.Incoming.TheVariants as incoming
use Rattle.fl_transport.specs.declared.response.Response.{Response}
use Rattle.fl_waiting.specs.Waiting.{is_parked}
use Rattle.fl_waiting.specs.declared.rules.Rules.{Rules}
use Rattle.fl_wire.specs.Layout.{unique_of}
use Rattle.fl_wire.specs.Says.{said}
use Rattle.fl_wire.specs.Spell.{spelling_of}

-- two sessions that are as far, heard the same before their lines, and have one history
pub record AreAlike (s t : Session) : Type 0 where
  pub rules : s.rules ≡ t.rules
  pub heard : s.heard ≡ t.heard
  pub handshake : s.handshake ≡ t.handshake
  pub lines : s.lines ≡ t.lines

alike_trans : (s t u : Session) → AreAlike s t → AreAlike t u → AreAlike s u
alike_trans s t u a b = record {
  rules = a.rules ∙ b.rules;
  heard = a.heard ∙ b.heard;
  handshake = a.handshake ∙ b.handshake;
  lines = a.lines ∙ b.lines;
}

alike_by : (s t u v : Session) → s ≡ u → t ≡ v → AreAlike u v → AreAlike s t
alike_by s t u v first second a = rw (first, second) a

-- two that are alike, and gave the same replies behind those that each had given
pub record GoAlike (a b : List (List ℕ)) (s t : Session) : Type 0 where
  pub alike : AreAlike s t
  pub rest : List (List ℕ)
  pub left : s.replies ≡ a ++ rest
  pub right : t.replies ≡ b ++ rest

pub goes_by : (a b : List (List ℕ)) (s t u v : Session) → s ≡ u → t ≡ v → GoAlike a b u v → GoAlike a b s t
goes_by a b s t u v first second g = rw (first, second) g

grown : (a b : List (List ℕ)) (s t now after : Session) (more same : List (List ℕ)) → GoAlike a b s t → AreAlike now after
    → now.replies ≡ s.replies ++ more → after.replies ≡ t.replies ++ same → more ≡ same → GoAlike a b now after
grown a b s t now after more same g alike first second e = record {
  alike = alike;
  rest = g.rest ++ more;
  left = first ∙ ap (λ l. l ++ more) g.left ∙ append_assoc a g.rest more;
  right = second ∙ ap (λ l. t.replies ++ l) (sym e) ∙ ap (λ l. l ++ more) g.right ∙ append_assoc b g.rest more;
}

-- ---- the same orders to both

order_alike : (s t : Session) (refused : Bool) (order : Order) → AreAlike s t
    → AreAlike (with_order s refused order) (with_order t refused order)
order_alike s t true order a = record { rules = a.rules; heard = a.heard; handshake = a.handshake; lines = a.lines }
order_alike s t false order a = record {
  rules = a.rules;
  heard = a.heard;
  handshake = a.handshake;
  lines = λ i. (with_order (record s { rules = a.rules i; lines = a.lines i }) false order).lines;
}

order_goes : (a b : List (List ℕ)) (s t : Session) (refused : Bool) (order : Order) → GoAlike a b s t
    → GoAlike a b (with_order s refused order) (with_order t refused order)
order_goes a b s t true order g =
    grown a b s t (with_order s true order) (with_order t true order) (bytes_of (lost (kind_of order.op) order.unique)) _ g
    (order_alike s t true order g.alike) refl refl refl
order_goes a b s t false order g =
    grown a b s t (with_order s false order) (with_order t false order)
    (map spelling_of (replies_in (state_after s.rules s.lines) order))
    (map spelling_of (replies_in (state_after t.rules t.lines) order)) g (order_alike s t false order g.alike) refl refl
    (λ i. map spelling_of (replies_in (state_after (g.alike.rules i) (g.alike.lines i)) order))

pub orders_go : (a b : List (List ℕ)) (s t : Session) (orders : List Order) (refused : List Bool) → GoAlike a b s t
    → GoAlike a b (with_orders s orders refused) (with_orders t orders refused)
orders_go a b s t [] refused g = g
orders_go a b s t (order ∷ orders) [] g =
    orders_go a b (with_order s false order) (with_order t false order) orders [] (order_goes a b s t false order g)
orders_go a b s t (order ∷ orders) (first ∷ refused) g =
    orders_go a b (with_order s first order) (with_order t first order) orders refused (order_goes a b s t first order g)

-- ---- orders that the session has

kept_by : (s : Session) (found : Recalled) (orders : List Order) (refused : List Bool) → has_all found (length orders) ≡ true
    → AreAlike (with_recalled s found orders refused) s
kept_by s (recall.Told told) orders refused e = record { rules = refl; heard = refl; handshake = refl; lines = refl }
kept_by s (recall.Asked count) orders refused e =
    let none : drop count orders ≡ [] = drop_of_length-le orders (leb-true (length orders) count e) in
    subst (λ os. AreAlike (with_orders s os refused) s) (sym none) (record { rules = refl; heard = refl; handshake = refl; lines = refl })

had_by : (waits : Bool) (s : Session) (found : Recalled) (orders : List Order) (refused : List Bool)
    → (waits || has_all found (length orders)) ≡ true → AreAlike (if waits then s else with_recalled s found orders refused) s
had_by true s found orders refused e = record { rules = refl; heard = refl; handshake = refl; lines = refl }
had_by false s found orders refused e = kept_by s found orders refused e

had : (s : Session) (unique : ℕ) (orders : List Order) (refused : List Bool) → is_had s unique (length orders) ≡ true
    → AreAlike (with_orders_again s unique orders refused) s
had s unique orders refused e =
    had_by (is_parked unique (state_after s.rules s.lines).view.parked) s (recalled_in s unique) orders refused e

again_had : (s : Session) (unique : ℕ) (refused : List Bool) (it : Incoming) → is_had s unique (length (orders_in it)) ≡ true
    → AreAlike (with_again s unique refused (incoming_under unique it)) s
again_had s unique refused (incoming.Order order) e = had s unique (order_under unique order ∷ []) refused e
again_had s unique refused (incoming.Batch orders) e =
    had s unique (map (order_under unique) orders) refused (ap (is_had s unique) (length-map orders (order_under unique)) ∙ e)
again_had s unique refused (incoming.Response response) e = record { rules = refl; heard = refl; handshake = refl; lines = refl }

-- ---- what is sent of them

sent_by : (waits : Bool) (s : Session) (found : Recalled) (orders : List Order) (refused : List Bool)
    → (waits || has_all found (length orders)) ≡ true
    → (if waits then s else with_recalled s found orders refused).replies
    ≡ s.replies ++ (if waits then [] else reply_in found)
sent_by true s found orders refused e = sym (append-nil s.replies)
sent_by false s (recall.Told told) orders refused e = refl
sent_by false s (recall.Asked count) orders refused e =
    let none : drop count orders ≡ [] = drop_of_length-le orders (leb-true (length orders) count e) in
    ap (λ os. (with_orders s os refused).replies) none ∙ sym (append-nil s.replies)

again_sent : (s : Session) (unique : ℕ) (refused : List Bool) (it : Incoming) → is_had s unique (length (orders_in it)) ≡ true
    → (with_again s unique refused (incoming_under unique it)).replies ≡ s.replies ++ reply_again s unique it
again_sent s unique refused (incoming.Order order) e =
    sent_by (is_parked unique (state_after s.rules s.lines).view.parked) s (recalled_in s unique)
    (order_under unique order ∷ []) refused e
again_sent s unique refused (incoming.Batch orders) e =
    sent_by (is_parked unique (state_after s.rules s.lines).view.parked) s (recalled_in s unique)
    (map (order_under unique) orders) refused (ap (is_had s unique) (length-map orders (order_under unique)) ∙ e)
again_sent s unique refused (incoming.Response response) e = refl

-- ---- a message of a session that is under way

-- as far as a message brings it
abbrev pub moved : List ℕ → Handshake
moved message = record { agreed = true; over = says_destroy (said message) }

met : (s : Session) (c : Came) (marked : Option ℕ) → s.handshake ≡ under_way → unmarked s.resends (unique_of c.message) ≡ marked
    → with_message s c
    ≡ with_either (record s { handshake = moved c.message }) marked c.refused (incoming_by c.message (said_to s.rules.whole c.message))
met s c marked far mark =
    ap (λ h. if h.over then s
    else with_either (record s { handshake = advanced h c.message }) (unmarked s.resends (unique_of c.message)) c.refused
    (incoming_of s.rules.whole h c.message)) far
    ∙ ap (λ m. with_either (record s { handshake = moved c.message }) m c.refused (incoming_by c.message (said_to s.rules.whole c.message))) mark

one_again : (s : Session) (c : Came) → s.resends ≡ true → s.handshake ≡ under_way → ComesAgain s c.message
    → AreAlike (with_message s c) s
one_again s c knows far again =
    let mark : unmarked s.resends (unique_of c.message) ≡ Some again.unique =
    ap (λ b. unmarked b (unique_of c.message)) knows ∙ again.marked in
    let now : Session = record s { handshake = moved c.message } in
    let same : AreAlike now s = record {
      rules = refl;
      heard = refl;
      handshake = ap (λ over. record { agreed = true; over = over }) again.stays ∙ sym far;
      lines = refl;
    } in
    alike_by (with_message s c) s _ s (met s c (Some again.unique) far mark) refl
    (alike_trans _ now s (again_had now again.unique c.refused (incoming_by c.message (said_to s.rules.whole c.message)) again.had) same)

-- what is sent to one message
abbrev reply_to : Session → Came → List (List ℕ)
reply_to s c = reply_unmarked s (unmarked true (unique_of c.message)) (incoming_by c.message (said_to s.rules.whole c.message))

one_sent : (s : Session) (c : Came) → s.resends ≡ true → s.handshake ≡ under_way → ComesAgain s c.message
    → (with_message s c).replies ≡ s.replies ++ reply_to s c
one_sent s c knows far again =
    let mark : unmarked s.resends (unique_of c.message) ≡ Some again.unique =
    ap (λ b. unmarked b (unique_of c.message)) knows ∙ again.marked in
    let it : Incoming = incoming_by c.message (said_to s.rules.whole c.message) in
    ap (λ t. t.replies) (met s c (Some again.unique) far mark)
    ∙ again_sent (record s { handshake = moved c.message }) again.unique c.refused it again.had
    ∙ ap (λ m. s.replies ++ reply_unmarked s m it) (sym again.marked)

sent_alike : (s t : Session) (came : List Came) → AreAlike t s → replies_again t came ≡ replies_again s came
sent_alike s t came a = λ i. replies_again (record s { rules = a.rules i; heard = a.heard i; lines = a.lines i }) came

still_had : (s t : Session) (unique : ℕ) (message : List ℕ) → AreAlike t s
    → is_had s unique (length (orders_in (incoming_by message (said_to s.rules.whole message)))) ≡ true
    → is_had t unique (length (orders_in (incoming_by message (said_to t.rules.whole message)))) ≡ true
still_had s t unique message a e =
    (λ i. is_had (record s { rules = a.rules i; heard = a.heard i; lines = a.lines i }) unique
    (length (orders_in (incoming_by message (said_to (a.rules i).whole message))))) ∙ e

still_again : (s t : Session) (came : List Came) → AreAlike t s → AllComeAgain s came → AllComeAgain t came
still_again s t [] a all = tt
still_again s t (c ∷ came) a all = (
  record {
    unique = all.0.unique;
    marked = all.0.marked;
    stays = all.0.stays;
    had = still_had s t all.0.unique c.message a all.0.had;
  },
  still_again s t came a all.1,
)

-- what stays, that it still knows messages that are sent again, and what it sent
pub record Stays (s : Session) (came : List Came) (t : Session) : Type 0 where
  pub alike : AreAlike t s
  pub knows : t.resends ≡ true
  pub sent : t.replies ≡ s.replies ++ replies_again s came

pub again_stays : (s : Session) (came : List Came) → s.resends ≡ true → s.handshake ≡ under_way → AllComeAgain s came
    → Stays s came (session_from s came)
again_stays s [] knows far all = record {
  alike = record { rules = refl; heard = refl; handshake = refl; lines = refl };
  knows = knows;
  sent = sym (append-nil s.replies);
}
again_stays s (c ∷ came) knows far all =
    let now : Session = with_message s c in
    let one : AreAlike now s = one_again s c knows far all.0 in
    let rest = again_stays now came ((by_message s c).resends ∙ knows) (one.handshake ∙ far) (still_again s now came one all.1) in
    record {
      alike = alike_trans _ now s rest.alike one;
      knows = rest.knows;
      sent = rest.sent ∙ ap (λ l. now.replies ++ l) (sent_alike s now came one)
          ∙ ap (λ l. l ++ replies_again s came) (one_sent s c knows far all.0)
          ∙ append_assoc s.replies (reply_to s c) (replies_again s came);
    }

-- ---- messages that are new

new_by : (waits : Bool) (found : Recalled) (s : Session) (orders : List Order) (refused : List Bool) → waits ≡ false
    → found ≡ recall.Asked 0 → (if waits then s else with_recalled s found orders refused) ≡ with_orders s orders refused
new_by waits found s orders refused free none = rw (free, none) refl

pub response_goes : (a b : List (List ℕ)) (s t : Session) (response : Response) → GoAlike a b s t
    → GoAlike a b (with_response s response) (with_response t response)
response_goes a b s t response g =
    grown a b s t (with_response s response) (with_response t response) (bytes_in s.rules s.lines response) _ g
    (record { rules = g.alike.rules; heard = g.alike.heard; handshake = g.alike.handshake; lines = g.alike.lines }) refl refl
    (λ i. bytes_in (g.alike.rules i) (g.alike.lines i) response)

new_orders : (a b : List (List ℕ)) (s t : Session) (unique : ℕ) (orders : List Order) (refused : List Bool) → GoAlike a b s t
    → IsUnknown t unique → GoAlike a b (with_orders_again s unique orders refused) (with_orders t orders refused)
new_orders a b s t unique orders refused g unknown =
    let free : is_parked unique (state_after s.rules s.lines).view.parked ≡ false =
    (λ i. is_parked unique (state_after (g.alike.rules i) (g.alike.lines i)).view.parked) ∙ unknown.free in
    let none : recalled_in s unique ≡ recall.Asked 0 =
    (λ i. recalled_in (record s { heard = g.alike.heard i; lines = g.alike.lines i }) unique) ∙ unknown.unsaid in
    goes_by a b _ (with_orders t orders refused) (with_orders s orders refused) (with_orders t orders refused)
    (new_by (is_parked unique (state_after s.rules s.lines).view.parked) (recalled_in s unique) s orders refused free none)
    refl (orders_go a b s t orders refused g)

new_incoming : (a b : List (List ℕ)) (s t : Session) (unique : ℕ) (refused : List Bool) (it : Incoming) → GoAlike a b s t
    → IsUnknown t unique → GoAlike a b (with_again s unique refused it) (with_incoming t refused it)
new_incoming a b s t unique refused (incoming.Order order) g unknown = new_orders a b s t unique (order ∷ []) refused g unknown
new_incoming a b s t unique refused (incoming.Batch orders) g unknown = new_orders a b s t unique orders refused g unknown
new_incoming a b s t unique refused (incoming.Response response) g unknown =
    response_goes a b s t response g

-- they are brought as far by a message
pub moved_alike : (a b : List (List ℕ)) (s t : Session) (handshake : Handshake) → GoAlike a b s t
    → GoAlike a b (record s { handshake = handshake }) (record t { handshake = handshake })
moved_alike a b s t handshake g = record {
  alike = record { rules = g.alike.rules; heard = g.alike.heard; handshake = refl; lines = g.alike.lines };
  rest = g.rest;
  left = g.left;
  right = g.right;
}

-- the message with its mark is taken as that without it
pub marked_met : (s : Session) (c m : Came) → s.resends ≡ true → s.handshake ≡ under_way → SaysTheSame c.message m.message
    → with_message s m
    ≡ with_again (record s { handshake = moved c.message }) (unique_of c.message) m.refused (incoming_by c.message (said_to s.rules.whole c.message))
marked_met s c m knows far same =
    met s m (Some (unique_of c.message)) far (ap (λ b. unmarked b (unique_of m.message)) knows ∙ same.mark)
    ∙ (λ i. with_again (record s { handshake = record { agreed = true; over = same.ends i } }) (unique_of c.message) m.refused
    (same.says s.rules.whole i))

-- a message is new where no message is known as one that is sent again
pub plain_met : (s : Session) (c : Came) → s.resends ≡ false → s.handshake ≡ under_way
    → with_message s c
    ≡ with_incoming (record s { handshake = moved c.message }) c.refused (incoming_by c.message (said_to s.rules.whole c.message))
plain_met s c lacks far = met s c None far (ap (λ b. unmarked b (unique_of c.message)) lacks)

one_new : (a b : List (List ℕ)) (s t : Session) (c m : Came) → s.resends ≡ true → t.resends ≡ false → t.handshake ≡ under_way
    → GoAlike a b s t → SaysTheSame c.message m.message → m.refused ≡ c.refused → IsUnknown t (unique_of c.message)
    → GoAlike a b (with_message s m) (with_message t c)
one_new a b s t c m knows lacks far g same flags unknown =
    let unique : ℕ = unique_of c.message in
    let it : Incoming = incoming_by c.message (said_to t.rules.whole c.message) in
    let left : Session = record s { handshake = moved c.message } in
    let right : Session = record t { handshake = moved c.message } in
    goes_by a b (with_message s m) (with_message t c) (with_again left unique c.refused it) (with_incoming right c.refused it)
    (marked_met s c m knows (g.alike.handshake ∙ far) same
    ∙ ap (λ (r : Rules). with_again left unique m.refused (incoming_by c.message (said_to r.whole c.message))) g.alike.rules
    ∙ ap (λ r. with_again left unique r it) flags)
    (plain_met t c lacks far)
    (new_incoming a b left right unique c.refused it (moved_alike a b s t (moved c.message) g)
    (record { free = unknown.free; unsaid = unknown.unsaid }))

agreed_still : (h : Handshake) (message : List ℕ) (over agreed : Bool) → h.over ≡ over → h.agreed ≡ agreed → agreed ≡ true
    → (advanced h message).agreed ≡ true
agreed_still h message true agreed o g e = rw o (g ∙ e)
agreed_still h message false true o g e = rw (o, g) refl
agreed_still h message false false o g e = absurd (cc e)

pub agrees_on : (t : Session) (c : Came) → t.handshake.agreed ≡ true → (with_message t c).handshake.agreed ≡ true
agrees_on t c e =
    ap (λ h. h.agreed) (by_message t c).handshake ∙ agreed_still t.handshake c.message t.handshake.over t.handshake.agreed refl refl e

pub over_still : (s : Session) (c : Came) → s.handshake.over ≡ true → with_message s c ≡ s
over_still s c over =
    ap (λ o. if o then s
    else with_either (record s { handshake = advanced s.handshake c.message }) (unmarked s.resends (unique_of c.message)) c.refused
    (incoming_of s.rules.whole s.handshake c.message)) over

one_new_by : (a b : List (List ℕ)) (s t : Session) (c m : Came) (over : Bool) → t.handshake.over ≡ over
    → t.handshake.agreed ≡ true → s.resends ≡ true → t.resends ≡ false → GoAlike a b s t → SaysTheSame c.message m.message
    → m.refused ≡ c.refused → IsUnknown t (unique_of c.message) → GoAlike a b (with_message s m) (with_message t c)
one_new_by a b s t c m true o e knows lacks g same flags unknown =
    goes_by a b (with_message s m) (with_message t c) s t (over_still s m (ap (λ h. h.over) g.alike.handshake ∙ o))
    (over_still t c o) g
one_new_by a b s t c m false o e knows lacks g same flags unknown =
    one_new a b s t c m knows lacks (λ i. record { agreed = e i; over = o i }) g same flags unknown

pub all_new : (a b : List (List ℕ)) (s t : Session) (came marked : List Came) → t.handshake.agreed ≡ true → s.resends ≡ true
    → t.resends ≡ false → GoAlike a b s t → AreNew t came marked
    → GoAlike a b (session_from s marked) (session_from t came)
all_new a b s t [] [] e knows lacks g new = g
all_new a b s t [] (m ∷ marked) e knows lacks g new = absurd new
all_new a b s t (c ∷ came) [] e knows lacks g new = absurd new
all_new a b s t (c ∷ came) (m ∷ marked) e knows lacks g new =
    let one = one_new_by a b s t c m t.handshake.over refl e knows lacks g new.0 new.1 new.2 in
    all_new a b (with_message s m) (with_message t c) came marked (agrees_on t c e) ((by_message s m).resends ∙ knows)
    ((by_message t c).resends ∙ lacks) one new.3

-- ---- the whole

pub resends_from : (s : Session) (came : List Came) → (session_from s came).resends ≡ s.resends
resends_from s [] = refl
resends_from s (c ∷ came) = resends_from (with_message s c) came ∙ (by_message s c).resends

-- where what came again did nothing, the one session and the other are alike
pub again_alike : (first : Session) (again : List Came) → first.handshake ≡ under_way → AllComeAgain first again
    → GoAlike (replies_again first again) first.replies (session_from (resumed first) again) first
again_alike first again far all =
    let s : Session = resumed first in
    let same : AreAlike s first = record { rules = refl; heard = refl; handshake = refl; lines = refl } in
    let stays = again_stays s again refl far (still_again first s again same all) in
    record {
      alike = alike_trans (session_from s again) s first stays.alike same;
      rest = [];
      left = stays.sent ∙ sym (append-nil (replies_again first again));
      right = sym (append-nil first.replies);
    }

pub as_one : (first other one : Session) (again : List Came) → GoAlike (replies_again first again) first.replies other one
    → AreAsOne first other one again
as_one first other one again g = record {
  rest = g.rest;
  lines = g.alike.lines;
  of_one = g.right;
  of_other = g.left;
  resumed = λ i. record (resumed other) {
    rules = g.alike.rules i;
    heard = g.alike.heard i;
    lines = g.alike.lines i;
    handshake = g.alike.handshake i;
  };
}

-- ---- a session to its end

pub goes_on_as_one : (rules : Rules) (taken again unread marked : List Came)
    → IsSentAgain (session_of rules taken) again unread marked
    → AreAsOne (session_of rules taken) (session_from (resumed (session_of rules taken)) (again ++ marked))
    (session_of rules (taken ++ unread)) again
goes_on_as_one rules taken again unread marked sent =
    let t : Session = session_of rules taken in
    let s : Session = session_from (resumed t) again in
    let a : List (List ℕ) = replies_again t again in
    let knows : s.resends ≡ true = resends_from (resumed t) again in
    as_one t (session_from (resumed t) (again ++ marked)) (session_of rules (taken ++ unread)) again
    (goes_by a t.replies (session_from (resumed t) (again ++ marked)) (session_of rules (taken ++ unread))
    (session_from s marked) (session_from t unread) (fold-append with_message (resumed t) again marked)
    (fold-append with_message (opening_session rules) taken unread)
    (all_new a t.replies s t unread marked (ap (λ h. h.agreed) sent.far) knows (resends_from (opening_session rules) taken)
    (again_alike t again sent.far sent.had) sent.new))
