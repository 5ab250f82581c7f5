-- Sessions whose lines lead to the same go on alike.
use Rattle.std.proofs.Common.{◌≡◌, ℕ, Bool, true, false, cond, Option, Some, None, List, [], ◌∷◌, ◌++◌, map, drop}
use Rattle.std.proofs.Common.{append_assoc, append-nil, refl, sym, ap, ◌∙◌, subst}
use Rattle.fl_core.specs.State.{Snapshot, snapshot_of}
use Rattle.fl_core.specs.Step.{next, replies, replies_in}
use Rattle.fl_counter.specs.Answered.{step_lines}
use Rattle.fl_desk.specs.Leading.{LeadsTo}
use Rattle.fl_desk.specs.Replay.{state_after}
use Rattle.fl_history.specs.Recent.{recalled, recent}
use Rattle.fl_history.specs.declared.history.Line.{Line}
use Rattle.fl_history.specs.declared.recent.Recalled.{Recalled}
use Rattle.fl_history.specs.declared.recent.Recalled.TheVariants as recall
use Rattle.fl_order.specs.Order.{kind_of}
use Rattle.fl_order.specs.declared.order.Order.{Order}
use Rattle.fl_order.specs.declared.told.Told.{Told}
use Rattle.fl_session.specs.Again.{incoming_under, unmarked}
use Rattle.lockd_serve.specs.Alike.{AreAlike, DoTheSame}
use Rattle.fl_session.specs.Session.{Came, Session, recalled_in, session_from, with_again, with_either, with_incoming}
use Rattle.fl_session.specs.Session.{with_message, with_order, with_orders, with_orders_again, with_recalled, with_refusal}
use Rattle.fl_session.specs.Session.{with_response, with_step}
use Rattle.fl_session.specs.Whole.{bytes_in, bytes_when}
use Rattle.fl_transport.specs.Handshake.{advanced, incoming_of}
use Rattle.fl_transport.specs.Response.{bytes_of, lost}
use Rattle.fl_transport.specs.declared.handshake.Handshake.{Handshake}
use Rattle.fl_transport.specs.declared.handshake.Incoming.{Incoming}
use Rattle.fl_transport.specs.declared.handshake.Incoming.TheVariants as incoming
use Rattle.fl_transport.specs.declared.response.Response.{Response}
use Rattle.fl_transport.specs.declared.response.Response.TheVariants.{One}
use Rattle.fl_waiting.specs.Waiting.{is_parked}
use Rattle.fl_wire.specs.Layout.{unique_of}
use Rattle.fl_wire.specs.Spell.{spelling_of}

-- both went on, and are alike
abbrev Both : Session → Session → Session → Session → Type 0
Both s t s_now t_now = AreAlike s_now t_now × DoTheSame s t s_now t_now

stay : (s t : Session) → AreAlike s t → Both s t s t
stay s t alike = (
  alike,
  record {
    replies = [];
    lines = [];
    s_sent = sym (append-nil s.replies);
    t_sent = sym (append-nil t.replies);
    s_kept = sym (append-nil s.lines);
    t_kept = sym (append-nil t.lines);
  },
)

later : {A : Type 0} (x y z a b : List A) → y ≡ x ++ a → z ≡ y ++ b → z ≡ x ++ (a ++ b)
later x y z a b p q = q ∙ ap (λ l. l ++ b) p ∙ append_assoc x a b

chain : (s t s1 t1 s2 t2 : Session) → Both s t s1 t1 → Both s1 t1 s2 t2 → Both s t s2 t2
chain s t s1 t1 s2 t2 first second = (
  second.0,
  record {
    replies = first.1.replies ++ second.1.replies;
    lines = first.1.lines ++ second.1.lines;
    s_sent = later _ _ _ _ _ first.1.s_sent second.1.s_sent;
    t_sent = later _ _ _ _ _ first.1.t_sent second.1.t_sent;
    s_kept = later _ _ _ _ _ first.1.s_kept second.1.s_kept;
    t_kept = later _ _ _ _ _ first.1.t_kept second.1.t_kept;
  },
)

-- what lines lead to is what is read off them
shows : (s : Session) (p : Snapshot) → LeadsTo s.lines p → p.rules ≡ s.rules → snapshot_of (state_after s.rules s.lines) ≡ p
shows s p leads rules = ap (λ r. snapshot_of (state_after r s.lines)) (sym rules) ∙ sym leads.stands

-- what is there says what is answered
same_bytes : (s t : Session) (response : Response) → AreAlike s t
    → bytes_in t.rules t.lines response ≡ bytes_in s.rules s.lines response
same_bytes s t response a =
    let one = shows s a.present a.s_leads a.s_rules in
    let other = shows t a.present a.t_leads a.t_rules in
    let rules = sym a.t_rules ∙ a.s_rules in
    let there = other ∙ sym one in
    λ i. bytes_when (rules i) (there i).view.directory response

respond : (s t : Session) (response : Response) → AreAlike s t → Both s t (with_response s response) (with_response t response)
respond s t response a = (
  record {
    present = a.present;
    s_leads = a.s_leads;
    t_leads = a.t_leads;
    s_rules = a.s_rules;
    t_rules = a.t_rules;
    resends = a.resends;
    handshake = a.handshake;
    refused = a.refused;
    recalled = a.recalled;
  },
  record {
    replies = bytes_in s.rules s.lines response;
    lines = [];
    s_sent = refl;
    t_sent = ap (λ l. t.replies ++ l) (same_bytes s t response a);
    s_kept = sym (append-nil s.lines);
    t_kept = sym (append-nil t.lines);
  },
)

refuse : (s t : Session) (order : Order) → AreAlike s t → Both s t (with_refusal s order) (with_refusal t order)
refuse s t order a = (
  record {
    present = a.present;
    s_leads = a.s_leads;
    t_leads = a.t_leads;
    s_rules = a.s_rules;
    t_rules = a.t_rules;
    resends = a.resends;
    handshake = a.handshake;
    refused = refl;
    recalled = a.recalled;
  },
  record {
    replies = bytes_of (lost (kind_of order.op) order.unique);
    lines = [];
    s_sent = refl;
    t_sent = refl;
    s_kept = sym (append-nil s.lines);
    t_kept = sym (append-nil t.lines);
  },
)

module _ (leads_on : (lines : List Line) (p : Snapshot) (worker : ℕ) (order : Order) → LeadsTo lines p
    → LeadsTo (lines ++ step_lines worker order (replies p order)) (next p order)) where
  stepped : (s t : Session) (order : Order) (tolds : List Told) (a : AreAlike s t) → tolds ≡ replies a.present order
      → Both s t (with_step s order tolds) (with_step t order tolds)
  stepped s t order tolds a is = (
    record {
      present = next a.present order;
      s_leads = subst (λ l. LeadsTo (s.lines ++ step_lines 0 order l) (next a.present order)) (sym is) (leads_on s.lines a.present 0 order a.s_leads);
      t_leads = subst (λ l. LeadsTo (t.lines ++ step_lines 0 order l) (next a.present order)) (sym is) (leads_on t.lines a.present 0 order a.t_leads);
      s_rules = a.s_rules;
      t_rules = a.t_rules;
      resends = a.resends;
      handshake = a.handshake;
      refused = a.refused;
      recalled = λ unique more.
          let l = step_lines 0 order tolds in
          ap (λ x. recalled unique (recent (t.heard ++ x))) (append_assoc t.lines l more) ∙ a.recalled unique (l ++ more)
          ∙ sym (ap (λ x. recalled unique (recent (s.heard ++ x))) (append_assoc s.lines l more));
    },
    record {
      replies = map spelling_of tolds;
      lines = step_lines 0 order tolds;
      s_sent = refl;
      t_sent = refl;
      s_kept = refl;
      t_kept = refl;
    },
  )

  ordered : (s t : Session) (refused : Bool) (order : Order) → AreAlike s t → Both s t (with_order s refused order) (with_order t refused order)
  ordered s t true order a = refuse s t order a
  ordered s t false order a =
      let one = shows s a.present a.s_leads a.s_rules in
      let other = shows t a.present a.t_leads a.t_rules in
      let s_tolds = replies_in (state_after s.rules s.lines) order in
      let same : s_tolds ≡ replies_in (state_after t.rules t.lines) order = ap (λ (p : Snapshot). replies p order) (one ∙ sym other) in
      subst (λ tolds. Both s t (with_step s order s_tolds) (with_step t order tolds)) same
      (stepped s t order s_tolds a (ap (λ (p : Snapshot). replies p order) one))

  all_ordered : (orders : List Order) (refused : List Bool) (s t : Session) → AreAlike s t → Both s t (with_orders s orders refused) (with_orders t orders refused)
  all_ordered [] refused s t a = stay s t a
  all_ordered (order ∷ orders) [] s t a =
      let first = ordered s t false order a in
      chain s t (with_order s false order) (with_order t false order) (with_orders s (order ∷ orders) []) (with_orders t (order ∷ orders) []) first
      (all_ordered orders [] (with_order s false order) (with_order t false order) first.0)
  all_ordered (order ∷ orders) (b ∷ refused) s t a =
      let first = ordered s t b order a in
      chain s t (with_order s b order) (with_order t b order) (with_orders s (order ∷ orders) (b ∷ refused)) (with_orders t (order ∷ orders) (b ∷ refused)) first
      (all_ordered orders refused (with_order s b order) (with_order t b order) first.0)

  came_in : (it : Incoming) (refused : List Bool) (s t : Session) → AreAlike s t → Both s t (with_incoming s refused it) (with_incoming t refused it)
  came_in (incoming.Order order) refused s t a = all_ordered (order ∷ []) refused s t a
  came_in (incoming.Batch orders) refused s t a = all_ordered orders refused s t a
  came_in (incoming.Response response) refused s t a = respond s t response a

  recalled_so : (r : Recalled) (orders : List Order) (refused : List Bool) (s t : Session) → AreAlike s t
      → Both s t (with_recalled s r orders refused) (with_recalled t r orders refused)
  recalled_so (recall.Told told) orders refused s t a = respond s t (One told) a
  recalled_so (recall.Asked count) orders refused s t a = all_ordered (drop count orders) refused s t a

  orders_again : (unique : ℕ) (orders : List Order) (refused : List Bool) (s t : Session) → AreAlike s t
      → Both s t (with_orders_again s unique orders refused) (with_orders_again t unique orders refused)
  orders_again unique orders refused s t a =
      let one = shows s a.present a.s_leads a.s_rules in
      let other = shows t a.present a.t_leads a.t_rules in
      let waits : is_parked unique (state_after s.rules s.lines).view.parked ≡ is_parked unique (state_after t.rules t.lines).view.parked
      = ap (λ (p : Snapshot). is_parked unique p.view.parked) (one ∙ sym other) in
      let says : recalled_in s unique ≡ recalled_in t unique
      = ap (λ x. recalled unique (recent (s.heard ++ x))) (sym (append-nil s.lines)) ∙ sym (a.recalled unique [])
      ∙ ap (λ x. recalled unique (recent (t.heard ++ x))) (append-nil t.lines) in
      subst (λ (x : Bool × Recalled). Both s t (again s (is_parked unique (state_after s.rules s.lines).view.parked) (recalled_in s unique)) (again t x.0 x.1))
      (λ i. (waits i, says i))
      (go (is_parked unique (state_after s.rules s.lines).view.parked))
    where
      again : Session → Bool → Recalled → Session
      again x b r = cond b x (with_recalled x r orders refused)

      go : (b : Bool) → Both s t (again s b (recalled_in s unique)) (again t b (recalled_in s unique))
      go true = stay s t a
      go false = recalled_so (recalled_in s unique) orders refused s t a

  came_again : (unique : ℕ) (it : Incoming) (refused : List Bool) (s t : Session) → AreAlike s t
      → Both s t (with_again s unique refused it) (with_again t unique refused it)
  came_again unique (incoming.Order order) refused s t a = orders_again unique (order ∷ []) refused s t a
  came_again unique (incoming.Batch orders) refused s t a = orders_again unique orders refused s t a
  came_again unique (incoming.Response response) refused s t a = respond s t response a

  either_so : (mark : Option ℕ) (it : Incoming) (refused : List Bool) (s t : Session) → AreAlike s t
      → Both s t (with_either s mark refused it) (with_either t mark refused it)
  either_so None it refused s t a = came_in it refused s t a
  either_so (Some unique) it refused s t a = came_again unique (incoming_under unique it) refused s t a

  -- a session that is as far as another
  abbrev far : Session → Handshake → List ℕ → Session
  far s h message = record s { handshake = advanced h message }

  -- one message more, by whether a session is whole, how far it is and whether it knows messages that are sent again
  abbrev messaged : Session → Bool → Handshake → Bool → Came → Session
  messaged s whole h resends came =
      cond h.over s (with_either (far s h came.message) (unmarked resends (unique_of came.message)) came.refused (incoming_of whole h came.message))

  one_message : (s t : Session) (came : Came) → AreAlike s t → Both s t (with_message s came) (with_message t came)
  one_message s t came a =
      let rules : s.rules ≡ t.rules = sym a.s_rules ∙ a.t_rules in
      subst (Both s t (with_message s came)) (λ i. messaged t (rules i).whole (sym a.handshake i) (sym a.resends i) came)
      (go s.handshake.over)
    where
      rest : Session → Session
      rest x = with_either (far x s.handshake came.message) (unmarked s.resends (unique_of came.message)) came.refused (incoming_of s.rules.whole s.handshake came.message)

      advance : AreAlike (far s s.handshake came.message) (far t s.handshake came.message)
      advance = record {
        present = a.present;
        s_leads = a.s_leads;
        t_leads = a.t_leads;
        s_rules = a.s_rules;
        t_rules = a.t_rules;
        resends = a.resends;
        handshake = refl;
        refused = a.refused;
        recalled = a.recalled;
      }

      go : (over : Bool) → Both s t (cond over s (rest s)) (cond over t (rest t))
      go true = stay s t a
      go false =
          let both = either_so (unmarked s.resends (unique_of came.message)) (incoming_of s.rules.whole s.handshake came.message) came.refused
          (far s s.handshake came.message) (far t s.handshake came.message) advance in (
            both.0,
            record {
              replies = both.1.replies;
              lines = both.1.lines;
              s_sent = both.1.s_sent;
              t_sent = both.1.t_sent;
              s_kept = both.1.s_kept;
              t_kept = both.1.t_kept;
            },
          )

  pub go_on : (s t : Session) (came : List Came) → AreAlike s t → Both s t (session_from s came) (session_from t came)
  go_on s t [] a = stay s t a
  go_on s t (c ∷ came) a =
      let first = one_message s t c a in
      chain s t (with_message s c) (with_message t c) (session_from s (c ∷ came)) (session_from t (c ∷ came)) first
      (go_on (with_message s c) (with_message t c) came first.0)
