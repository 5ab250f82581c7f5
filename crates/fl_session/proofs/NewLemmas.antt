-- Messages that have uniques of their own are new, one after another.
use Rattle.std.proofs.Common.{◌≡◌, ℕ, Bool, true, false, List, [], ◌∷◌, ◌++◌, map, Option, None, Some}
use Rattle.std.proofs.Common.{sym, ap, subst, ◌∙◌, append_assoc, arith}
use Rattle.std.specs.Prelude.{cond, ◌&&◌, not, if◌then◌else◌, ◌==◌, ◌≢◌, Result, Ok, Err}
use Rattle.std.specs.List.{AllByRecursion, filter}
use Rattle.std.proofs.lemmas.Bool.{eq-eqb, ne_eqb}
use Rattle.fl_core.specs.Replies.{ended, ended_all, ended_if, ended_with, ending_of, error_of, first_told, own_reply, picks}
use Rattle.fl_counter.specs.Tolds.{own_replies}
use Rattle.fl_core.specs.Settling.{IsSettled, Present, done, one, present, settled}
use Rattle.fl_core.specs.State.{Snapshot, snapshot_of}
use Rattle.fl_core.specs.Step.{after_first, replies}
use Rattle.fl_counter.specs.Answered.{step_lines}
use Rattle.fl_desk.specs.Replay.{AllOthers, state_after}
use Rattle.fl_history.specs.declared.history.Line.{Line}
use Rattle.fl_history.specs.declared.history.Line.TheVariants as line
use Rattle.fl_order.specs.OpKind.{kind_of_opcode}
use Rattle.fl_order.specs.declared.errno.Errno.{Errno}
use Rattle.fl_order.specs.declared.errno.Errno.TheVariants.{ENOSYS}
use Rattle.fl_order.specs.declared.order.Op.{Op}
use Rattle.fl_order.specs.declared.order.Order.{Order}
use Rattle.fl_order.specs.declared.refusal.Refusal.{Refusal}
use Rattle.fl_order.specs.declared.refusal.Refusal.TheVariants.{Answer, Silent, Batch, Destroy}
use Rattle.fl_order.specs.declared.told.Answer as answer
use Rattle.fl_order.specs.declared.told.Told.{Told}
use Rattle.fl_session.proofs.KnownLemmas.{nothing_unknown}
use Rattle.fl_session.proofs.ParkedLemmas.{bit, counted_none, later_counted, many, many_append, others_counted, replied_most}
use Rattle.fl_session.proofs.RulesLemmas.{by_message}
use Rattle.fl_session.specs.Again.{unmarked}
use Rattle.fl_session.specs.Known.{AreMarked, HaveNothing, HaveOwnUniques}
use Rattle.fl_session.specs.Once.{AreNew, orders_in}
use Rattle.fl_session.specs.Session.{Came, Session, with_either, with_incoming, with_message, with_order, with_orders}
use Rattle.fl_transport.specs.Handshake.{advanced, incoming_by, incoming_of, own_answer, said_to}
use Rattle.fl_transport.specs.declared.handshake.Incoming.{Incoming}
use Rattle.fl_transport.specs.declared.handshake.Incoming.TheVariants as incoming
use Rattle.fl_waiting.specs.Waiting.{is_parked}
use Rattle.fl_waiting.specs.declared.parked.Request.{Request}
use Rattle.fl_waiting.specs.declared.rules.Rules.{Rules}
use Rattle.fl_wire.specs.Batch.{forget_at, is_batch}
use Rattle.fl_wire.specs.Layout.{opcode_of, unique_of}
use Rattle.fl_wire.specs.Says.{asked, order_of, said}
use Rattle.fl_wire.specs.Whole.{is_for_whole}

-- ---- replies are to the order and to parked requests

differs : (u : ℕ) (r : Request) (parked : List Request) → many u (r ∷ parked) ≡ 0 → r.unique ≢ u
differs u r parked e = λ same. let one : bit (r.unique == u) ≡ 1 = ap bit (eq-eqb r.unique u same) in omega (arith, one, e)

pub both_others : (u : ℕ) (xs ys : List Told) → AllOthers u xs → AllOthers u ys → AllOthers u (xs ++ ys)
both_others u [] ys first second = second
both_others u (x ∷ xs) ys first second = (first.0, both_others u xs ys first.1 second)

own_others : (u : ℕ) (order : Order) (own : Option (Result answer.Answer Errno)) → order.unique ≢ u → AllOthers u (own_replies order own)
own_others u order None other = tt
own_others u order (Some result) other = (other, tt)

kept_others : (keep : Bool) (u : ℕ) (e : Errno) (r : Request) (kept : List Request) → r.unique ≢ u
    → AllOthers u (map (ended_with e) kept) → AllOthers u (map (ended_with e) (cond keep (r ∷ kept) kept))
kept_others true u e r kept other rest = (other, rest)
kept_others false u e r kept other rest = rest

ended_others : (u : ℕ) (e : Errno) (test : Request → Bool) (parked : List Request) → many u parked ≡ 0
    → AllOthers u (ended_all e test parked)
ended_others u e test [] none = tt
ended_others u e test (r ∷ parked) none =
    kept_others (test r) u e r (filter test parked) (differs u r parked none) (ended_others u e test parked (omega (arith, none)))

others_if : (waits : Bool) (u : ℕ) (tolds : List Told) → AllOthers u tolds → AllOthers u (if waits then [] else tolds)
others_if true u tolds others = tt
others_if false u tolds others = others

first_others : (u : ℕ) (p : Snapshot) (order : Order) → order.unique ≢ u → many u p.view.parked ≡ 0
    → AllOthers u (first_told p order)
first_others u p order other none =
    let own : Option (Result answer.Answer Errno) = own_reply p.rules p.view p.marking order in
    both_others u (own_replies order own) (ended p.view order own) (own_others u order own other)
    (others_if (is_parked order.unique p.view.parked) u _ (elim (ending_of order.op own) as (λ x. AllOthers u (ended_if x p.view.parked)) [
      | None ↦ tt
      | Some ending ↦ ended_others u (error_of ending) (picks ending) p.view.parked none
    ]))

settled_others : (u : ℕ) {rules : Rules} {s after : Present} {tolds : List Told} → IsSettled rules s tolds after
    → many u s.parked ≡ 0 → AllOthers u tolds
settled_others u (done {m} {parked} all) none = tt
settled_others u (one {m} {parked} {tolds} {after} older r younger stands all free rest) none =
    let apart : many u (older ++ r ∷ younger) ≡ 0 = ap (many u) (sym stands) ∙ none in
    let parts = many_append u older (r ∷ younger) in
    let left = many_append u older younger in
    let behind : many u (r ∷ younger) ≡ 0 = omega (arith, apart, parts) in
    let both : many u (older ++ younger) ≡ 0 = omega (arith, apart, parts, left) in
    (differs u r younger behind, settled_others u rest both)

-- what is known of settling
abbrev pub Settles : Type 0
Settles = (rules : Rules) (s : Present) → IsSettled rules s (settled rules s).tolds (settled rules s).present

pub replies_others : Settles → (u : ℕ) (p : Snapshot) (order : Order) → order.unique ≢ u → many u p.view.parked ≡ 0
    → AllOthers u (replies p order)
replies_others settles u p order other none =
    let after : Snapshot = after_first p order in
    let most = replied_most u order (first_told p order) p.view in
    let differ : bit (order.unique == u) ≡ 0 = ap bit (ne_eqb order.unique u other) in
    let still : many u after.view.parked ≡ 0 = omega (arith, most, differ, none) in
    both_others u (first_told p order) (settled after.rules (present after.marking after.view.parked)).tolds
    (first_others u p order other none)
    (settled_others u (settles after.rules (present after.marking after.view.parked)) still)

-- ---- lines of other uniques

pub both_nothing : (u : ℕ) (xs ys : List Line) → HaveNothing u xs → HaveNothing u ys → HaveNothing u (xs ++ ys)
both_nothing u [] ys first second = second
both_nothing u (x ∷ xs) ys first second = (first.0, both_nothing u xs ys first.1 second)

pub tolds_nothing : (u : ℕ) (tolds : List Told) → AllOthers u tolds → HaveNothing u (map (λ told. line.Told told) tolds)
tolds_nothing u [] others = tt
tolds_nothing u (told ∷ tolds) others = (others.0, tolds_nothing u tolds others.1)

order_apart : Settles → (u : ℕ) (heard : List Line) (s : Session) (refused : Bool) (order : Order) → order.unique ≢ u
    → HaveNothing u (heard ++ s.lines) → HaveNothing u (heard ++ (with_order s refused order).lines)
order_apart settles u heard s true order other none = none
order_apart settles u heard s false order other none =
    let p : Snapshot = snapshot_of (state_after s.rules s.lines) in
    let free : many u p.view.parked ≡ 0 =
    counted_none u s.rules s.lines (later_counted u heard s.lines (others_counted u 0 (heard ++ s.lines) none)) in
    subst (HaveNothing u) (append_assoc heard s.lines (step_lines 0 order (replies p order)))
    (both_nothing u (heard ++ s.lines) (step_lines 0 order (replies p order)) none
    (other, tolds_nothing u (replies p order) (replies_others settles u p order other free)))

-- this stays so of a session's lines as it takes orders of other uniques
abbrev pub IsKept : ℕ → (List Line → Type 0) → Type 0
IsKept u P =
    (s : Session) (refused : Bool) (order : Order) → order.unique ≢ u → P s.lines → P (with_order s refused order).lines

-- orders of a unique that isn't this one
abbrev pub AllApart : ℕ → List Order → Type 0
AllApart u orders = AllByRecursion (λ (o : Order). o.unique ≢ u) orders

pub orders_apart : (u : ℕ) (P : List Line → Type 0) → IsKept u P → (s : Session) (orders : List Order) (refused : List Bool)
    → AllApart u orders → P s.lines → P (with_orders s orders refused).lines
orders_apart u P kept s [] refused others so = so
orders_apart u P kept s (o ∷ orders) [] others so =
    orders_apart u P kept (with_order s false o) orders [] others.1 (kept s false o others.0 so)
orders_apart u P kept s (o ∷ orders) (first ∷ refused) others so =
    orders_apart u P kept (with_order s first o) orders refused others.1 (kept s first o others.0 so)

incoming_apart : (u : ℕ) (P : List Line → Type 0) → IsKept u P → (s : Session) (refused : List Bool) (it : Incoming)
    → AllApart u (orders_in it) → P s.lines → P (with_incoming s refused it).lines
incoming_apart u P kept s refused (incoming.Order order) others so = orders_apart u P kept s (order ∷ []) refused others so
incoming_apart u P kept s refused (incoming.Batch orders) others so = orders_apart u P kept s orders refused others so
incoming_apart u P kept s refused (incoming.Response response) others so = so

-- ---- the orders of a message have its unique

pub forgets_apart : (u : ℕ) (message : List ℕ) (pairs : List ℕ) → unique_of message ≢ u
    → AllApart u (map (forget_at message) pairs)
forgets_apart u message [] other = tt
forgets_apart u message (i ∷ pairs) other = (other, forgets_apart u message pairs other)

order_of_apart : (u : ℕ) (message : List ℕ) (op : Result Op Refusal) → unique_of message ≢ u
    → AllApart u (orders_in (incoming_by message (order_of message op)))
order_of_apart u message (Ok op) other = (other, tt)
order_of_apart u message (Err (Answer e)) other = tt
order_of_apart u message (Err Silent) other = tt
order_of_apart u message (Err Batch) other = forgets_apart u message _ other
order_of_apart u message (Err Destroy) other = tt

said_apart : (batch : Bool) (u : ℕ) (message : List ℕ) (op : Result Op Refusal) → unique_of message ≢ u
    → AllApart u (orders_in (incoming_by message (if batch then Err Batch else order_of message op)))
said_apart true u message op other = forgets_apart u message _ other
said_apart false u message op other = order_of_apart u message op other

to_apart : (unknown : Bool) (u : ℕ) (message : List ℕ) (says : Result Order Refusal)
    → AllApart u (orders_in (incoming_by message says))
    → AllApart u (orders_in (incoming_by message (if unknown then Err (Answer ENOSYS) else says)))
to_apart true u message says others = tt
to_apart false u message says others = others

of_apart : (agreed : Bool) (u : ℕ) (it : Incoming) (message : List ℕ) → AllApart u (orders_in it)
    → AllApart u (orders_in (if agreed then it else incoming.Response (own_answer message (kind_of_opcode (opcode_of message)))))
of_apart true u it message others = others
of_apart false u it message others = tt

pub message_apart : (u : ℕ) (P : List Line → Type 0) → IsKept u P → (s : Session) (c : Came) → s.resends ≡ false
    → unique_of c.message ≢ u → P s.lines → P (with_message s c).lines
message_apart u P kept s c lacks other so =
    so_if s.handshake.over s there so
    (subst (λ b. P (with_either now (unmarked b (unique_of c.message)) c.refused it).lines) (sym lacks)
    (incoming_apart u P kept now c.refused it
    (of_apart s.handshake.agreed u (incoming_by c.message (said_to s.rules.whole c.message)) c.message
    (to_apart (not s.rules.whole && is_for_whole c.message) u c.message (said c.message)
    (said_apart (is_batch c.message) u c.message (asked (kind_of_opcode (opcode_of c.message)) c.message) other)))
    so))
  where
    now : Session
    now = record s { handshake = advanced s.handshake c.message }

    it : Incoming
    it = incoming_of s.rules.whole s.handshake c.message

    there : Session
    there = with_either now (unmarked s.resends (unique_of c.message)) c.refused it

    so_if : (over : Bool) (s t : Session) → P s.lines → P t.lines → P (if over then s else t).lines
    so_if true s t first second = first
    so_if false s t first second = second

-- ---- all of them

pub still_own : Settles → (heard : List Line) (s : Session) (c : Came) (came : List Came) → s.resends ≡ false
    → AllByRecursion (λ (d : Came). unique_of d.message ≢ unique_of c.message) came → HaveOwnUniques (heard ++ s.lines) came
    → HaveOwnUniques (heard ++ (with_message s c).lines) came
still_own settles heard s c [] lacks others own = tt
still_own settles heard s c (d ∷ came) lacks others own = (
  message_apart (unique_of d.message) (λ lines. HaveNothing (unique_of d.message) (heard ++ lines))
      (order_apart settles (unique_of d.message) heard) s c lacks (λ same. others.0 (sym same)) own.0,
  own.1,
  still_own settles heard s c came lacks others.1 own.2,
)

pub own_new : Settles → (s : Session) (came marked : List Came) → s.resends ≡ false
    → HaveOwnUniques (s.heard ++ s.lines) came → AreMarked came marked → AreNew s came marked
own_new settles s [] [] lacks own same = tt
own_new settles s [] (m ∷ marked) lacks own same = same
own_new settles s (c ∷ came) [] lacks own same = same
own_new settles s (c ∷ came) (m ∷ marked) lacks own same = (
  same.0,
  same.1,
  nothing_unknown s (unique_of c.message) own.0,
  own_new settles (with_message s c) came marked ((by_message s c).resends ∙ lacks)
      (subst (λ h. HaveOwnUniques (h ++ (with_message s c).lines) came) (sym (by_message s c).heard)
      (still_own settles s.heard s c came lacks own.1 own.2)) same.2,
)
