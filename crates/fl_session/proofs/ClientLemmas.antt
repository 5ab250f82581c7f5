-- A client that sends messages again: the next session has those that the first took, and the others are new to it.
use Rattle.std.proofs.Common.{◌≡◌, ℕ, zero, suc, ◌+◌, ◌-◌, ◌≤◌, Bool, true, false, ◌||◌, List, [], ◌∷◌, ◌++◌, length, drop, take, map}
use Rattle.std.proofs.Common.{refl, sym, ap, subst, ◌∙◌, append_assoc, arith, inl, inr, ⊎_elim}
use Rattle.std.specs.Prelude.{Contains, fold, ◌&&◌, not, if◌then◌else◌, ◌==◌, ◌≢◌, Result, Ok, Err, ⊤}
use Rattle.std.specs.List.{AllByRecursion}
use Rattle.std.proofs.lemmas.Bool.{le-leb}
use Rattle.std.proofs.lemmas.Grind.{fold-append}
use Rattle.std.proofs.lemmas.List.{length-map}
use Rattle.std.proofs.lemmas.List.Elements.{Contains-append_cases}
use Rattle.fl_core.specs.Step.{replies_in}
use Rattle.fl_counter.specs.Answered.{step_lines}
use Rattle.fl_desk.specs.Legal.{nothing}
use Rattle.fl_desk.specs.Replay.{state_after}
use Rattle.fl_history.specs.Recent.{recalled, spoken, with_line}
use Rattle.fl_history.specs.declared.history.Line.{Line}
use Rattle.fl_history.specs.declared.history.Line.TheVariants as line
use Rattle.fl_history.specs.declared.recent.Recalled.{Recalled}
use Rattle.fl_history.specs.declared.recent.Recalled.TheVariants as recall
use Rattle.fl_order.specs.OpKind.{kind_of_opcode}
use Rattle.fl_order.specs.declared.errno.Errno.TheVariants.{ENOSYS}
use Rattle.fl_order.specs.declared.order.Op.{Op}
use Rattle.fl_order.specs.declared.order.Order.{Order}
use Rattle.fl_order.specs.declared.refusal.Refusal.{Refusal}
use Rattle.fl_order.specs.declared.refusal.Refusal.TheVariants.{Answer, Silent, Batch, Destroy}
use Rattle.fl_order.specs.declared.told.Told.{Told}
use Rattle.fl_session.proofs.BatchLemmas.{AreKnown, IsForget, IsSound, all_taken, batch_as_one, message_sound, named, session_sound}
use Rattle.fl_session.proofs.KnownLemmas.{asked_said, head_is, or_true, other_said, others_said}
use Rattle.fl_session.proofs.NewLemmas.{AllApart, IsKept, Settles, forgets_apart, message_apart, orders_apart, own_new, still_own}
use Rattle.fl_session.proofs.OnceLemmas.{goes_on_as_one, moved, over_still, plain_met, resends_from}
use Rattle.fl_session.proofs.ParkedLemmas.{counted_free, others_counted}
use Rattle.fl_session.proofs.RecallLemmas.{asks, asks_counted, spoken_said}
use Rattle.fl_session.proofs.RulesLemmas.{by_message, by_orders, heard_from, rules_from}
use Rattle.fl_session.specs.Again.{incoming_under, order_under}
use Rattle.fl_session.specs.AsOne.{AreAsOne, IsCutInside, IsSentAgain, part_of}
use Rattle.fl_session.specs.Client.{AreOnesAgain, HasTaken, IsNear}
use Rattle.fl_session.specs.Known.{AreMarked, HaveNothing, HaveOwnUniques}
use Rattle.fl_session.specs.Once.{AllComeAgain, ComesAgain, SaysTheSame, has_all, is_had, orders_in, resumed, under_way}
use Rattle.fl_session.specs.Session.{Came, Session, opening_session, recalled_in, session_from, session_of, with_incoming}
use Rattle.fl_session.specs.Session.{with_message, with_order, with_orders}
use Rattle.fl_transport.specs.Handshake.{advanced, incoming_by, said_to, says_destroy}
use Rattle.fl_transport.specs.declared.handshake.Incoming.{Incoming}
use Rattle.fl_transport.specs.declared.handshake.Incoming.TheVariants as incoming
use Rattle.fl_transport.specs.declared.response.Response.{Response}
use Rattle.fl_waiting.specs.Waiting.{is_parked}
use Rattle.fl_waiting.specs.declared.rules.Rules.{Rules}
use Rattle.fl_wire.specs.Batch.{forget_at, forgets_in, is_batch}
use Rattle.fl_wire.specs.Layout.{opcode_of, unique_of}
use Rattle.fl_wire.specs.Says.{asked, order_of, said}
use Rattle.fl_wire.specs.Whole.{is_for_whole}

-- ---- lines have the orders of a unique

-- lines have a reply to this unique, or so many orders of it
abbrev HasAll : ℕ → ℕ → List Line → Type 0
HasAll u count lines = has_all (recalled u lines) count ≡ true

tolds_keep : (u count : ℕ) (before : Recalled) (tolds : List Told) → has_all before count ≡ true
    → has_all (fold (with_line u) before (map (λ told. line.Told told) tolds)) count ≡ true
tolds_keep u count before [] e = e
tolds_keep u count before (t ∷ tolds) e = tolds_keep u count (with_line u before (line.Told t)) tolds (by (t.unique == u))
  where
    by : (is : Bool) → has_all (if is then recall.Told t else before) count ≡ true
    by true = refl
    by false = e

all_kept : (u count : ℕ) → IsKept u (HasAll u count)
all_kept u count s true order other e = e
all_kept u count s false order other e =
    let tolds : List Told = replies_in (state_after s.rules s.lines) order in
    ap (λ r. has_all r count) (fold-append (with_line u) (recall.Asked 0) s.lines (step_lines 0 order tolds))
    ∙ tolds_keep u count (with_line u (recalled u s.lines) (line.Asked 0 order)) tolds
    (ap (λ r. has_all r count) (other_said u (recalled u s.lines) (line.Asked 0 order) other) ∙ e)

order_has : (u : ℕ) (s : Session) (order : Order) → order.unique ≡ u → HaveNothing u s.lines
    → HasAll u 1 (with_order s false order).lines
order_has u s order named none =
    let tolds : List Told = replies_in (state_after s.rules s.lines) order in
    ap (λ r. has_all r 1) (fold-append (with_line u) (recall.Asked 0) s.lines (step_lines 0 order tolds))
    ∙ tolds_keep u 1 (with_line u (recalled u s.lines) (line.Asked 0 order)) tolds
    (ap (λ r. has_all (with_line u r (line.Asked 0 order)) 1) (others_said u (recall.Asked 0) s.lines none)
    ∙ ap (λ r. has_all r 1) (asked_said u 0 order named))

batch_has : AreKnown → (u : ℕ) (s : Session) (orders : List Order) → IsSound s → HaveNothing u s.lines
    → AllByRecursion (IsForget u) orders → HasAll u (length orders) (with_orders s orders []).lines
batch_has laws u s orders sound none all =
    let taken = all_taken laws u s orders sound (counted_free u s.rules s.lines (others_counted u 0 s.lines none)) all in
    ap (λ l. has_all (recalled u l) (length orders)) taken.lines
    ∙ ap (λ r. has_all r (length orders)) (fold-append (with_line u) (recall.Asked 0) s.lines (asks orders)
    ∙ ap (λ b. fold (with_line u) b (asks orders)) (others_said u (recall.Asked 0) s.lines none)
    ∙ asks_counted u 0 orders (named u orders all))
    ∙ le-leb (length orders) (0 + length orders) (omega arith)

has_none : (r : Recalled) → has_all r 0 ≡ true
has_none (recall.Told told) = refl
has_none (recall.Asked count) = le-leb 0 count (omega arith)

-- ---- orders of which none is refused

order_refused : (s : Session) (refused : Bool) (order : Order) → s.refused ≡ true
    → (with_order s refused order).refused ≡ true
order_refused s true order e = refl
order_refused s false order e = e

orders_refused : (s : Session) (orders : List Order) (refused : List Bool) → s.refused ≡ true
    → (with_orders s orders refused).refused ≡ true
orders_refused s [] refused e = e
orders_refused s (o ∷ orders) [] e = orders_refused (with_order s false o) orders [] (order_refused s false o e)
orders_refused s (o ∷ orders) (first ∷ refused) e =
    orders_refused (with_order s first o) orders refused (order_refused s first o e)

incoming_refused : (s : Session) (refused : List Bool) (it : Incoming) → s.refused ≡ true
    → (with_incoming s refused it).refused ≡ true
incoming_refused s refused (incoming.Order order) e = orders_refused s (order ∷ []) refused e
incoming_refused s refused (incoming.Batch orders) e = orders_refused s orders refused e
incoming_refused s refused (incoming.Response response) e = e

pub none_refused : (s : Session) (orders : List Order) (refused : List Bool) → (with_orders s orders refused).refused ≡ false
    → with_orders s orders refused ≡ with_orders s orders []
none_refused s [] refused e = refl
none_refused s (o ∷ orders) [] e = refl
none_refused s (o ∷ orders) (true ∷ refused) e =
    let both : true ≡ false = sym (orders_refused (with_order s true o) orders refused refl) ∙ e in absurd (cc both)
none_refused s (o ∷ orders) (false ∷ refused) e = none_refused (with_order s false o) orders refused e

-- ---- the orders of a message have its unique

abbrev pub AreOf : ℕ → Incoming → Type 0
AreOf u (incoming.Order order) = order.unique ≡ u
AreOf u (incoming.Batch orders) = AllByRecursion (IsForget u) orders
AreOf u (incoming.Response response) = ⊤

forgets_are : (message pairs : List ℕ) → AllByRecursion (IsForget (unique_of message)) (map (forget_at message) pairs)
forgets_are message [] = tt
forgets_are message (i ∷ pairs) = ((_, refl), forgets_are message pairs)

order_of_is : (message : List ℕ) (op : Result Op Refusal)
    → AreOf (unique_of message) (incoming_by message (order_of message op))
order_of_is message (Ok op) = refl
order_of_is message (Err (Answer e)) = tt
order_of_is message (Err Silent) = tt
order_of_is message (Err Batch) = forgets_are message _
order_of_is message (Err Destroy) = tt

said_is : (batch : Bool) (message : List ℕ) (op : Result Op Refusal)
    → AreOf (unique_of message) (incoming_by message (if batch then Err Batch else order_of message op))
said_is true message op = forgets_are message _
said_is false message op = order_of_is message op

to_is : (unknown : Bool) (message : List ℕ) (says : Result Order Refusal)
    → AreOf (unique_of message) (incoming_by message says)
    → AreOf (unique_of message) (incoming_by message (if unknown then Err (Answer ENOSYS) else says))
to_is true message says are = tt
to_is false message says are = are

pub orders_are : (whole : Bool) (message : List ℕ) → AreOf (unique_of message) (incoming_by message (said_to whole message))
orders_are whole message =
    to_is (not whole && is_for_whole message) message (said message)
    (said_is (is_batch message) message (asked (kind_of_opcode (opcode_of message)) message))

-- how many orders a message is to a session that is whole or isn't
abbrev pub how_many : Bool → List ℕ → ℕ
how_many whole message = length (orders_in (incoming_by message (said_to whole message)))

incoming_has : AreKnown → (u : ℕ) (s : Session) (refused : List Bool) (it : Incoming) → IsSound s → HaveNothing u s.lines
    → AreOf u it → (with_incoming s refused it).refused ≡ false
    → HasAll u (length (orders_in it)) (with_incoming s refused it).lines
incoming_has laws u s refused (incoming.Order order) sound none are e =
    subst (λ (t : Session). HasAll u 1 t.lines) (sym (none_refused s (order ∷ []) refused e)) (order_has u s order are none)
incoming_has laws u s refused (incoming.Batch orders) sound none are e =
    subst (λ (t : Session). HasAll u (length orders) t.lines) (sym (none_refused s orders refused e))
    (batch_has laws u s orders sound none are)
incoming_has laws u s refused (incoming.Response response) sound none are e = has_none (recalled u s.lines)

-- ---- a message of a session that stays under way

message_has : AreKnown → (s : Session) (c : Came) → s.resends ≡ false → s.handshake ≡ under_way → IsSound s
    → HaveNothing (unique_of c.message) s.lines → (with_message s c).refused ≡ false
    → HasAll (unique_of c.message) (how_many s.rules.whole c.message) (with_message s c).lines
message_has laws s c lacks far sound none e =
    let it : Incoming = incoming_by c.message (said_to s.rules.whole c.message) in
    let is = plain_met s c lacks far in
    subst (λ (t : Session). HasAll (unique_of c.message) (length (orders_in it)) t.lines) (sym is)
    (incoming_has laws (unique_of c.message) (record s { handshake = moved c.message }) c.refused it sound none
    (orders_are s.rules.whole c.message)
    (ap (λ (t : Session). t.refused) (sym is) ∙ e))

over_on : (s : Session) (came : List Came) → s.handshake.over ≡ true → (session_from s came).handshake.over ≡ true
over_on s [] e = e
over_on s (c ∷ came) e =
    ap (λ (t : Session). (session_from t came).handshake.over) (over_still s c e) ∙ over_on s came e

-- a message doesn't end the session
record GoesOn (s : Session) (c : Came) : Type 0 where
  stays : says_destroy (said c.message) ≡ false
  far : (with_message s c).handshake ≡ under_way

goes_on : (s : Session) (c : Came) (came : List Came) → s.handshake ≡ under_way
    → (session_from s (c ∷ came)).handshake ≡ under_way → GoesOn s c
goes_on s c came far end = by (says_destroy (said c.message)) refl
  where
    here : (with_message s c).handshake ≡ moved c.message
    here = (by_message s c).handshake ∙ ap (λ h. advanced h c.message) far

    by : (ends : Bool) → says_destroy (said c.message) ≡ ends → GoesOn s c
    by true e =
        let over : (with_message s c).handshake.over ≡ true = ap (λ h. h.over) here ∙ e in
        let both : true ≡ false = sym (over_on (with_message s c) came over) ∙ ap (λ h. h.over) end in
        absurd (cc both)
    by false e = record { stays = e; far = here ∙ ap (λ over. record { agreed = true; over = over }) e }

session_refused : (s : Session) (came : List Came) → s.resends ≡ false → s.handshake ≡ under_way
    → (session_from s came).handshake ≡ under_way → s.refused ≡ true → (session_from s came).refused ≡ true
session_refused s [] lacks far end e = e
session_refused s (c ∷ came) lacks far end e =
    session_refused (with_message s c) came ((by_message s c).resends ∙ lacks) (goes_on s c came far end).far end
    (ap (λ (t : Session). t.refused) (plain_met s c lacks far)
    ∙ incoming_refused (record s { handshake = moved c.message }) c.refused
    (incoming_by c.message (said_to s.rules.whole c.message)) e)

none_before : (s : Session) (came : List Came) → s.resends ≡ false → s.handshake ≡ under_way
    → (session_from s came).handshake ≡ under_way → (session_from s came).refused ≡ false → s.refused ≡ false
none_before s came lacks far end e = by s.refused refl
  where
    by : (refused : Bool) → s.refused ≡ refused → s.refused ≡ false
    by true is = let both : true ≡ false = sym (session_refused s came lacks far end is) ∙ e in absurd (cc both)
    by false is = is

-- ---- messages that a session took

session_kept : (u : ℕ) (P : List Line → Type 0) → IsKept u P → (s : Session) (came : List Came) → s.resends ≡ false
    → AllByRecursion (λ (d : Came). unique_of d.message ≢ u) came → P s.lines → P (session_from s came).lines
session_kept u P kept s [] lacks others so = so
session_kept u P kept s (c ∷ came) lacks others so =
    session_kept u P kept (with_message s c) came ((by_message s c).resends ∙ lacks) others.1
    (message_apart u P kept s c lacks others.0 so)

-- What is so of the lines once this message is taken as a new one, of which no order is refused, by a session that is
-- whole or isn't.
abbrev pub IsSoOf : Bool → Came → (List Line → Type 0) → Type 0
IsSoOf whole c P =
    (t : Session) → t.rules.whole ≡ whole → t.resends ≡ false → t.handshake ≡ under_way → IsSound t → HaveNothing (unique_of c.message) t.lines
    → (with_message t c).refused ≡ false → P (with_message t c).lines

-- a message ends no session, and this is so of lines
pub record IsStill (c : Came) (P : List Line → Type 0) (lines : List Line) : Type 0 where
  pub stays : says_destroy (said c.message) ≡ false
  pub so : P lines

pub still_so : Settles → (whole : Bool) (s : Session) (taken : List Came) (c : Came) (P : List Line → Type 0)
    → s.rules.whole ≡ whole → s.resends ≡ false → s.handshake ≡ under_way → IsSound s → HaveOwnUniques s.lines taken → (session_from s taken).handshake ≡ under_way
    → (session_from s taken).refused ≡ false → Contains taken c → IsKept (unique_of c.message) P → IsSoOf whole c P
    → IsStill c P (session_from s taken).lines
still_so settles whole s [] c P same lacks far sound own end e came kept first = absurd (let lt = came.1 in omega (arith, lt))
still_so settles whole s (d ∷ taken) c P same lacks far sound own end e came kept first =
    ⊎_elim (λ head. here (sym (head_is d c head)))
    (λ tail. still_so settles whole now taken c P (ap (λ (r : Rules). r.whole) (by_message s d).rules ∙ same) still on.far (message_sound s d sound)
    (still_own settles [] s d taken lacks own.1 own.2) end e tail kept first)
    (Contains-append_cases (d ∷ []) taken c came)
  where
    now : Session
    now = with_message s d

    still : now.resends ≡ false
    still = (by_message s d).resends ∙ lacks

    on : GoesOn s d
    on = goes_on s d taken far end

    here : d ≡ c → IsStill c P (session_from now taken).lines
    here is =
        let u : unique_of d.message ≡ unique_of c.message = ap (λ (x : Came). unique_of x.message) is in
        let T : ℕ → Type 0 = λ n. AllByRecursion (λ (other : Came). unique_of other.message ≢ n) taken in
        record {
          stays = ap (λ (x : Came). says_destroy (said x.message)) (sym is) ∙ on.stays;
          so = session_kept (unique_of c.message) P kept now taken still (subst T u own.1)
              (subst (λ (x : Came). P (with_message s x).lines) (sym is) (first s same lacks far sound
              (subst (λ n. HaveNothing n s.lines) u own.0)
              (ap (λ (x : Came). (with_message s x).refused) (sym is) ∙ none_before now taken still on.far end e)));
        }

-- a message ends no session, and lines have its orders
abbrev HasOrders : Session → Came → Type 0
HasOrders s c =
    IsStill c (HasAll (unique_of c.message) (how_many s.rules.whole c.message)) s.lines

each_had : AreKnown → Settles → (s : Session) (taken : List Came) (c : Came) → s.resends ≡ false
    → s.handshake ≡ under_way → IsSound s → HaveOwnUniques s.lines taken → (session_from s taken).handshake ≡ under_way
    → (session_from s taken).refused ≡ false → Contains taken c → HasOrders (session_from s taken) c
each_had laws settles s taken c lacks far sound own end e came =
    let u : ℕ = unique_of c.message in
    let whole : Bool = (session_from s taken).rules.whole in
    let count : ℕ = how_many whole c.message in
    still_so settles whole s taken c (HasAll u count) (ap (λ (r : Rules). r.whole) (sym (rules_from s taken))) lacks far sound
    own end e came (all_kept u count)
    (λ t same lacks far sound none e. subst (λ w. HasAll u (how_many w c.message) (with_message t c).lines) same
    (message_has laws t c lacks far sound none e))

-- ---- a message comes again

under_long : (u : ℕ) (it : Incoming) → length (orders_in (incoming_under u it)) ≡ length (orders_in it)
under_long u (incoming.Order order) = refl
under_long u (incoming.Batch orders) = length-map orders (order_under u)
under_long u (incoming.Response response) = refl

-- with its mark it has as many orders as without
as_many : (whole : Bool) (message marked : List ℕ) → SaysTheSame message marked
    → how_many whole marked ≡ how_many whole message
as_many whole message marked same =
    sym (under_long (unique_of message) (incoming_by marked (said_to whole marked)))
    ∙ ap (λ it. length (orders_in it)) (same.says whole)

near_had : (s : Session) (u count : ℕ) → s.heard ≡ [] → IsNear s u → HasAll u count s.lines → is_had s u count ≡ true
near_had s u count none (inl waits) e = ap (λ b. b || has_all (recalled_in s u) count) waits
near_had s u count none (inr same) e =
    let waits : Bool = is_parked u (state_after s.rules s.lines).view.parked in
    ap (λ r. waits || has_all r count) (same ∙ ap (λ h. recalled u (h ++ s.lines)) none) ∙ ap (λ b. waits || b) e ∙ or_true waits

comes_again : (s : Session) (c : Came) (marked : List ℕ) → s.heard ≡ [] → SaysTheSame c.message marked → HasOrders s c
    → IsNear s (unique_of c.message) → ComesAgain s marked
comes_again s c marked none same orders near = record {
  unique = unique_of c.message;
  marked = same.mark;
  stays = same.ends ∙ orders.stays;
  had = ap (is_had s (unique_of c.message)) (as_many s.rules.whole c.message marked same)
      ∙ near_had s (unique_of c.message) (how_many s.rules.whole c.message) none near orders.so;
}

pub own_comes : (s : Session) (message marked : List ℕ) (response : Response) → SaysTheSame message marked
    → incoming_by message (said_to s.rules.whole message) ≡ incoming.Response response → says_destroy (said message) ≡ false
    → ComesAgain s marked
own_comes s message marked response same own stays =
    let u : ℕ = unique_of message in
    let waits : Bool = is_parked u (state_after s.rules s.lines).view.parked in
    record {
      unique = u;
      marked = same.mark;
      stays = same.ends ∙ stays;
      had = ap (is_had s u) (as_many s.rules.whole message marked same ∙ ap (λ it. length (orders_in it)) own)
          ∙ ap (λ b. waits || b) (has_none (recalled_in s u)) ∙ or_true waits;
    }

-- all orders and replies of a short session are among the last
pub near_short : (s : Session) (u : ℕ) → length (spoken (s.heard ++ s.lines)) ≤ 65536 → IsNear s u
near_short s u short =
    let all : List Line = s.heard ++ s.lines in
    let none : length (spoken all) - 65536 ≡ 0 = omega (arith, short) in
    inr (ap (λ n. recalled u (drop n (spoken all))) none ∙ spoken_said u (recall.Asked 0) all)

-- ---- a session that heard nothing before its lines

pub none_heard : (rules : Rules) (came : List Came) → (session_of rules came).heard ≡ []
none_heard rules came = heard_from (opening_session rules) came

-- a client's uniques are its own if none of its lines has one
pub own_alone : (s : Session) (came : List Came) → s.heard ≡ [] → HaveOwnUniques (s.heard ++ s.lines) came
    → HaveOwnUniques s.lines came
own_alone s came none own = subst (λ h. HaveOwnUniques (h ++ s.lines) came) none own

own_of : (s : Session) (came : List Came) → s.heard ≡ [] → HaveOwnUniques s.lines came
    → HaveOwnUniques (s.heard ++ s.lines) came
own_of s came none own = subst (λ h. HaveOwnUniques (h ++ s.lines) came) (sym none) own

-- ---- what the client sends

all_front : {X : Type 0} (P : X → Type 0) (xs ys : List X) → AllByRecursion P (xs ++ ys) → AllByRecursion P xs
all_front P [] ys all = tt
all_front P (x ∷ xs) ys all = (all.0, all_front P xs ys all.1)

pub own_front : (lines : List Line) (taken unread : List Came) → HaveOwnUniques lines (taken ++ unread)
    → HaveOwnUniques lines taken
own_front lines [] unread own = tt
own_front lines (c ∷ taken) unread own = (
  own.0,
  all_front (λ (other : Came). unique_of other.message ≢ unique_of c.message) taken unread own.1,
  own_front lines taken unread own.2,
)

own_later : Settles → (s : Session) (taken unread : List Came) → s.resends ≡ false
    → HaveOwnUniques s.lines (taken ++ unread) → HaveOwnUniques (session_from s taken).lines unread
own_later settles s [] unread lacks own = own
own_later settles s (c ∷ taken) unread lacks own =
    own_later settles (with_message s c) taken unread ((by_message s c).resends ∙ lacks)
    (still_own settles [] s c (taken ++ unread) lacks own.1 own.2)

each_again : (s : Session) (taken again : List Came) → s.heard ≡ [] → ((c : Came) → Contains taken c → HasOrders s c)
    → AreOnesAgain s taken again → AllComeAgain s again
each_again s taken [] none had all = tt
each_again s taken (m ∷ again) none had all = (
  comes_again s all.0.came m.message none all.0.same (had all.0.came all.0.is) all.0.near,
  each_again s taken again none had all.1,
)

taken_had : AreKnown → Settles → (rules : Rules) (early taken unread : List Came)
    → HasTaken (session_of rules early) taken unread → (c : Came) → Contains taken c
    → HasOrders (session_from (session_of rules early) taken) c
taken_had laws settles rules early taken unread has c =
    let s : Session = session_of rules early in
    each_had laws settles s taken c (resends_from (opening_session rules) early) has.began
    (session_sound (opening_session rules) early nothing)
    (own_front s.lines taken unread (own_alone s (taken ++ unread) (none_heard rules early) has.own)) has.far has.unrefused

pub client_as_one : AreKnown → Settles → (rules : Rules) (early taken again unread marked : List Came)
    → HasTaken (session_of rules early) taken unread → AreOnesAgain (session_of rules (early ++ taken)) taken again
    → AreMarked unread marked
    → AreAsOne (session_of rules (early ++ taken)) (session_from (resumed (session_of rules (early ++ taken))) (again ++ marked))
    (session_of rules (early ++ (taken ++ unread))) again
client_as_one laws settles rules early taken again unread marked has ones new =
    let s : Session = session_of rules early in
    let first : Session = session_of rules (early ++ taken) in
    let joined : first ≡ session_from s taken = fold-append with_message (opening_session rules) early taken in
    let lacks : s.resends ≡ false = resends_from (opening_session rules) early in
    let none : (session_from s taken).heard ≡ [] = heard_from s taken ∙ none_heard rules early in
    subst (λ came. AreAsOne first (session_from (resumed first) (again ++ marked)) (session_of rules came) again)
    (append_assoc early taken unread)
    (goes_on_as_one rules (early ++ taken) again unread marked
    (subst (λ t. IsSentAgain t again unread marked) (sym joined) (record {
      far = has.far;
      had = each_again (session_from s taken) taken again none (taken_had laws settles rules early taken unread has)
          (subst (λ t. AreOnesAgain t taken again) joined ones);
      new = own_new settles (session_from s taken) unread marked (resends_from s taken ∙ lacks)
          (own_of (session_from s taken) unread none
          (own_later settles s taken unread lacks (own_alone s (taken ++ unread) (none_heard rules early) has.own))) new;
    })))

-- ---- a cut inside a batch

all_back : {X : Type 0} (P : X → Type 0) (xs ys : List X) → AllByRecursion P (xs ++ ys) → AllByRecursion P ys
all_back P [] ys all = all
all_back P (x ∷ xs) ys all = all_back P xs ys all.1

all_first : {X : Type 0} (P : X → Type 0) (n : ℕ) (xs : List X) → AllByRecursion P xs → AllByRecursion P (take n xs)
all_first P zero xs all = tt
all_first P (suc n) [] all = tt
all_first P (suc n) (x ∷ xs) all = (all.0, all_first P n xs all.1)

-- a message that comes later has another unique
own_apart : (lines : List Line) (taken : List Came) (c d : Came) (unread : List Came)
    → HaveOwnUniques lines (taken ++ d ∷ unread) → Contains taken c → unique_of d.message ≢ unique_of c.message
own_apart lines [] c d unread own came = absurd (let lt = came.1 in omega (arith, lt))
own_apart lines (x ∷ taken) c d unread own came =
    ⊎_elim (λ head. subst (λ (y : Came). unique_of d.message ≢ unique_of y.message) (sym (head_is x c head))
    (all_back (λ (other : Came). unique_of other.message ≢ unique_of x.message) taken (d ∷ unread) own.1).0)
    (λ tail. own_apart lines taken c d unread own.2 tail)
    (Contains-append_cases (x ∷ []) taken c came)

pub client_as_one_inside : AreKnown → Settles → (rules : Rules) (early taken again unread marked : List Came)
    (batch same : Came) (count : ℕ) → HasTaken (session_of rules early) taken (batch ∷ unread)
    → IsCutInside (session_of rules (early ++ taken)) count batch same
    → AreOnesAgain (part_of (session_of rules (early ++ taken)) batch.message count) taken again → AreMarked unread marked
    → AreAsOne (part_of (session_of rules (early ++ taken)) batch.message count)
    (session_from (resumed (part_of (session_of rules (early ++ taken)) batch.message count)) (again ++ same ∷ marked))
    (session_of rules (early ++ (taken ++ batch ∷ unread))) again
client_as_one_inside laws settles rules early taken again unread marked batch same count has cut ones new =
    subst (λ came. AreAsOne part (session_from (resumed part) (again ++ same ∷ marked)) (session_of rules came) again)
    (append_assoc early taken (batch ∷ unread))
    (batch_as_one laws rules (early ++ taken) again unread marked batch same count (ap (λ t. t.handshake) joined ∙ has.far) cut
    (each_again part taken again ((by_orders first (take count (forgets_in batch.message)) []).heard ∙ none) had ones)
    (own_new settles (with_message first batch) unread marked ((by_message first batch).resends ∙ lacks)
    (own_of (with_message first batch) unread ((by_message first batch).heard ∙ none)
    (still_own settles [] first batch unread lacks later.1 later.2)) new))
  where
    s : Session
    s = session_of rules early

    first : Session
    first = session_of rules (early ++ taken)

    part : Session
    part = part_of first batch.message count

    joined : first ≡ session_from s taken
    joined = fold-append with_message (opening_session rules) early taken

    lacks : first.resends ≡ false
    lacks = resends_from (opening_session rules) (early ++ taken)

    none : first.heard ≡ []
    none = none_heard rules (early ++ taken)

    own : HaveOwnUniques s.lines (taken ++ batch ∷ unread)
    own = own_alone s (taken ++ batch ∷ unread) (none_heard rules early) has.own

    later : HaveOwnUniques first.lines (batch ∷ unread)
    later = subst (λ (t : Session). HaveOwnUniques t.lines (batch ∷ unread)) (sym joined)
        (own_later settles s taken (batch ∷ unread) (resends_from (opening_session rules) early) own)

    had : (c : Came) → Contains taken c → HasOrders part c
    had c came =
        let u : ℕ = unique_of c.message in
        let n : ℕ = how_many first.rules.whole c.message in
        let still : part.rules ≡ first.rules = (by_orders first (take count (forgets_in batch.message)) []).rules in
        let before : HasOrders first c =
        subst (λ t. HasOrders t c) (sym joined) (taken_had laws settles rules early taken (batch ∷ unread) has c came) in
        let apart : AllApart u (take count (forgets_in batch.message)) =
        all_first (λ (o : Order). o.unique ≢ u) count (forgets_in batch.message)
        (forgets_apart u batch.message _ (own_apart s.lines taken c batch unread own came)) in
        record {
          stays = before.stays;
          so = subst (λ (r : Rules). HasAll u (how_many r.whole c.message) part.lines) (sym still)
              (orders_apart u (HasAll u n) (all_kept u n) first (take count (forgets_in batch.message)) [] apart before.so);
        }
