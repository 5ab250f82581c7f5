-- A session that was cut off inside a batch.
use Rattle.std.proofs.Common.{◌≡◌, ℕ, zero, suc, ◌+◌, ◌≤◌, Bool, true, false, List, [], ◌∷◌, ◌++◌, length, drop, take, map, Option, None, Some}
use Rattle.std.proofs.Common.{refl, sym, ap, ◌∙◌, append_assoc, append-nil, arith}
use Rattle.std.specs.Prelude.{if◌then◌else◌}
use Rattle.std.specs.List.{AllByRecursion}
use Rattle.std.proofs.Math.Seq.{drop-nil}
use Rattle.std.proofs.lemmas.Grind.{fold-append}
use Rattle.fl_core.specs.Effects.{at_once, made, recorded, replied}
use Rattle.fl_core.specs.Replies.{first_told}
use Rattle.fl_core.specs.Settling.{Present, present, settled}
use Rattle.fl_core.specs.State.{Snapshot, View, snapshot_of}
use Rattle.fl_core.specs.Step.{replies, replies_in, settling}
use Rattle.fl_desk.specs.Leading.{LeadsTo}
use Rattle.fl_counter.specs.Answered.{step_lines}
use Rattle.fl_desk.specs.Legal.{IsLegal, nothing, step}
use Rattle.fl_desk.specs.Replay.{AllOthers, all_later, state_after}
use Rattle.fl_history.specs.Recent.{recalled, recent}
use Rattle.fl_history.specs.declared.history.Line.{Line}
use Rattle.fl_history.specs.declared.history.Line.TheVariants as line
use Rattle.fl_history.specs.declared.recent.Recalled.{Recalled}
use Rattle.fl_history.specs.declared.recent.Recalled.TheVariants as recall
use Rattle.fl_order.specs.declared.order.Op.TheVariants.{Forget}
use Rattle.fl_order.specs.declared.order.Order.{Order}
use Rattle.fl_order.specs.declared.told.Told.{Told}
use Rattle.fl_session.proofs.OnceLemmas.{GoAlike, again_alike, agrees_on, all_new, as_one, goes_by, marked_met, moved, moved_alike, orders_go, plain_met, resends_from}
use Rattle.fl_session.proofs.RecallLemmas.{asks, asks_recalled}
use Rattle.fl_session.proofs.RulesLemmas.{by_message}
use Rattle.fl_session.specs.Again.{incoming_under, unmarked}
use Rattle.fl_session.specs.AsOne.{AreAsOne, IsCutInside, NoneRefused, part_of, replies_again}
use Rattle.fl_session.specs.Once.{AllComeAgain, AreNew, resumed, under_way}
use Rattle.fl_session.specs.Session.{Came, Session, opening_session, recalled_in, session_from, session_of, with_again, with_either, with_incoming}
use Rattle.fl_session.specs.Session.{with_message, with_order, with_orders, with_recalled}
use Rattle.fl_transport.specs.Handshake.{advanced, incoming_by, incoming_of, said_to}
use Rattle.fl_transport.specs.declared.handshake.Handshake.{Handshake}
use Rattle.fl_transport.specs.declared.handshake.Incoming.{Incoming}
use Rattle.fl_transport.specs.declared.handshake.Incoming.TheVariants as incoming
use Rattle.fl_waiting.specs.Waiting.{AllWait, is_parked}
use Rattle.fl_waiting.specs.declared.rules.Rules.{Rules}
use Rattle.fl_wire.specs.Batch.{forget_at, forgets_in}
use Rattle.fl_wire.specs.Layout.{unique_of}

-- what is known of the lock directory and of histories
pub record AreKnown : Type 0 where
  pub quiet : (rules : Rules) (s : Present) → AllWait rules s.marking s.parked → (settled rules s).tolds ≡ []
  pub leads : (rules : Rules) (lines : List Line) → IsLegal rules lines → LeadsTo lines (snapshot_of (state_after rules lines))
  pub none : (rules : Rules) (lines : List Line) (worker : ℕ) (order : Order) (tolds : List Told) → AllOthers order.unique tolds
      → state_after rules (lines ++ step_lines worker order tolds)
      ≡ all_later tolds (recorded (at_once order None) (state_after rules lines))

-- ---- the lines of a session are legal

abbrev pub IsSound : Session → Type 0
IsSound s = IsLegal s.rules s.lines

pub order_sound : (s : Session) (refused : Bool) (order : Order) → IsSound s → IsSound (with_order s refused order)
order_sound s true order sound = sound
order_sound s false order sound = step s.lines 0 order sound refl

orders_sound : (s : Session) (orders : List Order) (refused : List Bool) → IsSound s → IsSound (with_orders s orders refused)
orders_sound s [] refused sound = sound
orders_sound s (order ∷ orders) [] sound = orders_sound (with_order s false order) orders [] (order_sound s false order sound)
orders_sound s (order ∷ orders) (first ∷ refused) sound =
    orders_sound (with_order s first order) orders refused (order_sound s first order sound)

incoming_sound : (s : Session) (refused : List Bool) (it : Incoming) → IsSound s → IsSound (with_incoming s refused it)
incoming_sound s refused (incoming.Order order) sound = orders_sound s (order ∷ []) refused sound
incoming_sound s refused (incoming.Batch orders) sound = orders_sound s orders refused sound
incoming_sound s refused (incoming.Response response) sound = sound

recalled_sound : (waits : Bool) (s : Session) (found : Recalled) (orders : List Order) (refused : List Bool) → IsSound s
    → IsSound (if waits then s else with_recalled s found orders refused)
recalled_sound true s found orders refused sound = sound
recalled_sound false s (recall.Told told) orders refused sound = sound
recalled_sound false s (recall.Asked count) orders refused sound = orders_sound s (drop count orders) refused sound

again_sound : (s : Session) (unique : ℕ) (refused : List Bool) (it : Incoming) → IsSound s → IsSound (with_again s unique refused it)
again_sound s unique refused (incoming.Order order) sound =
    recalled_sound (is_parked unique (state_after s.rules s.lines).view.parked) s (recalled_in s unique) (order ∷ [])
    refused sound
again_sound s unique refused (incoming.Batch orders) sound =
    recalled_sound (is_parked unique (state_after s.rules s.lines).view.parked) s (recalled_in s unique) orders refused
    sound
again_sound s unique refused (incoming.Response response) sound = sound

either_sound : (s : Session) (mark : Option ℕ) (refused : List Bool) (it : Incoming) → IsSound s
    → IsSound (with_either s mark refused it)
either_sound s None refused it sound = incoming_sound s refused it sound
either_sound s (Some unique) refused it sound = again_sound s unique refused (incoming_under unique it) sound

sound_if : (over : Bool) (s t : Session) → IsSound s → IsSound t → IsSound (if over then s else t)
sound_if true s t first second = first
sound_if false s t first second = second

pub message_sound : (s : Session) (c : Came) → IsSound s → IsSound (with_message s c)
message_sound s c sound =
    sound_if s.handshake.over s _ sound
    (either_sound (record s { handshake = advanced s.handshake c.message }) (unmarked s.resends (unique_of c.message)) c.refused
    (incoming_of s.rules.whole s.handshake c.message) sound)

pub session_sound : (s : Session) (came : List Came) → IsSound s → IsSound (session_from s came)
session_sound s [] sound = sound
session_sound s (c ∷ came) sound = session_sound (with_message s c) came (message_sound s c sound)

-- ---- a FORGET has no reply, and parks no request

-- it is a FORGET of this unique
abbrev pub IsForget : ℕ → Order → Type 0
IsForget unique order = (n : ℕ) × (order ≡ record order { unique = unique; op = Forget n })

quiet_forget : AreKnown → (p : Snapshot) (order : Order) (unique n : ℕ) → is_parked unique p.view.parked ≡ false
    → AllWait p.rules p.marking p.view.parked → replies p (record order { unique = unique; op = Forget n }) ≡ []
quiet_forget laws p order unique n free wait =
    let o : Order = record order { unique = unique; op = Forget n } in
    let first : first_told p o ≡ [] = rw free refl in
    let later : (settling (made (replied o []) p)).tolds ≡ [] =
    rw free (laws.quiet p.rules (present p.marking p.view.parked) wait) in
    ap (λ tolds. tolds ++ (settling (made (replied o tolds) p)).tolds) first ∙ later

forget_free : (v : View) (order : Order) (unique n : ℕ) → is_parked unique v.parked ≡ false
    → is_parked unique (at_once (record order { unique = unique; op = Forget n }) None v).view.parked ≡ false
forget_free v order unique n free = rw free free

-- ---- the first orders of a batch

-- FORGETs of a unique were taken: each has a line and no reply, and no request of the unique is parked
pub record HasTaken (unique : ℕ) (s : Session) (orders : List Order) (t : Session) : Type 0 where
  pub rules : t.rules ≡ s.rules
  pub heard : t.heard ≡ s.heard
  pub lines : t.lines ≡ s.lines ++ asks orders
  pub free : is_parked unique (state_after t.rules t.lines).view.parked ≡ false

one_taken : AreKnown → (unique : ℕ) (s : Session) (order : Order) → IsSound s
    → is_parked unique (state_after s.rules s.lines).view.parked ≡ false → IsForget unique order
    → HasTaken unique s (order ∷ []) (with_order s false order)
one_taken laws unique s order sound free is =
    let o : Order = record order { unique = unique; op = Forget is.0 } in
    let quiet : replies_in (state_after s.rules s.lines) order ≡ [] =
    ap (λ x. replies_in (state_after s.rules s.lines) x) is.1
    ∙ quiet_forget laws (snapshot_of (state_after s.rules s.lines)) order unique is.0 free (laws.leads s.rules s.lines sound).waiting in
    let lines : (with_order s false order).lines ≡ s.lines ++ line.Asked 0 order ∷ [] =
    ap (λ tolds. s.lines ++ step_lines 0 order tolds) quiet in
    record {
      rules = refl;
      heard = refl;
      lines = lines;
      free = ap (λ l. is_parked unique (state_after s.rules l).view.parked) (lines ∙ ap (λ x. s.lines ++ line.Asked 0 x ∷ []) is.1)
          ∙ ap (λ st. is_parked unique st.view.parked) (laws.none s.rules s.lines 0 o [] tt)
          ∙ forget_free (state_after s.rules s.lines).view order unique is.0 free;
    }

pub all_taken : AreKnown → (unique : ℕ) (s : Session) (orders : List Order) → IsSound s
    → is_parked unique (state_after s.rules s.lines).view.parked ≡ false → AllByRecursion (IsForget unique) orders
    → HasTaken unique s orders (with_orders s orders [])
all_taken laws unique s [] sound free all =
    record { rules = refl; heard = refl; lines = sym (append-nil s.lines); free = free }
all_taken laws unique s (order ∷ orders) sound free all =
    let now : Session = with_order s false order in
    let one = one_taken laws unique s order sound free all.0 in
    let rest = all_taken laws unique now orders (order_sound s false order sound) one.free all.1 in
    record {
      rules = rest.rules ∙ one.rules;
      heard = rest.heard ∙ one.heard;
      lines = rest.lines ∙ ap (λ l. l ++ asks orders) one.lines ∙ append_assoc s.lines (line.Asked 0 order ∷ []) (asks orders);
      free = rest.free;
    }

forgets_taken : (bytes : List ℕ) (n : ℕ) (pairs : List ℕ)
    → AllByRecursion (IsForget (unique_of bytes)) (take n (map (forget_at bytes) pairs))
forgets_taken bytes zero pairs = tt
forgets_taken bytes (suc n) [] = tt
forgets_taken bytes (suc n) (i ∷ pairs) = ((_, refl), forgets_taken bytes n pairs)

pub named : (unique : ℕ) (orders : List Order) → AllByRecursion (IsForget unique) orders
    → AllByRecursion (λ (o : Order). o.unique ≡ unique) orders
named unique [] all = tt
named unique (o ∷ orders) all = (ap (λ x. x.unique) all.0.1, named unique orders all.1)

-- ---- the orders that are left

nothing_refused : (count : ℕ) → NoneRefused (take count [])
nothing_refused zero = tt
nothing_refused (suc count) = tt

split : (s : Session) (orders : List Order) (count : ℕ) (refused : List Bool) → NoneRefused (take count refused)
    → with_orders s orders refused
    ≡ with_orders (with_orders s (take count orders) []) (drop count orders) (drop count refused)
split s [] zero refused none = refl
split s [] (suc count) refused none = refl
split s (o ∷ orders) zero refused none = refl
split s (o ∷ orders) (suc count) [] none =
    let now : Session = with_order s false o in
    split now orders count [] (nothing_refused count)
    ∙ ap (with_orders (with_orders now (take count orders) []) (drop count orders)) (drop-nil count)
split s (o ∷ orders) (suc count) (true ∷ refused) none = absurd (cc none.0)
split s (o ∷ orders) (suc count) (false ∷ refused) none = split (with_order s false o) orders count refused none.1

drop_taken : (orders : List Order) (count : ℕ) → drop (length (take count orders)) orders ≡ drop count orders
drop_taken [] zero = refl
drop_taken [] (suc count) = refl
drop_taken (o ∷ orders) zero = refl
drop_taken (o ∷ orders) (suc count) = drop_taken orders count

few_taken : (orders : List Order) (count : ℕ) → length (take count orders) ≤ count
few_taken [] zero = omega arith
few_taken [] (suc count) = omega arith
few_taken (o ∷ orders) zero = omega arith
few_taken (o ∷ orders) (suc count) = let less = few_taken orders count in omega (arith, less)

order_moved : (s : Session) (handshake : Handshake) (refused : Bool) (order : Order)
    → with_order (record s { handshake = handshake }) refused order ≡ record (with_order s refused order) { handshake = handshake }
order_moved s handshake true order = refl
order_moved s handshake false order = refl

pub orders_moved : (s : Session) (handshake : Handshake) (orders : List Order) (refused : List Bool)
    → with_orders (record s { handshake = handshake }) orders refused
    ≡ record (with_orders s orders refused) { handshake = handshake }
orders_moved s handshake [] refused = refl
orders_moved s handshake (o ∷ orders) [] =
    ap (λ t. with_orders t orders []) (order_moved s handshake false o) ∙ orders_moved (with_order s false o) handshake orders []
orders_moved s handshake (o ∷ orders) (first ∷ refused) =
    ap (λ t. with_orders t orders refused) (order_moved s handshake first o)
    ∙ orders_moved (with_order s first o) handshake orders refused

rest_by : (waits : Bool) (found : Recalled) (s : Session) (count : ℕ) (orders : List Order) (refused : List Bool)
    → waits ≡ false → found ≡ recall.Asked count
    → (if waits then s else with_recalled s found orders refused) ≡ with_orders s (drop count orders) refused
rest_by waits found s count orders refused free some = rw (free, some) refl

-- ---- the batch

batch_goes : AreKnown → (a b : List (List ℕ)) (first now : Session) (count : ℕ) (c m : Came) → first.handshake ≡ under_way
    → now.resends ≡ true → first.resends ≡ false → IsSound first → IsCutInside first count c m
    → GoAlike a b now (part_of first c.message count) → GoAlike a b (with_message now m) (with_message first c)
batch_goes laws a b first now count c m far knows lacks sound cut g =
    let unique : ℕ = unique_of c.message in
    let orders : List Order = forgets_in c.message in
    let had : List Order = take count orders in
    let part : Session = part_of first c.message count in
    let here : part.handshake ≡ under_way = ap (λ t. t.handshake) (orders_moved first first.handshake had []) ∙ far in
    let all : AllByRecursion (IsForget unique) had = forgets_taken c.message count _ in
    let taken = all_taken laws unique first had sound cut.unknown.free all in
    let left : Session = record now { handshake = moved c.message } in
    let right : Session = record first { handshake = moved c.message } in
    let free : is_parked unique (state_after now.rules now.lines).view.parked ≡ false =
    (λ i. is_parked unique (state_after (g.alike.rules i) (g.alike.lines i)).view.parked) ∙ taken.free in
    let heard : now.heard ≡ first.heard = g.alike.heard ∙ taken.heard in
    let lines : now.lines ≡ first.lines ++ asks had = g.alike.lines ∙ taken.lines in
    let some : recalled_in now unique ≡ recall.Asked (length had) =
    (λ i. recalled unique (recent (heard i ++ lines i)))
    ∙ ap (λ l. recalled unique (recent l)) (sym (append_assoc first.heard first.lines (asks had)))
    ∙ asks_recalled unique (first.heard ++ first.lines) had (named unique had all) (le_trans (few_taken orders count) cut.few) cut.unknown.unsaid in
    let it : incoming_by c.message (said_to first.rules.whole c.message) ≡ incoming.Batch orders =
    ap (incoming_by c.message) cut.is_batch in
    goes_by a b (with_message now m) (with_message first c) (with_orders left (drop count orders) m.refused)
    (with_orders (record part { handshake = moved c.message }) (drop count orders) m.refused)
    (marked_met now c m knows (g.alike.handshake ∙ here) cut.same
    ∙ ap (λ (r : Rules). with_again left unique m.refused (incoming_by c.message (said_to r.whole c.message)))
    (g.alike.rules ∙ taken.rules)
    ∙ ap (with_again left unique m.refused) it
    ∙ rest_by (is_parked unique (state_after now.rules now.lines).view.parked) (recalled_in now unique) left
    (length had) orders m.refused free some
    ∙ ap (λ os. with_orders left os m.refused) (drop_taken orders count))
    (plain_met first c lacks far
    ∙ ap (with_incoming right c.refused) it
    ∙ split right orders count c.refused cut.unrefused
    ∙ ap (with_orders (with_orders right had []) (drop count orders)) (sym cut.refused)
    ∙ ap (λ t. with_orders t (drop count orders) m.refused) (orders_moved first (moved c.message) had []))
    (orders_go a b left (record part { handshake = moved c.message }) (drop count orders) m.refused
    (moved_alike a b now part (moved c.message) g))
  where
    le_trans : {x y z : ℕ} → x ≤ y → y ≤ z → x ≤ z
    le_trans first second = omega (arith, first, second)

pub batch_as_one : AreKnown → (rules : Rules) (taken again unread marked : List Came) (c m : Came) (count : ℕ)
    → (session_of rules taken).handshake ≡ under_way → IsCutInside (session_of rules taken) count c m
    → AllComeAgain (part_of (session_of rules taken) c.message count) again
    → AreNew (with_message (session_of rules taken) c) unread marked
    → AreAsOne (part_of (session_of rules taken) c.message count)
    (session_from (resumed (part_of (session_of rules taken) c.message count)) (again ++ m ∷ marked))
    (session_of rules (taken ++ c ∷ unread)) again
batch_as_one laws rules taken again unread marked c m count far cut all new =
    let first : Session = session_of rules taken in
    let part : Session = part_of first c.message count in
    let here : part.handshake ≡ under_way =
    ap (λ t. t.handshake) (orders_moved first first.handshake (take count (forgets_in c.message)) []) ∙ far in
    let now : Session = session_from (resumed part) again in
    let a : List (List ℕ) = replies_again part again in
    let knows : now.resends ≡ true = resends_from (resumed part) again in
    let lacks : first.resends ≡ false = resends_from (opening_session rules) taken in
    let sound : IsSound first = session_sound (opening_session rules) taken nothing in
    let batch = batch_goes laws a part.replies first now count c m far knows lacks sound cut (again_alike part again here all) in
    as_one part (session_from (resumed part) (again ++ m ∷ marked)) (session_of rules (taken ++ c ∷ unread)) again
    (goes_by a part.replies (session_from (resumed part) (again ++ m ∷ marked)) (session_of rules (taken ++ c ∷ unread))
    (session_from (with_message now m) marked) (session_from (with_message first c) unread)
    (fold-append with_message (resumed part) again (m ∷ marked))
    (fold-append with_message (opening_session rules) taken (c ∷ unread))
    (all_new a part.replies (with_message now m) (with_message first c) unread marked
    (agrees_on first c (ap (λ h. h.agreed) far)) ((by_message now m).resends ∙ knows) ((by_message first c).resends ∙ lacks) batch new))

-- ---- a second cut inside it

take_none : (n : ℕ) → ◌≡◌ {A = List Order} (take n []) []
take_none zero = refl
take_none (suc n) = refl

taken_twice : (s : Session) (orders : List Order) (had more both : ℕ) → both ≡ had + more
    → with_orders (with_orders s (take had orders) []) (take more (drop had orders)) [] ≡ with_orders s (take both orders) []
taken_twice s orders zero more both e = ap (λ n. with_orders s (take n orders) []) (omega (arith, e))
taken_twice s [] (suc had) more both e =
    ap (λ os. with_orders s os []) (take_none more) ∙ sym (ap (λ os. with_orders s os []) (take_none both))
taken_twice s (o ∷ orders) (suc had) more zero e = absurd (omega (arith, e))
taken_twice s (o ∷ orders) (suc had) more (suc both) e = taken_twice (with_order s false o) orders had more both (omega (arith, e))

pub twice_as_one : (first : Session) (again : List Came) (batch : List ℕ) (had more : ℕ)
    → (part_of first batch had).handshake ≡ under_way → AllComeAgain (part_of first batch had) again
    → AreAsOne (part_of first batch had)
    (with_orders (session_from (resumed (part_of first batch had)) again) (take more (drop had (forgets_in batch))) [])
    (part_of first batch (had + more)) again
twice_as_one first again batch had more far all =
    let part : Session = part_of first batch had in
    let now : Session = session_from (resumed part) again in
    let left : List Order = take more (drop had (forgets_in batch)) in
    as_one part (with_orders now left []) (part_of first batch (had + more)) again
    (goes_by (replies_again part again) part.replies (with_orders now left []) (part_of first batch (had + more))
    (with_orders now left []) (with_orders part left []) refl (sym (taken_twice first (forgets_in batch) had more (had + more) refl))
    (orders_go (replies_again part again) part.replies now part left [] (again_alike part again far all)))
