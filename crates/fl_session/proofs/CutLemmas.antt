-- The lines that a session leaves that was cut off.
use Rattle.std.proofs.Common.{◌≡◌, ℕ, zero, suc, ◌<◌, Bool, true, false, List, [], ◌∷◌, ◌++◌, length, take, drop, map, Option, None, Some}
use Rattle.std.proofs.Common.{refl, sym, ap, subst, ◌∙◌, append_assoc, append-nil, arith, inl, inr}
use Rattle.std.specs.Prelude.{◌⊎◌, if◌then◌else◌, Result, Ok, Err}
use Rattle.std.proofs.lemmas.Grind.{fold-append}
use Rattle.std.proofs.lemmas.List.{append_cancel_left}
use mathlib.Core.List.{IsPrefix}
use Rattle.fl_core.specs.State.{Snapshot, snapshot_of}
use Rattle.fl_core.specs.Step.{replies, replies_in}
use Rattle.fl_desk.specs.Leading.{GoesOn, LeadsTo, ends, goes, heads}
use Rattle.fl_counter.specs.Answered.{step_lines}
use Rattle.fl_desk.specs.Legal.{IsLegal, nothing}
use Rattle.fl_desk.specs.Replay.{state_after}
use Rattle.fl_history.specs.declared.history.Line.{Line}
use Rattle.fl_history.specs.declared.history.Line.TheVariants as line
use Rattle.fl_history.specs.declared.recent.Recalled.{Recalled}
use Rattle.fl_history.specs.declared.recent.Recalled.TheVariants as recall
use Rattle.fl_order.specs.OpKind.{kind_of_opcode}
use Rattle.fl_order.specs.declared.order.Order.{Order}
use Rattle.fl_order.specs.declared.refusal.Refusal.{Refusal}
use Rattle.fl_order.specs.declared.refusal.Refusal.TheVariants.{Answer, Silent, Batch, Destroy}
use Rattle.fl_order.specs.declared.told.Told.{Told}
use Rattle.fl_session.proofs.BatchLemmas.{IsSound, message_sound, order_sound, orders_moved, session_sound}
use Rattle.fl_session.proofs.OnceLemmas.{moved, over_still, plain_met, resends_from}
use Rattle.fl_session.proofs.Prefixes.{of_another, of_itself}
use Rattle.fl_session.proofs.RulesLemmas.{by_message, by_order, rules_from}
use Rattle.fl_session.specs.Again.{incoming_under, unmarked}
use Rattle.fl_session.specs.AsOne.{NoneRefused, part_of}
use Rattle.fl_session.specs.CutOff.{AreOfPart, AreOfSession, AreTakenOf, cut_in, with_replies}
use Rattle.fl_session.specs.Once.{under_way}
use Rattle.fl_session.specs.Session.{Came, Session, opening_session, recalled_in, session_from, session_of, with_again, with_either, with_incoming}
use Rattle.fl_session.specs.Session.{with_message, with_order, with_orders, with_recalled}
use Rattle.fl_transport.specs.Handshake.{advanced, incoming_by, incoming_of, own_answer, said_to}
use Rattle.fl_transport.specs.declared.handshake.Incoming.{Incoming}
use Rattle.fl_transport.specs.declared.handshake.Incoming.TheVariants as incoming
use Rattle.fl_waiting.specs.Waiting.{is_parked}
use Rattle.fl_waiting.specs.declared.rules.Rules.{Rules}
use Rattle.fl_wire.specs.Batch.{forgets_in}
use Rattle.fl_wire.specs.Layout.{opcode_of, unique_of}

-- what is known of legal histories
pub record AreLegal : Type 0 where
  pub leads : (rules : Rules) (lines : List Line) → IsLegal rules lines → LeadsTo lines (snapshot_of (state_after rules lines))
  pub rules : (rules : Rules) (lines : List Line) → (state_after rules lines).rules ≡ rules
  pub next : (before rest : List Line) (p : Snapshot) → LeadsTo before p → IsLegal p.rules (before ++ rest) → GoesOn before p rest

-- replies, as lines
abbrev told_lines : List Told → List Line
told_lines tolds = map (λ told. line.Told told) tolds

-- the lines of an order that is taken in this state
abbrev lines_in : Rules → List Line → Order → List Line
lines_in rules before order = step_lines 0 order (replies_in (state_after rules before) order)

-- ---- lines behind others

-- Some of the lines that stand behind these, and then replies.
record GoesBehind (after lines : List Line) : Type 0 where
  part : List Line
  rest : List Line
  missing : List Told
  is : lines ≡ part ++ told_lines missing
  all : after ≡ part ++ rest

-- the same where these stand before both
record StandsBehind (before all lines : List Line) : Type 0 where
  after : List Line
  behind : List Line
  goes : GoesBehind after behind
  is : lines ≡ before ++ behind
  whole : all ≡ before ++ after

-- the replies of an order stand before both
replies_off : (tolds : List Told) (part rest after lines : List Line) (missing : List Told)
    → part ++ told_lines missing ≡ told_lines tolds ++ lines → part ++ rest ≡ told_lines tolds ++ after
    → GoesBehind after lines
replies_off [] part rest after lines missing e f = record { part = part; rest = rest; missing = missing; is = sym e; all = sym f }
replies_off (t ∷ tolds) [] rest after lines [] e f = absurd (cc e)
replies_off (t ∷ tolds) [] rest after lines (m ∷ missing) e f =
    replies_off tolds [] (told_lines tolds ++ after) after lines missing (cc e) refl
replies_off (t ∷ tolds) (l ∷ part) rest after lines missing e f =
    replies_off tolds part rest after lines missing (cc e) (cc f)

-- an order and its replies come next in both, or nothing comes
step_off : (before : List Line) (p : Snapshot) (order : Order) (after : List Line) (part rest : List Line) (missing : List Told)
    → part ++ rest ≡ step_lines 0 order (replies p order) ++ after → GoesOn before p (part ++ told_lines missing)
    → (part ++ told_lines missing ≡ [])
    ⊎ ((lines : List Line) × (part ++ told_lines missing ≡ step_lines 0 order (replies p order) ++ lines) × GoesBehind after lines)
step_off before p order after part rest missing f (ends none) = inl none
step_off before p order after [] rest [] f (heads first head more e) = absurd (cc e)
step_off before p order after [] rest (m ∷ missing) f (heads first head more e) = absurd (cc e)
step_off before p order after (l ∷ part) rest missing f (heads first head more e) = absurd (cc (e, f))
step_off before p order after [] rest [] f (goes worker other more e) = absurd (cc e)
step_off before p order after [] rest (m ∷ missing) f (goes worker other more e) = absurd (cc e)
step_off before p order after (l ∷ part) rest missing f (goes worker other more e) =
    let first : line.Asked worker other ≡ line.Asked 0 order = cc (e, f) in
    let same : other ≡ order = cc first in
    let replied : part ++ told_lines missing ≡ told_lines (replies p order) ++ more =
    cc e ∙ ap (λ o. told_lines (replies p o) ++ more) same in
    let head : l ≡ line.Asked 0 order = cc f in
    inr (
      more,
      ap (λ lines. l ∷ lines) replied ∙ ap (λ first. first ∷ (told_lines (replies p order) ++ more)) head,
      replies_off (replies p order) part rest after more missing replied (cc f),
    )

-- ---- an order that a session takes, and legal lines that go on behind its lines

order_by : AreLegal → (rules : Rules) (before : List Line) (order : Order) (all lines after : List Line)
    → IsLegal rules before → IsLegal rules lines → all ≡ (before ++ lines_in rules before order) ++ after
    → StandsBehind before all lines
    → (lines ≡ before) ⊎ StandsBehind (before ++ lines_in rules before order) all lines
order_by laws rules before order all lines after sound legal whole behind =
    let s = state_after rules before in
    let p : Snapshot = snapshot_of s in
    let goes = behind.goes in
    let L : List Line → Type 0 = λ l. IsLegal (state_after rules before).rules l in
    let on : GoesOn before p (goes.part ++ told_lines goes.missing) =
    laws.next before (goes.part ++ told_lines goes.missing) p (laws.leads rules before sound)
    (subst L (behind.is ∙ ap (λ l. before ++ l) goes.is) (subst (λ r. IsLegal r lines) (sym (laws.rules rules before)) legal)) in
    let here : goes.part ++ goes.rest ≡ lines_in rules before order ++ after =
    append_cancel_left before (goes.part ++ goes.rest) (lines_in rules before order ++ after)
    (ap (λ l. before ++ l) (sym goes.all) ∙ sym behind.whole ∙ whole ∙ append_assoc before (lines_in rules before order) after) in
    by (step_off before p order after goes.part goes.rest goes.missing here on)
  where
    by : (behind.goes.part ++ told_lines behind.goes.missing ≡ [])
        ⊎ ((more : List Line) × (behind.goes.part ++ told_lines behind.goes.missing ≡ lines_in rules before order ++ more)
        × GoesBehind after more)
        → (lines ≡ before) ⊎ StandsBehind (before ++ lines_in rules before order) all lines
    by (inl none) = inl (behind.is ∙ ap (λ l. before ++ l) (behind.goes.is ∙ none) ∙ append-nil before)
    by (inr (more, e, on)) = inr (record {
      after = after;
      behind = more;
      goes = on;
      is = behind.is ∙ ap (λ l. before ++ l) (behind.goes.is ∙ e)
          ∙ sym (append_assoc before (lines_in rules before order) more);
      whole = whole;
    })

one_by : AreLegal → (s : Session) (refused : Bool) (order : Order) (all lines after : List Line) → IsSound s
    → IsLegal s.rules lines → all ≡ (with_order s refused order).lines ++ after → StandsBehind s.lines all lines
    → (lines ≡ s.lines) ⊎ StandsBehind (with_order s refused order).lines all lines
one_by laws s true order all lines after sound legal whole behind = inr behind
one_by laws s false order all lines after sound legal whole behind =
    order_by laws s.rules s.lines order all lines after sound legal whole behind

-- ---- the lines of a session only grow

grows_by : (s : Session) (refused : Bool) (order : Order) → IsPrefix s.lines (with_order s refused order).lines
grows_by s true order = of_itself s.lines s.lines refl
grows_by s false order = (lines_in s.rules s.lines order, refl)

orders_grow : (s : Session) (orders : List Order) (refused : List Bool) → IsPrefix s.lines (with_orders s orders refused).lines
orders_grow s [] refused = of_itself s.lines s.lines refl
orders_grow s (order ∷ orders) [] =
    of_another _ _ _ (grows_by s false order) (orders_grow (with_order s false order) orders [])
orders_grow s (order ∷ orders) (first ∷ refused) =
    of_another _ _ _ (grows_by s first order) (orders_grow (with_order s first order) orders refused)

incoming_grows : (s : Session) (refused : List Bool) (it : Incoming) → IsPrefix s.lines (with_incoming s refused it).lines
incoming_grows s refused (incoming.Order order) = orders_grow s (order ∷ []) refused
incoming_grows s refused (incoming.Batch orders) = orders_grow s orders refused
incoming_grows s refused (incoming.Response response) = of_itself s.lines s.lines refl

recalled_grows : (waits : Bool) (s : Session) (found : Recalled) (orders : List Order) (refused : List Bool)
    → IsPrefix s.lines (if waits then s else with_recalled s found orders refused).lines
recalled_grows true s found orders refused = of_itself s.lines s.lines refl
recalled_grows false s (recall.Told told) orders refused = of_itself s.lines s.lines refl
recalled_grows false s (recall.Asked count) orders refused = orders_grow s (drop count orders) refused

again_grows : (s : Session) (unique : ℕ) (refused : List Bool) (it : Incoming)
    → IsPrefix s.lines (with_again s unique refused it).lines
again_grows s unique refused (incoming.Order order) =
    recalled_grows (is_parked unique (state_after s.rules s.lines).view.parked) s (recalled_in s unique) (order ∷ [])
    refused
again_grows s unique refused (incoming.Batch orders) =
    recalled_grows (is_parked unique (state_after s.rules s.lines).view.parked) s (recalled_in s unique) orders refused
again_grows s unique refused (incoming.Response response) = of_itself s.lines s.lines refl

either_grows : (s : Session) (mark : Option ℕ) (refused : List Bool) (it : Incoming)
    → IsPrefix s.lines (with_either s mark refused it).lines
either_grows s None refused it = incoming_grows s refused it
either_grows s (Some unique) refused it = again_grows s unique refused (incoming_under unique it)

grows_if : (over : Bool) (lines : List Line) (s t : Session) → IsPrefix lines s.lines → IsPrefix lines t.lines
    → IsPrefix lines (if over then s else t).lines
grows_if true lines s t first second = first
grows_if false lines s t first second = second

message_grows : (s : Session) (c : Came) → IsPrefix s.lines (with_message s c).lines
message_grows s c =
    grows_if s.handshake.over s.lines s _ (of_itself s.lines s.lines refl)
    (either_grows (record s { handshake = advanced s.handshake c.message }) (unmarked s.resends (unique_of c.message)) c.refused
    (incoming_of s.rules.whole s.handshake c.message))

session_grows : (s : Session) (came : List Came) → IsPrefix s.lines (session_from s came).lines
session_grows s [] = of_itself s.lines s.lines refl
session_grows s (c ∷ came) = of_another _ _ _ (message_grows s c) (session_grows (with_message s c) came)

-- what stands behind the lines of a session, and behind those of one that goes on from it
grown_on : (before now all after : List Line) → IsPrefix before now → all ≡ now ++ after
    → (more : List Line) × (all ≡ before ++ more)
grown_on before now all after grows whole =
    (grows.0 ++ after, whole ∙ ap (λ l. l ++ after) (sym grows.1) ∙ append_assoc before grows.0 after)

-- ---- orders one after another

-- the lines are those of the first of these orders, but not of all
record AreOfFirst (s : Session) (orders : List Order) (refused : List Bool) (lines : List Line) : Type 0 where
  count : ℕ
  some : count < length orders
  stand : lines ≡ (with_orders s (take count orders) refused).lines

-- one order, and then those behind it
joined : (s now : Session) (order : Order) (orders : List Order) (refused left : List Bool) (all lines : List Line)
    → ((n : ℕ) → with_orders s (order ∷ take n orders) refused ≡ with_orders now (take n orders) left)
    → (lines ≡ s.lines) ⊎ StandsBehind now.lines all lines
    → (StandsBehind now.lines all lines
    → AreOfFirst now orders left lines ⊎ StandsBehind (with_orders now orders left).lines all lines)
    → AreOfFirst s (order ∷ orders) refused lines ⊎ StandsBehind (with_orders now orders left).lines all lines
joined s now order orders refused left all lines same (inl here) on =
    inl (record { count = 0; some = omega arith; stand = here })
joined s now order orders refused left all lines same (inr behind) on = by (on behind)
  where
    by : AreOfFirst now orders left lines ⊎ StandsBehind (with_orders now orders left).lines all lines
        → AreOfFirst s (order ∷ orders) refused lines ⊎ StandsBehind (with_orders now orders left).lines all lines
    by (inl first) = inl (record {
      count = suc first.count;
      some = let less = first.some in omega (arith, less);
      stand = first.stand ∙ ap (λ t. t.lines) (sym (same first.count));
    })
    by (inr rest) = inr rest

orders_by : AreLegal → (s : Session) (orders : List Order) (refused : List Bool) (all lines after : List Line) → IsSound s
    → IsLegal s.rules lines → all ≡ (with_orders s orders refused).lines ++ after → StandsBehind s.lines all lines
    → AreOfFirst s orders refused lines ⊎ StandsBehind (with_orders s orders refused).lines all lines
orders_by laws s [] refused all lines after sound legal whole behind = inr behind
orders_by laws s (order ∷ orders) [] all lines after sound legal whole behind =
    let now : Session = with_order s false order in
    let more = grown_on now.lines (with_orders now orders []).lines all after (orders_grow now orders []) whole in
    joined s now order orders [] [] all lines (λ n. refl) (one_by laws s false order all lines more.0 sound legal more.1 behind)
    (orders_by laws now orders [] all lines after (order_sound s false order sound) legal whole)
orders_by laws s (order ∷ orders) (first ∷ refused) all lines after sound legal whole behind =
    let now : Session = with_order s first order in
    let more = grown_on now.lines (with_orders now orders refused).lines all after (orders_grow now orders refused) whole in
    joined s now order orders (first ∷ refused) refused all lines (λ n. refl)
    (one_by laws s first order all lines more.0 sound legal more.1 behind)
    (orders_by laws now orders refused all lines after (order_sound s first order sound)
    (subst (λ r. IsLegal r lines) (sym (by_order s first order).rules) legal) whole)

-- ---- a message of a session that is under way

-- the lines are those of a session before a message, or of a part of it
abbrev AreBefore : Session → List Came → List Line → Type 0
AreBefore s left lines = AreOfSession s left lines ⊎ AreOfPart s left lines

incoming_off : AreLegal → (s : Session) (c : Came) (later : List Came) (all lines after : List Line)
    (it : Result Order Refusal) → said_to s.rules.whole c.message ≡ it → IsSound s → IsLegal s.rules lines → s.handshake ≡ under_way
    → all ≡ (with_incoming (record s { handshake = moved c.message }) c.refused (incoming_by c.message it)).lines ++ after
    → StandsBehind s.lines all lines
    → AreBefore s (c ∷ later) lines
    ⊎ StandsBehind (with_incoming (record s { handshake = moved c.message }) c.refused (incoming_by c.message it)).lines all lines
incoming_off laws s c later all lines after (Ok order) says sound legal far whole behind =
    by (orders_by laws (record s { handshake = moved c.message }) (order ∷ []) c.refused all lines after sound legal whole behind)
  where
    now : Session
    now = record s { handshake = moved c.message }

    by : AreOfFirst now (order ∷ []) c.refused lines ⊎ StandsBehind (with_orders now (order ∷ []) c.refused).lines all lines
        → AreBefore s (c ∷ later) lines ⊎ StandsBehind (with_orders now (order ∷ []) c.refused).lines all lines
    by (inl first) =
        let none : first.count ≡ 0 = let less = first.some in omega (arith, less) in
        inl (inl (record {
          far = inr far;
          stand = first.stand ∙ ap (λ n. (with_orders now (take n (order ∷ [])) c.refused).lines) none;
        }))
    by (inr on) = inr on
incoming_off laws s c later all lines after (Err (Answer e)) says sound legal far whole behind = inr behind
incoming_off laws s c later all lines after (Err Silent) says sound legal far whole behind = inr behind
incoming_off laws s c later all lines after (Err Batch) says sound legal far whole behind =
    by (orders_by laws (record s { handshake = moved c.message }) (forgets_in c.message) c.refused all lines after sound legal whole
    behind)
  where
    now : Session
    now = record s { handshake = moved c.message }

    orders : List Order
    orders = forgets_in c.message

    by : AreOfFirst now orders c.refused lines ⊎ StandsBehind (with_orders now orders c.refused).lines all lines
        → AreBefore s (c ∷ later) lines ⊎ StandsBehind (with_orders now orders c.refused).lines all lines
    by (inl first) = inl (inr (record {
      batch = c;
      later = later;
      count = first.count;
      next = refl;
      is_batch = says;
      far = far;
      some = first.some;
      stand = first.stand ∙ ap (λ t. t.lines) (orders_moved s (moved c.message) (take first.count orders) c.refused);
    }))
    by (inr on) = inr on
incoming_off laws s c later all lines after (Err Destroy) says sound legal far whole behind = inr behind

-- before an INIT is agreed, and after a DESTROY, a message has no lines
plain_early : (s : Session) (c : Came) → s.resends ≡ false → s.handshake.over ≡ false → s.handshake.agreed ≡ false
    → (with_message s c).lines ≡ s.lines
plain_early s c lacks live early =
    let now : Session = record s { handshake = advanced s.handshake c.message } in
    let unique : ℕ = unique_of c.message in
    ap (λ over. (if over then s else with_either now (unmarked s.resends unique) c.refused (incoming_of s.rules.whole s.handshake c.message)).lines)
    live
    ∙ ap (λ knows. (with_either now (unmarked knows unique) c.refused (incoming_of s.rules.whole s.handshake c.message)).lines) lacks
    ∙ ap (λ agreed. (with_incoming now c.refused
    (if agreed then incoming_by c.message (said_to s.rules.whole c.message)
    else incoming.Response (own_answer c.message (kind_of_opcode (opcode_of c.message))))).lines) early

message_off : AreLegal → (s : Session) (c : Came) (later : List Came) (all lines after : List Line) → s.resends ≡ false
    → IsSound s → IsLegal s.rules lines → all ≡ (with_message s c).lines ++ after → StandsBehind s.lines all lines
    → AreBefore s (c ∷ later) lines ⊎ StandsBehind (with_message s c).lines all lines
message_off laws s c later all lines after lacks sound legal whole behind = by s.handshake.over s.handshake.agreed refl refl
  where
    same : (with_message s c).lines ≡ s.lines
        → AreBefore s (c ∷ later) lines ⊎ StandsBehind (with_message s c).lines all lines
    same e = inr (subst (λ l. StandsBehind l all lines) (sym e) behind)

    by : (over agreed : Bool) → s.handshake.over ≡ over → s.handshake.agreed ≡ agreed
        → AreBefore s (c ∷ later) lines ⊎ StandsBehind (with_message s c).lines all lines
    by true agreed o a = same (ap (λ t. t.lines) (over_still s c o))
    by false false o a = same (plain_early s c lacks o a)
    by false true o a =
        let far : s.handshake ≡ under_way = λ i. record { agreed = a i; over = o i } in
        let is = plain_met s c lacks far in
        let P : Session → Type 0 = λ t. AreBefore s (c ∷ later) lines ⊎ StandsBehind t.lines all lines in
        subst P (sym is) (incoming_off laws s c later all lines after (said_to s.rules.whole c.message) refl sound legal far
        (whole ∙ ap (λ t. t.lines ++ after) is) behind)

-- ---- messages one after another

-- a session took some of these messages, and perhaps a part of a batch, and these are its lines
record AreOfSome (s : Session) (came : List Came) (lines : List Line) : Type 0 where
  taken : List Came
  left : List Came
  is : taken ++ left ≡ came
  are : AreBefore (session_from s taken) left lines

only_replies : (before : List Line) (p : Snapshot) (missing : List Told) → GoesOn before p (told_lines missing) → told_lines missing ≡ []
only_replies before p missing (ends none) = none
only_replies before p [] (goes worker order rest e) = refl
only_replies before p [] (heads first head rest e) = refl
only_replies before p (m ∷ missing) (goes worker order rest e) = absurd (cc e)
only_replies before p (m ∷ missing) (heads first head rest e) = absurd (cc e)

no_part : (part rest : List Line) → part ++ rest ≡ [] → part ≡ []
no_part [] rest e = refl
no_part (l ∷ part) rest e = absurd (cc e)

-- nothing stands behind all lines but replies, and legal lines lack none
all_there : AreLegal → (s : Session) (all lines : List Line) → IsSound s → IsLegal s.rules lines → all ≡ s.lines
    → StandsBehind s.lines all lines → lines ≡ s.lines
all_there laws s all lines sound legal whole behind =
    let p : Snapshot = snapshot_of (state_after s.rules s.lines) in
    let goes = behind.goes in
    let L : List Line → Type 0 = λ l. IsLegal (state_after s.rules s.lines).rules l in
    let on : GoesOn s.lines p behind.behind =
    laws.next s.lines behind.behind p (laws.leads s.rules s.lines sound)
    (subst L behind.is (subst (λ r. IsLegal r lines) (sym (laws.rules s.rules s.lines)) legal)) in
    let nothing_more : behind.after ≡ [] =
    append_cancel_left s.lines behind.after [] (sym behind.whole ∙ whole ∙ sym (append-nil s.lines)) in
    let none : goes.part ≡ [] = no_part goes.part goes.rest (sym goes.all ∙ nothing_more) in
    let replies : behind.behind ≡ told_lines goes.missing = goes.is ∙ ap (λ l. l ++ told_lines goes.missing) none in
    behind.is ∙ ap (λ l. s.lines ++ l) (replies ∙ only_replies s.lines p goes.missing (subst (GoesOn s.lines p) replies on)) ∙ append-nil s.lines

-- one message, and then those behind it
then_others : (s : Session) (c : Came) (came : List Came) (all lines : List Line)
    → AreBefore s (c ∷ came) lines ⊎ StandsBehind (with_message s c).lines all lines
    → (StandsBehind (with_message s c).lines all lines → AreOfSome (with_message s c) came lines)
    → AreOfSome s (c ∷ came) lines
then_others s c came all lines (inl here) on = record { taken = []; left = c ∷ came; is = refl; are = here }
then_others s c came all lines (inr behind) on =
    let rest = on behind in
    record {
      taken = c ∷ rest.taken;
      left = rest.left;
      is = ap (λ l. c ∷ l) rest.is;
      are = rest.are;
    }

messages_off : AreLegal → (s : Session) (came : List Came) (all lines : List Line) → s.resends ≡ false → IsSound s
    → IsLegal s.rules lines → all ≡ (session_from s came).lines → StandsBehind s.lines all lines → AreOfSome s came lines
messages_off laws s [] all lines lacks sound legal whole behind = record {
  taken = [];
  left = [];
  is = refl;
  are = inl (record { far = inl refl; stand = all_there laws s all lines sound legal whole behind });
}
messages_off laws s (c ∷ came) all lines lacks sound legal whole behind =
    let now : Session = with_message s c in
    let grows = session_grows now came in
    then_others s c came all lines
    (message_off laws s c came all lines grows.0 lacks sound legal (whole ∙ sym grows.1) behind)
    (messages_off laws now came all lines ((by_message s c).resends ∙ lacks) (message_sound s c sound)
    (subst (λ r. IsLegal r lines) (sym (by_message s c).rules) legal) whole)

-- ---- the whole

pub cut_off : AreLegal → (rules : Rules) (first others : List Came) (lines : List Line) (missing : List Told)
    → IsPrefix (session_of rules first).lines lines → IsPrefix lines (session_of rules (first ++ others)).lines
    → IsLegal rules (with_replies lines missing) → AreTakenOf rules first others (with_replies lines missing)
cut_off laws rules first others lines missing front all legal =
    let s : Session = session_of rules first in
    let joins : (came : List Came) → session_of rules (first ++ came) ≡ session_from s came =
    λ came. fold-append with_message (opening_session rules) first came in
    let some = messages_off laws s others (session_of rules (first ++ others)).lines (with_replies lines missing)
    (resends_from (opening_session rules) first) (session_sound (opening_session rules) first nothing)
    (subst (λ r. IsLegal r (with_replies lines missing)) (sym (rules_from (opening_session rules) first)) legal)
    (ap (λ t. t.lines) (joins others)) (record {
      after = front.0 ++ all.0;
      behind = front.0 ++ told_lines missing;
      goes = record { part = front.0; rest = all.0; missing = missing; is = refl; all = refl };
      is = ap (λ l. l ++ told_lines missing) (sym front.1) ∙ append_assoc s.lines front.0 (told_lines missing);
      whole = sym all.1 ∙ ap (λ l. l ++ all.0) (sym front.1) ∙ append_assoc s.lines front.0 all.0;
    }) in
    record {
      taken = some.taken;
      left = some.left;
      is = some.is;
      are = subst (λ t. AreBefore t some.left (with_replies lines missing)) (sym (joins some.taken)) some.are;
    }

-- none of so many orders was refused
pub cut_unrefused : (s : Session) (batch : Came) (count : ℕ) → NoneRefused (take count batch.refused)
    → cut_in s batch count ≡ part_of s batch.message count
cut_unrefused s batch count none = by s (forgets_in batch.message) count batch.refused none
  where
    by : (s : Session) (orders : List Order) (count : ℕ) (refused : List Bool) → NoneRefused (take count refused)
        → with_orders s (take count orders) refused ≡ with_orders s (take count orders) []
    by s [] zero refused none = refl
    by s [] (suc count) refused none = refl
    by s (o ∷ orders) zero refused none = refl
    by s (o ∷ orders) (suc count) [] none = refl
    by s (o ∷ orders) (suc count) (true ∷ refused) none = absurd (cc none.0)
    by s (o ∷ orders) (suc count) (false ∷ refused) none = by (with_order s false o) orders count refused none.1
