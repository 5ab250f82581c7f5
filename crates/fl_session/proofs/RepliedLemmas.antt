-- The reply to an order that a session took is sent again.
use Rattle.std.proofs.Common.{◌≡◌, ℕ, ◌≤◌, Bool, true, false, List, [], ◌∷◌, ◌++◌, map, Some}
use Rattle.std.proofs.Common.{refl, sym, ap, subst, ◌∙◌, append_assoc, arith, inl, inr, ⊎_elim}
use Rattle.std.specs.Prelude.{Contains, fold, ◌==◌, ◌≢◌, ◌⊎◌, Ok}
use Rattle.std.proofs.lemmas.Bool.{eq-eqb, ne_eqb}
use Rattle.std.proofs.lemmas.Grind.{fold-append}
use Rattle.std.proofs.lemmas.List.{map-append}
use Rattle.std.proofs.lemmas.List.Elements.{Contains-append_cases}
use Rattle.fl_core.specs.State.{Snapshot, snapshot_of}
use Rattle.fl_core.specs.Step.{replies}
use Rattle.fl_counter.specs.Answered.{step_lines}
use Rattle.fl_desk.specs.Legal.{nothing}
use Rattle.fl_desk.specs.Replay.{AllOthers, state_after}
use Rattle.fl_history.specs.Recent.{recalled, with_line}
use Rattle.fl_history.specs.declared.history.Line.{Line}
use Rattle.fl_history.specs.declared.history.Line.TheVariants as line
use Rattle.fl_history.specs.declared.recent.Recalled.TheVariants as recall
use Rattle.fl_order.specs.declared.order.Order.{Order}
use Rattle.fl_order.specs.declared.told.Told.{Told}
use Rattle.fl_session.proofs.BatchLemmas.{session_sound}
use Rattle.fl_session.proofs.ClientLemmas.{AreOf, IsSoOf, IsStill, none_heard, none_refused, orders_are, own_alone, own_front, still_so}
use Rattle.fl_session.proofs.KnownLemmas.{flat_contains, had_reply, head_is, others_said, told_said}
use Rattle.fl_session.proofs.NewLemmas.{IsKept, Settles, both_nothing, replies_others, tolds_nothing}
use Rattle.fl_session.proofs.OneReplyLemmas.{HasReplyTo, step_once, told_once}
use Rattle.fl_session.proofs.OnceLemmas.{moved, plain_met, resends_from}
use Rattle.fl_session.proofs.RulesLemmas.{heard_from, rules_from}
use Rattle.fl_session.proofs.ParkedLemmas.{asked_one, bit, counted, counted_free, counted_most, counted_none, many, others_counted, told_one}
use Rattle.fl_session.specs.Again.{incoming_under, unmarked}
use Rattle.fl_session.specs.AsOne.{replies_again, reply_again, reply_had, reply_unmarked}
use Rattle.fl_session.specs.Client.{AreOnesAgain, HasTaken, IsNear, IsOneAgain}
use Rattle.fl_session.specs.Known.{HaveNothing, IsOf}
use Rattle.fl_session.specs.Once.{SaysTheSame}
use Rattle.fl_session.specs.Session.{Came, Session, opening_session, recalled_in, session_from, session_of, with_incoming}
use Rattle.fl_session.specs.Session.{with_message, with_order, with_orders}
use Rattle.fl_transport.specs.Handshake.{incoming_by, said_to}
use Rattle.fl_transport.specs.declared.handshake.Incoming.{Incoming}
use Rattle.fl_transport.specs.declared.handshake.Incoming.TheVariants as incoming
use Rattle.fl_waiting.specs.Waiting.{is_parked}
use Rattle.fl_waiting.specs.declared.rules.Rules.{Rules}
use Rattle.fl_wire.specs.Layout.{unique_of}
use Rattle.fl_wire.specs.Spell.{spelling_of}

abbrev told_lines : List Told → List Line
told_lines tolds = map (λ told. line.Told told) tolds

-- of this unique lines have one order, and no reply
record IsAsked (u : ℕ) (lines : List Line) : Type 0 where
  worker : ℕ
  order : Order
  before : List Line
  after : List Line
  named : order.unique ≡ u
  stand : lines ≡ before ++ line.Asked worker order ∷ after
  none_before : HaveNothing u before
  none_after : HaveNothing u after

-- of this unique lines have one order, and behind it one reply
record IsReplied (u : ℕ) (lines : List Line) : Type 0 where
  worker : ℕ
  order : Order
  told : Told
  before : List Line
  between : List Line
  after : List Line
  named : order.unique ≡ u
  own : told.unique ≡ u
  stand : lines ≡ (before ++ line.Asked worker order ∷ between) ++ line.Told told ∷ after
  none_before : HaveNothing u before
  none_between : HaveNothing u between
  none_after : HaveNothing u after

abbrev HasOne : ℕ → List Line → Type 0
HasOne u lines = IsAsked u lines ⊎ IsReplied u lines

-- ---- how many requests can be parked

count_asked : (u : ℕ) (worker : ℕ) (order : Order) (before after : List Line) → order.unique ≡ u → HaveNothing u before
    → HaveNothing u after → fold (counted u) 0 (before ++ line.Asked worker order ∷ after) ≡ 1
count_asked u worker order before after named none_before none_after =
    fold-append (counted u) 0 before (line.Asked worker order ∷ after)
    ∙ ap (λ n. fold (counted u) n (line.Asked worker order ∷ after)) (others_counted u 0 before none_before)
    ∙ ap (λ n. fold (counted u) n after) (asked_one u worker order named)
    ∙ others_counted u 1 after none_after

asked_most : (u : ℕ) (rules : Rules) (lines : List Line) → IsAsked u lines
    → many u (state_after rules lines).view.parked ≤ 1
asked_most u rules lines h =
    let most = counted_most u rules lines in
    let one : fold (counted u) 0 lines ≡ 1 =
    ap (fold (counted u) 0) h.stand
    ∙ count_asked u h.worker h.order h.before h.after h.named h.none_before h.none_after in
    omega (arith, most, one)

count_replied : (u : ℕ) (lines : List Line) → IsReplied u lines → fold (counted u) 0 lines ≡ 0
count_replied u lines h =
    ap (fold (counted u) 0) h.stand
    ∙ fold-append (counted u) 0 (h.before ++ line.Asked h.worker h.order ∷ h.between) (line.Told h.told ∷ h.after)
    ∙ ap (λ n. fold (counted u) n (line.Told h.told ∷ h.after))
    (count_asked u h.worker h.order h.before h.between h.named h.none_before h.none_between)
    ∙ ap (λ n. fold (counted u) n h.after) (told_one u h.told h.own)
    ∙ others_counted u 0 h.after h.none_after

-- ---- an order more

moved_apart : (bs cs xs ys : List Line) (w a t : Line)
    → (bs ++ w ∷ cs) ++ a ∷ (xs ++ t ∷ ys) ≡ (bs ++ w ∷ (cs ++ a ∷ xs)) ++ t ∷ ys
moved_apart [] cs xs ys w a t = ap (λ l. w ∷ l) (sym (append_assoc cs (a ∷ xs) (t ∷ ys)))
moved_apart (b ∷ bs) cs xs ys w a t = ap (λ l. b ∷ l) (moved_apart bs cs xs ys w a t)

-- the lines of replies of which one is to this unique
told_apart : (u : ℕ) (tolds : List Told) (has : HasReplyTo u tolds)
    → told_lines tolds ≡ told_lines has.before ++ line.Told has.told ∷ told_lines has.after
told_apart u tolds has =
    ap told_lines has.is ∙ map-append (λ told. line.Told told) has.before (has.told ∷ has.after)

asked_on : (u : ℕ) (lines : List Line) (order : Order) (tolds : List Told) → order.unique ≢ u → IsAsked u lines
    → AllOthers u tolds ⊎ HasReplyTo u tolds → HasOne u (lines ++ step_lines 0 order tolds)
asked_on u lines order tolds other h (inl others) = inl (record {
  worker = h.worker;
  order = h.order;
  before = h.before;
  after = h.after ++ step_lines 0 order tolds;
  named = h.named;
  stand = ap (λ l. l ++ step_lines 0 order tolds) h.stand
      ∙ append_assoc h.before (line.Asked h.worker h.order ∷ h.after) (step_lines 0 order tolds);
  none_before = h.none_before;
  none_after = both_nothing u h.after (step_lines 0 order tolds) h.none_after (other, tolds_nothing u tolds others);
})
asked_on u lines order tolds other h (inr has) = inr (record {
  worker = h.worker;
  order = h.order;
  told = has.told;
  before = h.before;
  between = h.after ++ line.Asked 0 order ∷ told_lines has.before;
  after = told_lines has.after;
  named = h.named;
  own = has.named;
  stand = ap (λ l. l ++ step_lines 0 order tolds) h.stand
      ∙ ap (λ l. (h.before ++ line.Asked h.worker h.order ∷ h.after) ++ line.Asked 0 order ∷ l) (told_apart u tolds has)
      ∙ moved_apart h.before h.after (told_lines has.before) (told_lines has.after) (line.Asked h.worker h.order)
      (line.Asked 0 order) (line.Told has.told);
  none_before = h.none_before;
  none_between = both_nothing u h.after (line.Asked 0 order ∷ told_lines has.before) h.none_after
      (other, tolds_nothing u has.before has.others_before);
  none_after = tolds_nothing u has.after has.others_after;
})

replied_on : (u : ℕ) (lines : List Line) (order : Order) (tolds : List Told) → order.unique ≢ u → IsReplied u lines
    → AllOthers u tolds → IsReplied u (lines ++ step_lines 0 order tolds)
replied_on u lines order tolds other h others = record {
  worker = h.worker;
  order = h.order;
  told = h.told;
  before = h.before;
  between = h.between;
  after = h.after ++ step_lines 0 order tolds;
  named = h.named;
  own = h.own;
  stand = ap (λ l. l ++ step_lines 0 order tolds) h.stand
      ∙ append_assoc (h.before ++ line.Asked h.worker h.order ∷ h.between) (line.Told h.told ∷ h.after)
      (step_lines 0 order tolds);
  none_before = h.none_before;
  none_between = h.none_between;
  none_after = both_nothing u h.after (step_lines 0 order tolds) h.none_after (other, tolds_nothing u tolds others);
}

one_kept : Settles → (u : ℕ) → IsKept u (HasOne u)
one_kept settles u s true order other so = so
one_kept settles u s false order other (inl h) =
    let p : Snapshot = snapshot_of (state_after s.rules s.lines) in
    let most : many u p.view.parked ≤ 1 = asked_most u s.rules s.lines h in
    let none : bit (order.unique == u) ≡ 0 = ap bit (ne_eqb order.unique u other) in
    asked_on u s.lines order (replies p order) other h
    (told_once u (replies p order) (step_once settles u p order (omega (arith, most, none))))
one_kept settles u s false order other (inr h) =
    let p : Snapshot = snapshot_of (state_after s.rules s.lines) in
    inr (replied_on u s.lines order (replies p order) other h
    (replies_others settles u p order other (counted_none u s.rules s.lines (count_replied u s.lines h))))

-- ---- the order itself

first_on : (u : ℕ) (lines : List Line) (order : Order) (tolds : List Told) → order.unique ≡ u → HaveNothing u lines
    → AllOthers u tolds ⊎ HasReplyTo u tolds → HasOne u (lines ++ step_lines 0 order tolds)
first_on u lines order tolds named none (inl others) = inl (record {
  worker = 0;
  order = order;
  before = lines;
  after = told_lines tolds;
  named = named;
  stand = refl;
  none_before = none;
  none_after = tolds_nothing u tolds others;
})
first_on u lines order tolds named none (inr has) = inr (record {
  worker = 0;
  order = order;
  told = has.told;
  before = lines;
  between = told_lines has.before;
  after = told_lines has.after;
  named = named;
  own = has.named;
  stand = ap (λ l. lines ++ line.Asked 0 order ∷ l) (told_apart u tolds has)
      ∙ sym (append_assoc lines (line.Asked 0 order ∷ told_lines has.before) (line.Told has.told ∷ told_lines has.after));
  none_before = none;
  none_between = tolds_nothing u has.before has.others_before;
  none_after = tolds_nothing u has.after has.others_after;
})

order_one : Settles → (u : ℕ) (s : Session) (order : Order) → order.unique ≡ u → HaveNothing u s.lines
    → HasOne u (with_order s false order).lines
order_one settles u s order named none =
    let p : Snapshot = snapshot_of (state_after s.rules s.lines) in
    let free : many u p.view.parked ≡ 0 = counted_none u s.rules s.lines (others_counted u 0 s.lines none) in
    let one : bit (order.unique == u) ≡ 1 = ap bit (eq-eqb order.unique u named) in
    first_on u s.lines order (replies p order) named none
    (told_once u (replies p order) (step_once settles u p order (omega (arith, free, one))))

message_one : Settles → (whole : Bool) (c : Came) (order : Order) → said_to whole c.message ≡ Ok order
    → IsSoOf whole c (HasOne (unique_of c.message))
message_one settles whole c order says t same lacks far sound none e =
    let u : ℕ = unique_of c.message in
    let now : Session = record t { handshake = moved c.message } in
    let is : with_message t c ≡ with_orders now (order ∷ []) c.refused =
    plain_met t c lacks far ∙ ap (λ it. with_incoming now c.refused (incoming_by c.message it))
    (ap (λ w. said_to w c.message) same ∙ says) in
    let named : order.unique ≡ u =
    subst (λ it. AreOf u (incoming_by c.message it)) says (orders_are whole c.message) in
    subst (λ (x : Session). HasOne u x.lines)
    (sym (is ∙ none_refused now (order ∷ []) c.refused (ap (λ (x : Session). x.refused) (sym is) ∙ e)))
    (order_one settles u now order named none)

-- ---- what is sent again

nothing_of : (u : ℕ) (lines : List Line) (l : Line) → HaveNothing u lines → Contains lines l → IsOf u l → ⊥
nothing_of u [] l none in_it e = let lt = in_it.1 in omega (arith, lt)
nothing_of u (x ∷ lines) l none in_it e =
    ⊎_elim (λ head. none.0 (subst (IsOf u) (head_is x l head) e)) (λ tail. nothing_of u lines l none.1 tail e)
    (Contains-append_cases (x ∷ []) lines l in_it)

-- a reply that stands in lines of which only one line can be of its unique
only_told : (u : ℕ) (front back : List Line) (l : Line) (told : Told) → told.unique ≡ u → HaveNothing u back
    → (Contains front (line.Told told) → ⊥) → Contains (front ++ l ∷ back) (line.Told told) → line.Told told ≡ l
only_told u front back l told named none other in_it =
    ⊎_elim (λ first. absurd (other first))
    (λ rest. ⊎_elim (λ head. head_is l (line.Told told) head)
    (λ tail. absurd (nothing_of u back (line.Told told) none tail named))
    (Contains-append_cases (l ∷ []) back (line.Told told) rest))
    (Contains-append_cases front (l ∷ back) (line.Told told) in_it)

no_told_in : (u worker : ℕ) (order : Order) (before after : List Line) (told : Told) → told.unique ≡ u
    → HaveNothing u before → HaveNothing u after → Contains (before ++ line.Asked worker order ∷ after) (line.Told told) → ⊥
no_told_in u worker order before after told named none_before none_after in_it =
    let is : line.Told told ≡ line.Asked worker order =
    only_told u before after (line.Asked worker order) told named none_after
    (λ first. nothing_of u before (line.Told told) none_before first named) in_it in
    cc is

-- the last reply to a unique, and no request of it is parked
record IsLast (rules : Rules) (lines : List Line) (told : Told) : Type 0 where
  free : is_parked told.unique (state_after rules lines).view.parked ≡ false
  last : recalled told.unique lines ≡ recall.Told told

is_last : (rules : Rules) (lines : List Line) (told : Told) → HasOne told.unique lines → Contains lines (line.Told told)
    → IsLast rules lines told
is_last rules lines told (inl h) in_it =
    absurd (no_told_in told.unique h.worker h.order h.before h.after told refl h.none_before h.none_after
    (subst (λ l. Contains l (line.Told told)) h.stand in_it))
is_last rules lines told (inr h) in_it =
    let u : ℕ = told.unique in
    let front : List Line = h.before ++ line.Asked h.worker h.order ∷ h.between in
    let same : line.Told told ≡ line.Told h.told =
    only_told u front h.after (line.Told h.told) told refl h.none_after
    (no_told_in u h.worker h.order h.before h.between told refl h.none_before h.none_between)
    (subst (λ l. Contains l (line.Told told)) h.stand in_it) in
    record {
      free = counted_free u rules lines (count_replied u lines h);
      last = ap (recalled u) (h.stand ∙ ap (λ l. front ++ l ∷ h.after) (sym same))
          ∙ fold-append (with_line u) (recall.Asked 0) front (line.Told told ∷ h.after)
          ∙ ap (λ b. fold (with_line u) b h.after) (told_said told (fold (with_line u) (recall.Asked 0) front))
          ∙ others_said u (recall.Told told) h.after h.none_after;
    }

near_told : (s : Session) (told : Told) → s.heard ≡ [] → IsLast s.rules s.lines told → IsNear s told.unique
    → recalled_in s told.unique ≡ recall.Told told
near_told s told none last (inl waits) = let both : true ≡ false = sym waits ∙ last.free in absurd (cc both)
near_told s told none last (inr same) = same ∙ ap (λ h. recalled told.unique (h ++ s.lines)) none ∙ last.last

-- the message that comes again, among those that were taken
each_near : (s : Session) (taken again : List Came) (m : Came)
    → AreOnesAgain s taken again → Contains again m → IsOneAgain s taken m.message
each_near s taken [] m all in_it = absurd (let lt = in_it.1 in omega (arith, lt))
each_near s taken (x ∷ again) m all in_it =
    ⊎_elim (λ head. subst (λ (y : Came). IsOneAgain s taken y.message) (sym (head_is x m head)) all.0)
    (λ tail. each_near s taken again m all.1 tail)
    (Contains-append_cases (x ∷ []) again m in_it)

same_unique : (a b m : List ℕ) → SaysTheSame a m → SaysTheSame b m → unique_of a ≡ unique_of b
same_unique a b m first second =
    let same : Some (unique_of a) ≡ Some (unique_of b) = sym first.mark ∙ second.mark in cc same

pub told_again : Settles → (rules : Rules) (early taken again unread : List Came) (c m : Came) (order : Order) (told : Told)
    → HasTaken (session_of rules early) taken unread → AreOnesAgain (session_of rules (early ++ taken)) taken again
    → Contains taken c → said_to rules.whole c.message ≡ Ok order → told.unique ≡ unique_of c.message
    → Contains (session_of rules (early ++ taken)).lines (line.Told told) → Contains again m
    → SaysTheSame c.message m.message
    → Contains (replies_again (session_of rules (early ++ taken)) again) (spelling_of told)
told_again settles rules early taken again unread c m order told has ones in_taken says named there comes same =
    subst (λ t. Contains (replies_again t again) (spelling_of told)) (sym joined)
    (flat_contains f again m (spelling_of told) comes
    (subst (λ l. Contains l (spelling_of told)) (sym one) (0, omega arith, refl)))
  where
    s : Session
    s = session_of rules early

    first : Session
    first = session_from s taken

    joined : session_of rules (early ++ taken) ≡ first
    joined = fold-append with_message (opening_session rules) early taken

    began : first.rules ≡ rules
    began = rules_from s taken ∙ rules_from (opening_session rules) early

    f : Came → List (List ℕ)
    f x = reply_unmarked first (unmarked true (unique_of x.message)) (incoming_by x.message (said_to first.rules.whole x.message))

    is : IsStill c (HasOne (unique_of c.message)) first.lines
    is = still_so settles rules.whole s taken c (HasOne (unique_of c.message))
        (ap (λ (r : Rules). r.whole) (rules_from (opening_session rules) early)) (resends_from (opening_session rules) early) has.began
        (session_sound (opening_session rules) early nothing)
        (own_front s.lines taken unread (own_alone s (taken ++ unread) (none_heard rules early) has.own)) has.far has.unrefused
        in_taken (one_kept settles (unique_of c.message)) (message_one settles rules.whole c order says)

    last : IsLast first.rules first.lines told
    last = is_last first.rules first.lines told (subst (λ n. HasOne n first.lines) (sym named) is.so)
        (subst (λ (t : Session). Contains t.lines (line.Told told)) joined there)

    near : IsNear first told.unique
    near =
        let it = each_near first taken again m (subst (λ t. AreOnesAgain t taken again) joined ones) comes in
        subst (IsNear first) (same_unique it.came.message c.message m.message it.same same ∙ sym named) it.near

    one : f m ≡ spelling_of told ∷ []
    one =
        ap (λ mark. reply_unmarked first mark (incoming_by m.message (said_to first.rules.whole m.message)))
        (same.mark ∙ ap Some (sym named))
        ∙ by_order (incoming_by m.message (said_to first.rules.whole m.message))
        (same.says first.rules.whole ∙ ap (incoming_by c.message) (ap (λ (r : Rules). said_to r.whole c.message) began ∙ says))
      where
        u : ℕ
        u = unique_of c.message

        sent : reply_had first told.unique ≡ spelling_of told ∷ []
        sent = had_reply (is_parked told.unique (state_after first.rules first.lines).view.parked)
            (recalled_in first told.unique) told last.free
            (near_told first told (heard_from s taken ∙ none_heard rules early) last near)

        by_order : (it : Incoming) → incoming_under u it ≡ incoming.Order order → reply_again first told.unique it ≡ spelling_of told ∷ []
        by_order (incoming.Order other) e = sent
        by_order (incoming.Batch orders) e = sent
        by_order (incoming.Response response) e = absurd (cc e)
