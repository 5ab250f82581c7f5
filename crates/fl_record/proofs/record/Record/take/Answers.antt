use Rattle.std.proofs.Common.{◌≡◌, ℕ, ◌↔◌, ◌+◌, Option, None, Some, IfSome, Result, List, ◌∷◌, [], ◌++◌, refl, ap, sym, ◌∙◌, subst, arith}
use Rattle.fl_counter.specs.Tolds.{own_replies}
use Rattle.fl_core.specs.State.{Snapshot, snapshot_of}
use Rattle.fl_core.specs.Step.{next, replies, replies_in}
use Rattle.fl_history.specs.declared.history.Line.{Line}
use Rattle.fl_order.specs.declared.errno.Errno.{Errno}
use Rattle.fl_order.specs.declared.order.Order.{Order}
use Rattle.fl_order.specs.declared.told.Answer.{Answer}
use Rattle.fl_order.specs.declared.told.Told.{Told}
use Rattle.fl_counter.specs.Answered.{step_lines}
use Rattle.fl_desk.specs.Legal.{orders_asked}
use Rattle.fl_desk.specs.Replay.{state_after}
use Rattle.fl_log.specs.Asked.{Ask}
use Rattle.fl_waiting.specs.declared.rules.Rules.{Rules}
use Rattle.fl_record.specs.Asks.{history_of, present_after}
use Rattle.fl_record.specs.Seats.{HasMostOf}
use Rattle.fl_record.specs.Seats.{Place}
use Rattle.fl_record.proofs.Counts.{one_more_by, orders_by, step_asks_one_order}
use Rattle.fl_record.proofs.Histories.{history_more, present_more}
use Rattle.fl_record.proofs.Prefixes.{of_another}
use Rattle.fl_record.proofs.record.Record.take.Goals as goal

-- what was told alone by these replies was told alone by the same
alone_of : (order : Order) (found : Option (Option (Result Answer Errno))) (told tolds : List Told)
    → ((reply : Option (Result Answer Errno)) → (found ≡ Some reply) ↔ (told ≡ own_replies order reply)) → told ≡ tolds
    → IfSome found (λ reply. tolds ≡ own_replies order reply)
alone_of order None told tolds alone same = tt
alone_of order (Some reply) told tolds alone same = sym same ∙ (alone reply).0 refl

-- what was added for the worker that contracts see was added for the seat's
added_by : (was now : List Ask) (order : Order) (seen worker : ℕ) → worker ≡ seen
    → now ≡ was ++ record { worker = seen; order = order } ∷ [] → now ≡ was ++ record { worker = worker; order = order } ∷ []
added_by was now order seen worker same added =
    subst (λ (w : ℕ). now ≡ was ++ record { worker = w; order = order } ∷ []) (sym same) added

-- what the desk told is what the asks so far answer
answered_as : (ours : Rules) (was : List Ask) (order : Order) (present : Snapshot) (lines : List Line) (told : List Told)
    → present ≡ present_after ours was → lines ≡ history_of ours was
    → told ≡ replies_in (state_after present.rules lines) order → (present_after ours was).rules ≡ ours
    → present_after ours was ≡ snapshot_of (state_after ours (history_of ours was))
    → told ≡ replies (present_after ours was) order
answered_as ours was order present lines told there had is same stands =
    is ∙ (λ i. replies_in (state_after (there i).rules (had i)) order)
    ∙ ap (λ r. replies_in (state_after r (history_of ours was)) order) same
    ∙ ap (λ (p : Snapshot). replies p order) (sym stands)

-- a refusal leaves all parts as they were, but what is stored
pub invariant_of-self : goal.invariant_of-self
invariant_of-self g c =
    let ours = g.L.BoardName.rules in
    let same : c.self.inside.all ≡ c.entered.new.all = sym c.in-Err.ensures.refused in
    let lines = c.entered.ensures.same.0 in (
      c.self.invariant.0 ∙ same,
      lines ∙ c.self.invariant.1 ∙ ap (history_of ours) same,
      c.entered.ensures.same.1 ∙ c.self.invariant.2 ∙ ap (present_after ours) same,
      c.self.invariant.3 ∙ ap orders_asked (sym lines),
    )

pub returns-in-Err-clause-stored : goal.returns-in-Err-clause-stored
returns-in-Err-clause-stored g c = rw (← c.self.view_is) c.entered.ensures.stored

pub add-requires-2-clause-before : goal.add-requires-2-clause-before
add-requires-2-clause-before g c = c.in-Ok.ensures.before ∙ sym c.self.invariant.0

pub add-requires-2-clause-next : goal.add-requires-2-clause-next
add-requires-2-clause-next g c =
    let ours = g.L.BoardName.rules in
    let was = c.self.inside.all in
    let order = c.args.order.now in
    let worker = c.seat.inside.worker in
    let ask : Ask = record { worker = worker; order = order } in
    let all = added_by was _ order _ worker (ap (λ (p : Place). p.worker) c.seat.view_is) c.in-Ok.ensures.added in
    ap (present_after ours) all ∙ present_more ours was ask
    ∙ ap (λ asks. next (present_after ours asks) order) (sym c.in-Ok.ensures.before)

pub add-requires-2-clause-alone : goal.add-requires-2-clause-alone
add-requires-2-clause-alone g c =
    let ours = g.L.BoardName.rules in
    let was = c.self.inside.all in
    let order = c.args.order.now in
    let present = c.entered.ensures.same.1 ∙ c.self.invariant.2 in
    let lines = c.entered.ensures.same.0 ∙ c.self.invariant.1 in
    let leads = c.asks_lead.ensures in
    let answered = answered_as ours was order _ _ _ present lines c.in-Ok-take.ensures.replies (leads.rules ours was) (leads.stands ours was) in
    alone_of order c.own_alone.result c.take.new.tolds.told (replies (present_after ours c.in-Ok.before) order) c.own_alone.ensures
    (answered ∙ ap (λ asks. replies (present_after ours asks) order) (sym c.in-Ok.ensures.before))

pub invariant_of-self-2 : goal.invariant_of-self-2
invariant_of-self-2 g c =
    let ours = g.L.BoardName.rules in
    let was = c.self.inside.all in
    let order = c.args.order.now in
    let worker = c.seat.inside.worker in
    let ask : Ask = record { worker = worker; order = order } in
    let all = added_by was _ order _ worker (ap (λ (p : Place). p.worker) c.seat.view_is) c.in-Ok.ensures.added in
    let present = c.entered.ensures.same.1 ∙ c.self.invariant.2 in
    let lines = c.entered.ensures.same.0 ∙ c.self.invariant.1 in
    let leads = c.asks_lead.ensures in
    let answered = answered_as ours was order _ _ _ present lines c.in-Ok-take.ensures.replies (leads.rules ours was) (leads.stands ours was) in
    let taken : c.take.new.self.lines ≡ history_of ours was ++ step_lines worker order c.take.new.tolds.told =
    c.in-Ok-take.ensures.lines ∙ ap (λ l. l ++ step_lines worker order c.take.new.tolds.told) lines in (
      c.add-2.ensures.asks,
      taken ∙ ap (λ t. history_of ours was ++ step_lines worker order t) answered ∙ sym (history_more ours was ask)
          ∙ ap (history_of ours) (sym all),
      c.in-Ok-take.ensures.next ∙ ap (λ (p : Snapshot). next p order) present ∙ sym (present_more ours was ask) ∙ ap (present_after ours) (sym all),
      c.add.ensures.total ∙ ap (λ n. n + 1) (c.self.invariant.3 ∙ ap orders_asked c.self.invariant.1)
          ∙ sym (ap orders_asked taken ∙ step_asks_one_order (history_of ours was) worker order c.take.new.tolds.told),
    )

pub invariant_of-seat : goal.invariant_of-seat
invariant_of-seat g c =
    let ours = g.L.BoardName.rules in
    let was = c.self.inside.all in
    let order = c.args.order.now in
    let worker = c.seat.inside.worker in
    let ask : Ask = record { worker = worker; order = order } in
    let added : c.again.result ≡ was ++ ask ∷ [] = c.again.ensures ∙ added_by was _ order _ worker (ap (λ (p : Place). p.worker) c.seat.view_is) c.in-Ok.ensures.added in
    let most = subst (λ (p : Place). HasMostOf (history_of ours was) p) (sym c.seat.view_is) (c.in-Ok.ensures.most) in
    let more : orders_by worker (history_of ours c.again.result) ≡ orders_by worker (history_of ours was) + 1 =
    ap (λ asks. orders_by worker (history_of ours asks)) added ∙ ap (orders_by worker) (history_more ours was ask)
    ∙ one_more_by worker (history_of ours was) order (replies (present_after ours was) order) in
    (c.add.ensures.parts ∙ c.seat.invariant.0, omega (arith, c.add.ensures.amount, most.count, more))

pub returns-clause-stored : goal.returns-clause-stored
returns-clause-stored g c =
    rw (← c.self.view_is)
    (of_another c.self.inside.desk.stored c.entered.new.desk.stored c.take.new.self.stored c.entered.ensures.stored c.take.ensures.stored)

pub returns-clause-handed : goal.returns-clause-handed
returns-clause-handed g c =
    let ours = g.L.BoardName.rules in
    let was = c.self.inside.all in
    let order = c.args.order.now in
    let worker = c.seat.inside.worker in
    let ask : Ask = record { worker = worker; order = order } in
    let added : c.again.result ≡ was ++ ask ∷ [] = c.again.ensures ∙ added_by was _ order _ worker (ap (λ (p : Place). p.worker) c.seat.view_is) c.in-Ok.ensures.added in
    let present = c.entered.ensures.same.1 ∙ c.self.invariant.2 in
    let lines = c.entered.ensures.same.0 ∙ c.self.invariant.1 in
    let leads = c.asks_lead.ensures in
    let answered = answered_as ours was order _ _ _ present lines c.in-Ok-take.ensures.replies (leads.rules ours was) (leads.stands ours was) in
    let most = subst (λ (p : Place). HasMostOf (history_of ours was) p) (sym c.seat.view_is) (c.in-Ok.ensures.most) in
    rw (← c.seat.view_is) (record {
      before = history_of ours was;
      handed = ap (history_of ours) added ∙ history_more ours was ask
          ∙ ap (λ t. history_of ours was ++ step_lines worker order t) (sym answered);
      legal = leads.legal ours c.again.result;
      had = most.had;
      answered = most.answered;
      saw = most.saw;
      seen = refl;
      count = c.add.ensures.amount;
      recorded = (invariant_of-seat g c).1;
    })

pub returns-clause-all : goal.returns-clause-all
returns-clause-all g c = ap (history_of g.L.BoardName.rules) (sym c.again.ensures)
