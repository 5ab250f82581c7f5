use Rattle.std.proofs.Common.{◌∙◌, [], ap, subst}
use Rattle.fl_core.specs.State.{opening, snapshot_of}
use Rattle.fl_desk.specs.Leading.{LeadsTo}
use Rattle.fl_desk.specs.Legal.{IsLegal}
use Rattle.fl_desk.specs.Replay.{state_after}
use Rattle.fl_record.specs.Asks.{history_of, present_after}
use Rattle.fl_record.proofs.Histories.{asks_from, no_head, same_rules}
use Rattle.fl_record.proofs.laws.asks_lead.Goals as goal

pub returns-clause-rules : goal.returns-clause-rules
returns-clause-rules c rules asks = same_rules (snapshot_of (opening rules)) asks

pub returns-clause-legal : goal.returns-clause-legal
returns-clause-legal c rules asks =
    let law = c.an_order_leads_on.ensures in
    let leads : LeadsTo (history_of rules asks) (present_after rules asks) =
    asks_from law.step [] (snapshot_of (opening rules)) asks (law.nothing rules) in
    subst (λ r. IsLegal r (history_of rules asks)) (same_rules (snapshot_of (opening rules)) asks) leads.legal

pub returns-clause-stands : goal.returns-clause-stands
returns-clause-stands c rules asks =
    let law = c.an_order_leads_on.ensures in
    let leads : LeadsTo (history_of rules asks) (present_after rules asks) =
    asks_from law.step [] (snapshot_of (opening rules)) asks (law.nothing rules) in
    leads.stands ∙ ap (λ r. snapshot_of (state_after r (history_of rules asks))) (same_rules (snapshot_of (opening rules)) asks)

pub returns-clause-headless : goal.returns-clause-headless
returns-clause-headless c rules asks =
    let law = c.no_head_comes_later.ensures in
    no_head law.step law.both (snapshot_of (opening rules)) asks
