use Rattle.std.proofs.Common.{◌∙◌, ap}
use Rattle.fl_history.specs.declared.place.Place.{Place}
use Rattle.lockd_commands.proofs.StateLemmas.{head_is}
use Rattle.lockd_commands.proofs.state.head_behind.Goals as goal

pub returns-clause-text : goal.returns-clause-text
returns-clause-text c =
    let laws = c.a_legal_history_goes_on_by_orders.ensures in
    head_is (record { leads = laws.leads; rules = laws.rules; next = laws.next }) c.args.judge.now.rules c.args.judge.now.lines
    c.in-Some.core.now c.in_ok-told.told.head c.in_ok-told.told.parts.items c.in_ok-text_of_head.field-0.items
    c.requires c.in-Some.ensures.is c.in_ok-told.ensures.leads
    (c.in_ok-told.ensures.lines ∙ ap (λ (p : Place). p.lines) c.place.ensures) c.in_ok-text_of_head.ensures
