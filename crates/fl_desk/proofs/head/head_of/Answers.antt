use Rattle.std.proofs.Common.{subst}
use Rattle.fl_desk.specs.Heads.{head_lines}
use Rattle.fl_desk.specs.Leading.{LeadsTo}
use Rattle.fl_desk.proofs.Telling.{told_head}
use Rattle.fl_desk.proofs.head.head_of.Goals as goal

pub returns-clause-told : goal.returns-clause-told
returns-clause-told c =
    (told_head c.args.core.now c.first_of.result c.new.result.items c.tell_state.new.sink.parts.items c.first_of.ensures.rules
    c.first_of.ensures.node c.first_of.ensures.fh c.new.ensures.items
    (c.tell_state.ensures.told c.if-not-tell_state.false c.requires)).0

pub returns-clause-leads : goal.returns-clause-leads
returns-clause-leads c =
    let parts = c.tell_state.new.sink.parts.items in
    let told = told_head c.args.core.now c.first_of.result c.new.result.items parts c.first_of.ensures.rules
    c.first_of.ensures.node c.first_of.ensures.fh c.new.ensures.items
    (c.tell_state.ensures.told c.if-not-tell_state.false c.requires) in
    subst (LeadsTo (head_lines c.first_of.result parts)) told.1
    (c.a_head_leads_to_what_it_tells.ensures.leads c.args.core.now.rules c.first_of.result parts told.0)
