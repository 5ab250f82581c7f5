use Rattle.std.proofs.Common.{◌≡◌, ◌<◌, sym, subst}
use Rattle.fl_judge.proofs.Heads.{begin_on, begin_wrong}
use Rattle.fl_judge.proofs.replay.Replay.begin.Goals as goal
use Rattle.fl_order.specs.declared.state_part.Head.{Head}
use Rattle.fl_order.specs.declared.state_part.StateLine.TheVariants as state
use Rattle.fl_desk.specs.Heads.{NamesRules}

pub returns-then-not-may_begin-clause-goes : goal.returns-then-not-may_begin-clause-goes
returns-then-not-may_begin-clause-goes c =
    begin_wrong c.a_head_leads_to_what_it_tells.ensures.begins c.args.self.now (state.Head c.args.head.now) c.requires.unheard
    (λ head is names node fh.
    let same : head ≡ c.args.head.now = cc is in
    let names_it : NamesRules c.args.head.now c.args.self.now.core.rules = subst (λ (h : Head). NamesRules h c.args.self.now.core.rules) same names in
    let node_it : 1 < c.args.head.now.node = subst (λ (h : Head). 1 < h.node) same node in
    let fh_it : 0 < c.args.head.now.fh = subst (λ (h : Head). 0 < h.fh) same fh in
    cc (c.may_begin.ensures.1 (subst (NamesRules c.args.head.now) (sym c.rules.ensures) names_it, node_it, fh_it), c.if-not-may_begin.true))

pub returns-clause-goes : goal.returns-clause-goes
returns-clause-goes c =
    let may = c.may_begin.ensures.0 c.if-not-may_begin.false in
    begin_on c.args.self.now c.args.head.now c.requires.unheard (c.requires.ready.fresh c.requires.unheard)
    (subst (NamesRules c.args.head.now) c.rules.ensures may.0) may.1 may.2 c.begin_at.new.self c.begin_at.ensures
