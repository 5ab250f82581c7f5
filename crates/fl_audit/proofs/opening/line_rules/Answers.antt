use Rattle.std.proofs.Common.{◌≡◌, subst, rules}
use Rattle.fl_history.specs.declared.history.Line.TheVariants as line
use Rattle.fl_order.specs.declared.state_part.StateLine.TheVariants as state
use Rattle.fl_audit.specs.Opening.Inside.{IsHeadUnder}
use Rattle.fl_audit.proofs.opening.line_rules.Goals as goal

pub returns-in-State-Head-clause-none : goal.returns-in-State-Head-clause-none
returns-in-State-Head-clause-none c = λ none limits under.
    let is : c.args.line.now ≡ line.State (state.Head c.in-State-Head.head) = search rules in
    c.head_rules.ensures.none none limits (subst (λ l. IsHeadUnder l limits) is under)
