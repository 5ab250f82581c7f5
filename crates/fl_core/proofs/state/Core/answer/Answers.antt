use Rattle.std.proofs.Common.{◌≡◌, ◌∙◌, true, false, cond, refl, sym, subst, ap}
use Rattle.fl_core.specs.Replies.{reply_to, taken_reply}
use Rattle.fl_counter.specs.Tolds.{own_replies}
use Rattle.fl_core.specs.State.{Snapshot}
use Rattle.fl_waiting.specs.Waiting.{is_parked, AllWait}
use Rattle.fl_core.specs.declared.state.Core.TheInside.{Inside}
use Rattle.fl_core.proofs.Steps.{reads_refused, reads_replies, reads_next}
use Rattle.fl_core.proofs.state.Core.answer.Goals as goal
use Rattle.fl_order.specs.Order.{only_reads}

pub returns-then-has-clause-replies : goal.returns-then-has-clause-replies
returns-then-has-clause-replies c is =
    let order = c.args.order.now in
    let p : Snapshot = c.args.self.now in
    let waiting : AllWait p.rules p.marking p.view.parked = subst (λ (t : Snapshot). AllWait t.rules t.marking t.view.parked) c.self.view_is c.self.invariant.0 in
    let reads : only_reads order.op ≡ true = c.in_ok-result.ensures.reads.0 refl in
    let found : is_parked order.unique p.view.parked ≡ true = ap (λ (t : Snapshot). is_parked order.unique t.view.parked) (sym c.self.view_is)
    ∙ ap (λ (i : Inside). is_parked order.unique i.parts.view.parked) (sym c.self-inside.view_is) ∙ sym c.has.ensures.found ∙ c.if-has.true in
    reads_replies order p waiting reads
    ∙ ap (λ b. own_replies order (cond b (taken_reply order.op) (reply_to p.rules p.view p.marking order order.op))) found
    ∙ ap (own_replies order) (reads_refused order.op reads)

pub returns-then-has-clause-unchanged : goal.returns-then-has-clause-unchanged
returns-then-has-clause-unchanged c is =
    let order = c.args.order.now in
    let p : Snapshot = c.args.self.now in
    let waiting : AllWait p.rules p.marking p.view.parked = subst (λ (t : Snapshot). AllWait t.rules t.marking t.view.parked) c.self.view_is c.self.invariant.0 in
    let reads : only_reads order.op ≡ true = c.in_ok-result.ensures.reads.0 refl in
    reads_next order p waiting reads

pub returns-clause-replies : goal.returns-clause-replies
returns-clause-replies c is =
    let order = c.args.order.now in
    let p : Snapshot = c.args.self.now in
    let waiting : AllWait p.rules p.marking p.view.parked = subst (λ (t : Snapshot). AllWait t.rules t.marking t.view.parked) c.self.view_is c.self.invariant.0 in
    let reads : only_reads order.op ≡ true = c.in_ok-result.ensures.reads.0 refl in
    let found : is_parked order.unique p.view.parked ≡ false = ap (λ (t : Snapshot). is_parked order.unique t.view.parked) (sym c.self.view_is)
    ∙ ap (λ (i : Inside). is_parked order.unique i.parts.view.parked) (sym c.self-inside.view_is) ∙ sym c.has.ensures.found ∙ c.if-has.false in
    reads_replies order p waiting reads
    ∙ ap (λ b. own_replies order (cond b (taken_reply order.op) (reply_to p.rules p.view p.marking order order.op))) found
    ∙ ap (λ (t : Snapshot). own_replies order (reply_to t.rules t.view t.marking order order.op)) (sym c.self.view_is)
    ∙ ap (own_replies order) (sym (c.in_ok-result.ensures.reply refl))

pub returns-clause-unchanged : goal.returns-clause-unchanged
returns-clause-unchanged c is =
    let order = c.args.order.now in
    let p : Snapshot = c.args.self.now in
    let waiting : AllWait p.rules p.marking p.view.parked = subst (λ (t : Snapshot). AllWait t.rules t.marking t.view.parked) c.self.view_is c.self.invariant.0 in
    let reads : only_reads order.op ≡ true = c.in_ok-result.ensures.reads.0 refl in
    reads_next order p waiting reads
