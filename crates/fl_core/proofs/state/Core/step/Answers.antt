use Rattle.std.proofs.Common.{◌≡◌, ◌+◌, ◌++◌, ◌≤◌, ◌∙◌, true, List, Option, Result, length, length-append, sym, subst}
use Rattle.std.proofs.Common.{ap, arith}
use Rattle.fl_core.specs.Effects.{by_reply, replied, recorded, made}
use Rattle.fl_core.specs.Inside.Touched.{OthersWait}
use Rattle.fl_core.specs.Replies.{ended_by, reply_to}
use Rattle.fl_counter.specs.Tolds.{own_replies}
use Rattle.fl_core.specs.State.{Snapshot, snapshot_of}
use Rattle.fl_core.specs.Step.{settling, ChangesNothing}
use Rattle.fl_core.specs.declared.state.Core.TheInside.{Inside}
use Rattle.fl_waiting.specs.Waiting.{is_parked, AllWait, AreApart}
use Rattle.fl_core.proofs.Nexts.{next_read, next_waits, next_apart}
use Rattle.fl_core.proofs.Others.{others_taken}
use Rattle.fl_core.proofs.Quiet.{alone_quiet, step_quiet}
use Rattle.fl_core.proofs.Steps as steps
use Rattle.fl_core.proofs.state.Core.step.Goals as goal
use Rattle.fl_order.specs.declared.errno.Errno.{Errno}
use Rattle.fl_order.specs.declared.order.Order.{Order}
use Rattle.fl_order.specs.declared.told.Answer.{Answer}
use Rattle.fl_order.specs.declared.told.Told.{Told}

-- ---- the order's unique is that of a parked request

pub returns-then-has-clause-replies : goal.returns-then-has-clause-replies
returns-then-has-clause-replies c =
    let order = c.args.order.now in
    let p : Snapshot = c.args.self.now in
    let taken : is_parked order.unique p.view.parked ≡ true = ap (λ (t : Snapshot). is_parked order.unique t.view.parked) (sym c.self.view_is)
    ∙ ap (λ (i : Inside). is_parked order.unique i.parts.view.parked) (sym c.self-inside.view_is) ∙ sym c.has.ensures.found ∙ c.if-has.true in
    let waiting : AllWait p.rules p.marking p.view.parked = subst (λ (t : Snapshot). AllWait t.rules t.marking t.view.parked) c.self.view_is c.self.invariant.0 in
    c.tell.ensures.told ∙ ap (own_replies order) c.refusal.ensures ∙ sym (steps.refused_replies order p taken waiting)

pub returns-then-has-clause-next : goal.returns-then-has-clause-next
returns-then-has-clause-next c =
    let order = c.args.order.now in
    let p : Snapshot = c.args.self.now in
    let taken : is_parked order.unique p.view.parked ≡ true = ap (λ (t : Snapshot). is_parked order.unique t.view.parked) (sym c.self.view_is)
    ∙ ap (λ (i : Inside). is_parked order.unique i.parts.view.parked) (sym c.self-inside.view_is) ∙ sym c.has.ensures.found ∙ c.if-has.true in
    let waiting : AllWait p.rules p.marking p.view.parked = subst (λ (t : Snapshot). AllWait t.rules t.marking t.view.parked) c.self.view_is c.self.invariant.0 in
    sym (steps.refused_next order p taken waiting)

pub returns-then-has-clause-an_error_changes_nothing : goal.returns-then-has-clause-an_error_changes_nothing
returns-then-has-clause-an_error_changes_nothing c =
    let order = c.args.order.now in
    let p : Snapshot = c.args.self.now in
    subst (λ xs. ChangesNothing p order xs p) (sym c.tell.ensures.told) (alone_quiet order p c.refusal.result)

-- ---- it isn't

-- what was told and what waits after the order's own step are few
in_room : (order : Order) (own : Option (Result Answer Errno)) (p s : Snapshot) (tolds : List Told) → s ≡ made (by_reply order own) p
    → tolds ≡ own_replies order own → length p.view.parked ≤ p.rules.parked → length tolds + length s.view.parked ≤ p.rules.parked + 1
in_room order own p s tolds s_is tolds_are few =
    omega (arith, steps.room_left order own p few, ap length tolds_are, ap (λ (t : Snapshot). length t.view.parked) s_is)

pub end-touched-requires : goal.end-touched-requires
end-touched-requires c =
    let order = c.args.order.now in
    let p : Snapshot = c.args.self.now in
    let own = c.take-own.result.0 in
    let s_is : c.take-own.new.self ≡ made (by_reply order own) p = c.take-own.ensures.changed ∙ ap (made (by_reply order own)) c.self.view_is in
    let few : length p.view.parked ≤ p.rules.parked = subst (λ (t : Snapshot). length t.view.parked ≤ t.rules.parked) c.self.view_is c.self.invariant.2 in
    omega (arith, in_room order own p c.take-own.new.self c.tell-2.new.tolds.told s_is c.tell-2.ensures.told few, c.requires, c.clear.ensures.room, c.tell-2.ensures.room)

pub settle-requires-clause-room : goal.settle-requires-clause-room
settle-requires-clause-room c =
    let order = c.args.order.now in
    let p : Snapshot = c.args.self.now in
    let own = c.take-own.result.0 in
    let s_is : c.take-own.new.self ≡ made (by_reply order own) p = c.take-own.ensures.changed ∙ ap (made (by_reply order own)) c.self.view_is in
    let few : length p.view.parked ≤ p.rules.parked = subst (λ (t : Snapshot). length t.view.parked ≤ t.rules.parked) c.self.view_is c.self.invariant.2 in
    omega (
      arith,
      in_room order own p c.take-own.new.self c.tell-2.new.tolds.told s_is c.tell-2.ensures.told few,
      c.requires,
      c.clear.ensures.room,
      c.tell-2.ensures.room,
      c.end-touched.ensures.few,
      c.end-touched.ensures.room,
    )

pub settle-requires-clause-others : goal.settle-requires-clause-others
settle-requires-clause-others c =
    let order = c.args.order.now in
    let before : Snapshot = c.self.inside.parts in
    let s : Snapshot = c.take-own.new.self in
    let own = c.take-own.result.0 in
    let touched = c.take-own.result.1 in
    let ensured = c.take-own.ensures in
    let others = others_taken order before c.self.invariant.0 own touched s ensured.reply ensured.changed ensured.elsewhere in
    c.end-touched.ensures.others (subst (λ t. OthersWait t s.rules s.marking s.view.parked) (sym c.if_done.ensures) others)

-- what is known of the parts before the order, after its own step, and before settling
known : (c : goal.After-settle) → steps.IsFresh c.args.order.now c.take-own.result.0 c.args.self.now c.take-own.new.self c.end-touched.new.self
known c =
    let order = c.args.order.now in
    record {
      fresh = ap (λ (t : Snapshot). is_parked order.unique t.view.parked) (sym c.self.view_is)
          ∙ ap (λ (i : Inside). is_parked order.unique i.parts.view.parked) (sym c.self-inside.view_is) ∙ sym c.has.ensures.found ∙ c.if-has.false;
      own_is = c.take-own.ensures.reply ∙ ap (λ (t : Snapshot). reply_to t.rules t.view t.marking order order.op) c.self.view_is;
      s_is = c.take-own.ensures.changed ∙ ap (made (by_reply order c.take-own.result.0)) c.self.view_is;
      q_is = c.end-touched.ensures.parked;
      all = subst (λ (t : Snapshot). AllWait t.rules t.marking t.view.parked) c.self.view_is c.self.invariant.0;
      apart = subst (λ (t : Snapshot). AreApart t.view.parked) c.self.view_is c.self.invariant.1;
    }

-- no more waited than may
few_before : (c : goal.After-settle) → length c.args.self.now.view.parked ≤ c.args.self.now.rules.parked
few_before c = subst (λ (t : Snapshot). length t.view.parked ≤ t.rules.parked) c.self.view_is c.self.invariant.2

-- nor do afterwards
few_after : (c : goal.After-settle) → length c.settle.new.self.view.parked ≤ c.args.self.now.rules.parked
few_after c =
    let order = c.args.order.now in
    let own = c.take-own.result.0 in
    let k = known c in
    let ended = ended_by c.take-own.new.self.view.parked order.op own in
    let later = (settling c.end-touched.new.self).tolds in
    omega (
      arith,
      steps.few_stay order own c.args.self.now k.own_is (few_before c),
      ap (λ (t : Snapshot). length t.view.parked) k.s_is,
      c.end-touched.ensures.few,
      ap length c.end-touched.ensures.tolds,
      length-append c.tell-2.new.tolds.told ended,
      c.settle.ensures.few,
      ap length c.settle.ensures.tolds,
      length-append c.end-touched.new.tolds.told later,
    )

pub returns-clause-few : goal.returns-clause-few
returns-clause-few c =
    let order = c.args.order.now in
    let own = c.take-own.result.0 in
    let k = known c in
    omega (
      arith,
      in_room order own c.args.self.now c.take-own.new.self c.tell-2.new.tolds.told k.s_is c.tell-2.ensures.told (few_before c),
      c.end-touched.ensures.few,
      c.settle.ensures.few,
    )

-- what is told by then
told : (c : goal.After-settle) → c.settle.new.tolds.told
    ≡ (own_replies c.args.order.now c.take-own.result.0 ++ ended_by c.take-own.new.self.view.parked c.args.order.now.op c.take-own.result.0)
    ++ (settling c.end-touched.new.self).tolds
told c =
    let order = c.args.order.now in
    let own = c.take-own.result.0 in
    let s : Snapshot = c.take-own.new.self in
    c.settle.ensures.tolds
    ∙ ap (λ xs. xs ++ (settling c.end-touched.new.self).tolds)
    (c.end-touched.ensures.tolds ∙ ap (λ xs. xs ++ ended_by s.view.parked order.op own) c.tell-2.ensures.told)

pub returns-clause-replies : goal.returns-clause-replies
returns-clause-replies c = told c ∙ sym (steps.replies_are c.args.order.now c.take-own.result.0 c.args.self.now c.take-own.new.self c.end-touched.new.self (known c))

pub returns-clause-next : goal.returns-clause-next
returns-clause-next c =
    c.settle.ensures.present ∙ sym (steps.next_is c.args.order.now c.take-own.result.0 c.args.self.now c.take-own.new.self c.end-touched.new.self (known c))

pub returns-clause-an_error_changes_nothing : goal.returns-clause-an_error_changes_nothing
returns-clause-an_error_changes_nothing c =
    let order = c.args.order.now in
    let p : Snapshot = c.args.self.now in
    let own = c.take-own.result.0 in
    let s : Snapshot = c.take-own.new.self in
    let q : Snapshot = c.end-touched.new.self in
    let k = known c in
    subst (λ xs. ChangesNothing p order xs c.settle.new.self) (sym (told c))
    (subst (λ (t : Snapshot). ChangesNothing p order ((own_replies order own ++ ended_by s.view.parked order.op own) ++ (settling q).tolds) t)
    (sym c.settle.ensures.present) (step_quiet order p k.fresh k.all own s q k.s_is k.q_is (steps.settles_others order own p s q k)))

pub returns-clause-recorded : goal.returns-clause-recorded
returns-clause-recorded c s stands =
    let order = c.args.order.now in
    let k = known c in
    subst (λ xs. snapshot_of (recorded (replied order xs) s) ≡ c.settle.new.self) (sym (returns-clause-replies c))
    (next_read c.args.self.now order s k.all k.apart stands ∙ sym (returns-clause-next c))

pub invariant_of-self : goal.invariant_of-self
invariant_of-self c =
    let order = c.args.order.now in
    let p : Snapshot = c.args.self.now in
    let k = known c in
    let both = subst (λ (t : Snapshot). AllWait t.rules t.marking t.view.parked × AreApart t.view.parked) (sym (returns-clause-next c))
    (next_waits p order, next_apart p order k.all k.apart) in
    let allowed : c.settle.new.self.rules.parked ≡ p.rules.parked = ap (λ (t : Snapshot). t.rules.parked) (returns-clause-next c) in
    (both.0, both.1, omega (arith, few_after c, allowed))

pub returns-clause-waiting : goal.returns-clause-waiting
returns-clause-waiting c = (invariant_of-self c).0

pub returns-clause-apart : goal.returns-clause-apart
returns-clause-apart c = (invariant_of-self c).1
