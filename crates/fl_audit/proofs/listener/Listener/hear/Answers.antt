use Rattle.std.proofs.Common.{◌≡◌, ◌∙◌, ◌+◌, ◌-◌, Some, List, ℕ, take, take_at, drop, refl, sym, ap, subst}
use Rattle.std.proofs.Common.{arith}
use Rattle.std.specs.Vec.{with_items}
use Rattle.fl_audit.proofs.Listening.{hears_stop, hears_lines}
use Rattle.fl_audit.proofs.listener.Listener.hear.Goals as goal
use Rattle.fl_audit.specs.Inside.Hearing.{HearsAll, Stops}
use Rattle.fl_audit.specs.declared.listener.Listener.{Listener}

pub returns-in-Err-clause-hears : goal.returns-in-Err-clause-hears
returns-in-Err-clause-hears c =
    let before = c.args.self.now in
    let filled : ℕ = before.kept + c.args.came in
    let after : Listener =
    record { judge = c.hear_lines.new.judge; bytes = before.bytes; most = before.most; room = before.room; kept = before.kept; stopped = Some c.in-Err.stopped } in
    hears_stop c.a_line_is_short.ensures.short before after c.args.came c.in-Err.stopped (sym c.is_some.ensures ∙ c.if-is_some.false)
    (subst (λ (t : List ℕ). Stops before.most before.judge.lines c.hear_lines.new.judge.lines (take filled t) c.in-Err.stopped) c.deref.ensures.value c.in-Err.ensures.heard)
    refl refl

pub returns-in-Ok-clause-hears : goal.returns-in-Ok-clause-hears
returns-in-Ok-clause-hears c =
    let before = c.args.self.now in
    let filled : ℕ = before.kept + c.args.came in
    let after : Listener =
    record { judge = c.hear_lines.new.judge; bytes = before.bytes + (filled - c.in-Ok.left); most = before.most; room = with_items before.room c.keep.new.room; kept = c.min-self.result; stopped = before.stopped } in
    let same : after.room.items ≡ c.keep.new.room = take_at c.keep.new.room _ before.room.len (c.keep.auto.room ∙ c.deref_mut.ensures.len) in
    hears_lines c.a_line_is_short.ensures.short before after c.args.came c.in-Ok.left (sym c.is_some.ensures ∙ c.if-is_some.false)
    (let within = c.requires.within in let room = c.requires.room.room in omega (arith, within, room))
    (subst (λ (t : List ℕ). HearsAll before.judge.lines c.hear_lines.new.judge.lines (take filled t) c.in-Ok.left) c.deref.ensures.value c.in-Ok.ensures.heard)
    c.min-self.ensures
    (ap (take c.min-self.result) same ∙ c.keep.ensures ∙ ap (λ (r : List ℕ). take c.min-self.result (drop (filled - c.in-Ok.left) r)) c.deref_mut.ensures.value)
    refl refl
