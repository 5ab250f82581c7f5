use Rattle.std.proofs.Common.{◌≡◌, ◌∙◌, ◌++◌, ◌∷◌, [], ap, length, arith}
use Rattle.fl_history.specs.declared.history.Line.TheVariants.{State}
use Rattle.fl_history.specs.declared.records.ShortLine.TheVariants as record_of
use Rattle.fl_history.proofs.Opening.{state_kept}
use Rattle.fl_history.proofs.lines.Lines.push_state.Goals as goal

pub invariant_of-self-2 : goal.invariant_of-self-2
invariant_of-self-2 c =
    let s = c.self.inside in
    let room = c.self.invariant.1 in
    let same = c.in_ok-reserve.ensures.items in
    let joins : c.push.new.self.items ≡ s.states.items ++ c.args.state.now ∷ [] =
    c.push.ensures.items ∙ ap (λ l. l ++ c.args.state.now ∷ []) same in (
      (state_kept s.records.items c.push-2.new.self.items s.asks.items s.answers.items s.states.items c.push.new.self.items s.names.items
          c.args.state.now c.self.invariant.0 joins
          (c.push-2.ensures.items ∙ ap (λ at. s.records.items ++ record_of.State at ∷ []) (c.len-at.ensures.len ∙ ap length same))).0,
      record {
        for_records = omega (arith, c.push-2.ensures.room, room.for_records);
        for_asks = omega (arith, room.for_asks);
        for_answers = omega (arith, room.for_answers);
        for_names = omega (arith, room.for_names);
      },
    )

pub returns-clause-items : goal.returns-clause-items
returns-clause-items c =
    let s = c.self.inside in
    let same = c.in_ok-reserve.ensures.items in
    let joins : c.push.new.self.items ≡ s.states.items ++ c.args.state.now ∷ [] =
    c.push.ensures.items ∙ ap (λ l. l ++ c.args.state.now ∷ []) same in
    (state_kept s.records.items c.push-2.new.self.items s.asks.items s.answers.items s.states.items c.push.new.self.items s.names.items
    c.args.state.now c.self.invariant.0 joins
    (c.push-2.ensures.items ∙ ap (λ at. s.records.items ++ record_of.State at ∷ []) (c.len-at.ensures.len ∙ ap length same))).1
    ∙ ap (λ v. v.items ++ State c.args.state.now ∷ []) c.self.view_is
