use Rattle.std.proofs.Common.{◌∙◌, ◌++◌, ◌∷◌, [], ap, arith}
use Rattle.fl_history.specs.declared.history.Line.TheVariants.{Asked}
use Rattle.fl_history.specs.declared.records.ShortLine.TheVariants as record_of
use Rattle.fl_history.proofs.Opening.{asked_kept}
use Rattle.fl_history.proofs.lines.Lines.push_asked.Goals as goal

pub invariant_of-self : goal.invariant_of-self
invariant_of-self c =
    let s = c.self.inside in
    let k = c.keep_op-op in
    let room = c.self.invariant.1 in (
      (asked_kept s.records.items c.push-2.new.self.items s.asks.items c.push.new.self.items s.answers.items s.states.items s.names.items k.new.names.items
          c.args.worker c.args.order.now k.result c.new.result c.self.invariant.0 k.ensures.names k.ensures.there k.ensures.opened c.new.ensures
          c.push.ensures.items (c.push-2.ensures.items ∙ ap (λ at. s.records.items ++ record_of.Asked at ∷ []) c.len-at.ensures.len)).0,
      record {
        for_records = omega (arith, c.push-2.ensures.room, room.for_records);
        for_asks = omega (arith, c.push.ensures.room, room.for_asks);
        for_answers = omega (arith, room.for_answers);
        for_names = omega (arith, k.ensures.room, room.for_names, c.requires, ap (λ v. v.room) c.self.view_is);
      },
    )

pub returns-clause-items : goal.returns-clause-items
returns-clause-items c =
    let s = c.self.inside in
    let k = c.keep_op-op in
    (asked_kept s.records.items c.push-2.new.self.items s.asks.items c.push.new.self.items s.answers.items s.states.items s.names.items k.new.names.items
    c.args.worker c.args.order.now k.result c.new.result c.self.invariant.0 k.ensures.names k.ensures.there k.ensures.opened c.new.ensures
    c.push.ensures.items (c.push-2.ensures.items ∙ ap (λ at. s.records.items ++ record_of.Asked at ∷ []) c.len-at.ensures.len)).1
    ∙ ap (λ v. v.items ++ Asked c.args.worker c.args.order.now ∷ []) c.self.view_is
