use Rattle.std.proofs.Common.{◌∙◌, ◌++◌, ◌∷◌, [], length, ap, arith}
use Rattle.fl_history.specs.declared.history.Line.TheVariants as line
use Rattle.fl_history.proofs.Opening.{told_kept}
use Rattle.fl_history.proofs.lines.Lines.push_told.Goals as goal

pub invariant_of-self : goal.invariant_of-self
invariant_of-self c =
    let s = c.self.inside in
    let k = c.keep_told-record in
    let room = c.self.invariant.1 in (
      (told_kept s.records.items c.push.new.self.items s.asks.items s.answers.items k.new.answers.items s.states.items s.names.items k.result
          (line.Told c.args.told.now) c.self.invariant.0
          k.ensures.answers (k.ensures.there (length s.asks.items) (length s.states.items)) (k.ensures.opened s.asks.items s.states.items s.names.items) c.push.ensures.items).0,
      record {
        for_records = omega (arith, c.push.ensures.room, room.for_records);
        for_asks = omega (arith, room.for_asks);
        for_answers = omega (arith, k.ensures.room, room.for_answers);
        for_names = omega (arith, room.for_names);
      },
    )

pub returns-clause-items : goal.returns-clause-items
returns-clause-items c =
    let s = c.self.inside in
    let k = c.keep_told-record in
    (told_kept s.records.items c.push.new.self.items s.asks.items s.answers.items k.new.answers.items s.states.items s.names.items k.result
    (line.Told c.args.told.now) c.self.invariant.0
    k.ensures.answers (k.ensures.there (length s.asks.items) (length s.states.items)) (k.ensures.opened s.asks.items s.states.items s.names.items) c.push.ensures.items).1
    ∙ ap (λ v. v.items ++ line.Told c.args.told.now ∷ []) c.self.view_is
