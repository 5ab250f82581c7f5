use Rattle.std.proofs.Common.{Some, ◌∷◌, [], ◌∙◌, ap}
use Rattle.fl_session.proofs.AgainLemmas.{again_none, again_one, again_waits}
use Rattle.fl_session.proofs.server.Server.take_again.Goals as goal

pub returns-in-None-clause-taken : goal.returns-in-None-clause-taken
returns-in-None-clause-taken g c =
    again_waits c.args.self.now _ c.args.order.now.unique (c.args.order.now ∷ []) c.recalled.result c.recalled.ensures c.in-None.is

pub returns-then-count-eq0-clause-taken : goal.returns-then-count-eq0-clause-taken
returns-then-count-eq0-clause-taken g c =
    again_one c.args.self.now c.take.new.self _ _ c.args.order.now.unique c.args.order.now c.recalled.result c.in-Some-Asked.count
    c.recalled.ensures (c.in-Some-Asked.is ∙ ap (λ r. Some r) c.in-Some-Asked.field-0-is) c.if-count-eq0.true c.take.ensures.taken

pub returns-else-count-eq0-clause-taken : goal.returns-else-count-eq0-clause-taken
returns-else-count-eq0-clause-taken g c =
    again_none c.args.self.now _ c.args.order.now.unique c.args.order.now c.recalled.result c.in-Some-Asked.count
    c.recalled.ensures (c.in-Some-Asked.is ∙ ap (λ r. Some r) c.in-Some-Asked.field-0-is) c.if-count-eq0.false
