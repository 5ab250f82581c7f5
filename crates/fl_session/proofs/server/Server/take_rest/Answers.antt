use Rattle.std.proofs.Common.{Some, map, ◌∙◌, ap}
use Rattle.fl_session.proofs.AgainLemmas.{again_rest, again_waits}
use Rattle.fl_session.specs.Again.{order_under}
use Rattle.fl_session.proofs.server.Server.take_rest.Goals as goal

pub returns-in-None-clause-taken : goal.returns-in-None-clause-taken
returns-in-None-clause-taken g c =
    again_waits c.args.self.now _ c.args.unique (map (order_under c.args.unique) c.args.orders.now) c.recalled.result c.recalled.ensures
    c.in-None.is

pub returns-in-Some-Asked-clause-taken : goal.returns-in-Some-Asked-clause-taken
returns-in-Some-Asked-clause-taken g c =
    again_rest c.args.self.now c.take_from.new.self _ _ c.args.unique (map (order_under c.args.unique) c.args.orders.now)
    c.recalled.result c.in-Some-Asked.count c.recalled.ensures
    (c.in-Some-Asked.is ∙ ap (λ r. Some r) c.in-Some-Asked.field-0-is) c.take_from.ensures.taken
