use Rattle.std.proofs.Common.{ap, sym, refl, map, subst, Some, ◌∷◌, [], ◌∙◌}
use Rattle.fl_core.specs.State.{Snapshot}
use Rattle.fl_order.specs.declared.order.Order.{Order}
use Rattle.fl_session.proofs.MeetLemmas.{met_again, met_by_itself}
use Rattle.fl_session.specs.Again.{order_under, response_under}
use Rattle.fl_session.specs.Inside.UnderWay.{TakesAgain}
use Rattle.fl_session.specs.Whole.{bytes_in}
use Rattle.fl_transport.specs.Collecting.{outgoing, Collects}
use Rattle.fl_transport.specs.Handshake.{incoming_of}
use Rattle.fl_transport.specs.declared.handshake.Incoming.TheVariants as incoming
use Rattle.fl_waiting.specs.declared.rules.Rules.{Rules}
use Rattle.fl_transport.specs.declared.response.Response.{Response}
use Rattle.fl_session.proofs.server.Server.answer_again.Goals as goal

pub returns-in-Order-clause-answered : goal.returns-in-Order-clause-answered
returns-in-Order-clause-answered g c =
    let rules = c.rules-whole.ensures ∙ ap (λ (p : Snapshot). p.rules) c.present.ensures.is in
    let came = c.receive.ensures.incoming
    ∙ ap (λ (r : Rules). incoming_of r.whole c.args.self.now.handshake c.args.frame.now) rules in
    let P : Order → Type 0 = λ o. TakesAgain (record c.args.self.now { handshake = c.receive.new.self }) c.take_again.new.self
    (outgoing g.W.Write.contents c.args.replying.now.batch) (outgoing g.W.Write.contents c.take_again.new.replying.batch) o.unique (o ∷ []) in
    let one = subst P (c.order_under.ensures ∙ ap (order_under c.args.unique) c.read.ensures.is) c.take_again.ensures.taken in
    record {
      replies = one.replies;
      met = met_again c.args.self.now c.take_again.new.self c.receive.new.self (incoming.Order c.in-Order.single) c.args.unique
          (order_under c.args.unique c.in-Order.single ∷ []) one.replies c.args.frame.now
          c.requires.live (sym came ∙ c.in-Order.is) c.receive.ensures.advanced c.requires.again
          (λ s refused. refl) one.taken;
      collected = one.collected;
      behind = one.behind;
    }

pub returns-in-Batch-clause-answered : goal.returns-in-Batch-clause-answered
returns-in-Batch-clause-answered g c =
    let rules = c.rules-whole.ensures ∙ ap (λ (p : Snapshot). p.rules) c.present.ensures.is in
    let came = c.receive.ensures.incoming
    ∙ ap (λ (r : Rules). incoming_of r.whole c.args.self.now.handshake c.args.frame.now) rules in
    let many = c.take_rest.ensures.taken in
    record {
      replies = many.replies;
      met = met_again c.args.self.now c.take_rest.new.self c.receive.new.self (incoming.Batch c.in-Batch.orders) c.args.unique
          (map (order_under c.args.unique) c.in-Batch.orders) many.replies c.args.frame.now
          c.requires.live (sym came ∙ c.in-Batch.is) c.receive.ensures.advanced c.requires.again
          (λ s refused. refl) many.taken;
      collected = many.collected;
      behind = many.behind;
    }

pub returns-in-Response-clause-answered : goal.returns-in-Response-clause-answered
returns-in-Response-clause-answered g c =
    let rules = c.rules-whole.ensures ∙ ap (λ (p : Snapshot). p.rules) c.present.ensures.is in
    let came = c.receive.ensures.incoming
    ∙ ap (λ (r : Rules). incoming_of r.whole c.args.self.now.handshake c.args.frame.now) rules in
    let under : Response = response_under c.args.unique c.in-Response.response in
    let P : Response → Type 0 = λ r. Collects (outgoing g.W.Write.contents c.args.replying.now.batch)
    (outgoing g.W.Write.contents c.respond.new.self.batch) (bytes_in c.args.self.now.desk.present.rules c.args.self.now.desk.lines r) in
    record {
      replies = bytes_in c.args.self.now.desk.present.rules c.args.self.now.desk.lines under;
      met = met_by_itself c.args.self.now c.respond.new.desk c.receive.new.self (incoming.Response c.in-Response.response)
          (Some c.args.unique) under c.args.frame.now c.requires.live (sym came ∙ c.in-Response.is)
          c.receive.ensures.advanced c.requires.again (λ s. refl) c.respond.ensures.desk.0 c.respond.ensures.desk.1;
      collected = subst P c.response_under.ensures c.respond.ensures.collected;
      behind = c.respond.ensures.behind;
    }
