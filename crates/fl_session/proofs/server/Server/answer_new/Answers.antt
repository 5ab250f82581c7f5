use Rattle.std.proofs.Common.{ap, inl, sym, subst, refl, None, ◌∙◌}
use Rattle.fl_core.specs.State.{Snapshot}
use Rattle.fl_order.specs.declared.order.Order.{Order}
use Rattle.fl_session.proofs.MeetLemmas.{met_batch, met_by_itself, met_order}
use Rattle.fl_session.specs.Inside.UnderWay.{TakesOne}
use Rattle.fl_session.specs.Whole.{bytes_in}
use Rattle.fl_transport.specs.Collecting.{outgoing}
use Rattle.fl_transport.specs.Handshake.{incoming_of}
use Rattle.fl_transport.specs.declared.handshake.Incoming.TheVariants as incoming
use Rattle.fl_waiting.specs.declared.rules.Rules.{Rules}
use Rattle.fl_session.proofs.server.Server.answer_new.Goals as goal

pub returns-in-Order-clause-answered : goal.returns-in-Order-clause-answered
returns-in-Order-clause-answered g c =
    let rules = c.rules-whole.ensures ∙ ap (λ (p : Snapshot). p.rules) c.present.ensures.is in
    let came = c.receive.ensures.incoming
    ∙ ap (λ (r : Rules). incoming_of r.whole c.args.self.now.handshake c.args.frame.now) rules in
    let P : Order → Type 0 = λ o. TakesOne (record c.args.self.now { handshake = c.receive.new.self }) c.take.new.self
    (outgoing g.W.Write.contents c.args.replying.now.batch) (outgoing g.W.Write.contents c.take.new.replying.batch) o in
    let one = subst P c.read.ensures.is c.take.ensures.taken in
    record {
      replies = one.replies;
      met = met_order c.args.self.now c.take.new.self c.receive.new.self c.in-Order.single one.replies c.args.frame.now
          c.requires.live (sym came ∙ c.in-Order.is) c.receive.ensures.advanced c.requires.new one.taken;
      collected = one.collected;
      behind = one.behind;
    }

pub returns-in-Batch-clause-answered : goal.returns-in-Batch-clause-answered
returns-in-Batch-clause-answered g c =
    let rules = c.rules-whole.ensures ∙ ap (λ (p : Snapshot). p.rules) c.present.ensures.is in
    let came = c.receive.ensures.incoming
    ∙ ap (λ (r : Rules). incoming_of r.whole c.args.self.now.handshake c.args.frame.now) rules in
    let many = c.take_all.ensures.taken in
    record {
      replies = many.replies;
      met = met_batch c.args.self.now c.take_all.new.self c.receive.new.self c.in-Batch.orders many.replies c.args.frame.now
          c.requires.live (sym came ∙ c.in-Batch.is) c.receive.ensures.advanced c.requires.new many.taken;
      collected = many.collected;
      behind = (many.stored, inl many.unwritten);
    }

pub returns-in-Response-clause-answered : goal.returns-in-Response-clause-answered
returns-in-Response-clause-answered g c =
    let rules = c.rules-whole.ensures ∙ ap (λ (p : Snapshot). p.rules) c.present.ensures.is in
    let came = c.receive.ensures.incoming
    ∙ ap (λ (r : Rules). incoming_of r.whole c.args.self.now.handshake c.args.frame.now) rules in
    record {
      replies = bytes_in c.args.self.now.desk.present.rules c.args.self.now.desk.lines c.in-Response.response;
      met = met_by_itself c.args.self.now c.respond.new.desk c.receive.new.self (incoming.Response c.in-Response.response) None
          c.in-Response.response c.args.frame.now c.requires.live (sym came ∙ c.in-Response.is)
          c.receive.ensures.advanced c.requires.new (λ s. refl) c.respond.ensures.desk.0 c.respond.ensures.desk.1;
      collected = c.respond.ensures.collected;
      behind = c.respond.ensures.behind;
    }
