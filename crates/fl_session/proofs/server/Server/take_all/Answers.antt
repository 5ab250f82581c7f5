use Rattle.std.proofs.Common.{◌≤◌, ◌∙◌, length, refl, arith}
use Rattle.std.proofs.lemmas.Grind.{common_steps}
use Rattle.fl_session.proofs.MeetLemmas.{many_all, many_first, many_next}
use Rattle.fl_session.proofs.server.Server.take_all.Goals as goal

pub loop-i-init : goal.loop-i-init
loop-i-init g c = record {
  ready = c.requires;
  same = refl;
  taken = many_first _ _ _;
}

pub loop-i-preserved : goal.loop-i-preserved
loop-i-preserved g c = record {
  ready = c.take_one_of.ensures.ready;
  same = c.take_one_of.ensures.same ∙ c.loop-i.invariant.same;
  taken = many_next _ _ _ _ _ _ _ c.args.orders.now c.loop-i.i _ c.order.ensures c.take_one_of.ensures.held c.loop-i.invariant.taken c.take_one_of.ensures.taken;
}

pub returns-clause-taken : goal.returns-clause-taken
returns-clause-taken g c =
    let past : length c.args.orders.now ≤ c.loop-i.i = grind (arith, common_steps) in
    many_all _ _ _ _ _ c.args.orders.now c.loop-i.i past c.loop-i.invariant.taken
