use Rattle.std.proofs.Common.{◌≡◌, ◌≤◌, ◌∙◌, List, map, length, Some, refl, sym, ap, arith}
use Rattle.std.proofs.lemmas.List.{length-map}
use Rattle.std.proofs.lemmas.Option.{slice_get-map}
use Rattle.std.specs.Prelude.{slice_get}
use Rattle.std.specs.Option.{option_map}
use Rattle.fl_order.specs.declared.order.Order.{Order}
use Rattle.fl_session.proofs.MeetLemmas.{many_all, many_first, many_next}
use Rattle.fl_session.specs.Again.{order_under}
use Rattle.fl_session.proofs.server.Server.take_from.Goals as goal

pub loop-i-init : goal.loop-i-init
loop-i-init g c = record {
  ready = c.requires;
  same = refl;
  taken = many_first _ _ _;
}

pub loop-i-preserved : goal.loop-i-preserved
loop-i-preserved g c =
    let under = order_under c.args.unique in
    let all : List Order = map under c.args.orders.now in
    let at : slice_get all c.loop-i.i ≡ Some c.order_under.result =
    slice_get-map under c.args.orders.now c.loop-i.i ∙ ap (option_map under) c.order.ensures
    ∙ ap (λ o. Some o) (sym c.order_under.ensures) in
    record {
      ready = c.take_one_of.ensures.ready;
      same = c.take_one_of.ensures.same ∙ c.loop-i.invariant.same;
      taken = many_next _ _ _ _ _ _ _ all c.loop-i.i _ at c.take_one_of.ensures.held c.loop-i.invariant.taken c.take_one_of.ensures.taken;
    }

pub returns-clause-taken : goal.returns-clause-taken
returns-clause-taken g c =
    let all : List Order = map (order_under c.args.unique) c.args.orders.now in
    let past : length all ≤ c.loop-i.i =
    omega (arith, length-map c.args.orders.now (order_under c.args.unique), c.count-i-end.ensures.count) in
    many_all _ _ _ _ _ all c.loop-i.i past c.loop-i.invariant.taken
