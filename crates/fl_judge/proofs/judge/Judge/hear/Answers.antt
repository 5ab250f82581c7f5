use Rattle.std.proofs.Common.{◌^◌, ◌<◌, length, subst, sym}
use Rattle.fl_judge.specs.Hearing.{Hearing}
use Rattle.fl_judge.proofs.Differences.{noted_wrong, noted_alike, noted_still}
use Rattle.fl_judge.proofs.Places.{placed}
use Rattle.fl_judge.proofs.Verdicts.{heard_wrong, heard_alike, heard_still}
use Rattle.fl_judge.proofs.judge.Judge.hear.Goals as goal

pub invariant_of-self : goal.invariant_of-self
invariant_of-self c = (
  heard_wrong c.self.inside.past.items c.and-self-inside.result.items c.args.line.now c.self.inside.heard c.self.inside.replay c.take.new.self
      c.self.inside.differs c.take.result c.and-self-inside.ensures c.self.invariant.0 (subst (λ (h : Hearing). length h.lines < 2 ^ 63) (sym c.self.view_is) c.requires)
      (c.if-is_none.ensures) c.if-not-take.true c.take.ensures.goes c.take.ensures.ready,
  noted_wrong c.self.inside.past.items c.and-self-inside.result.items c.args.line.now c.self.inside.heard c.self.inside.orders c.orders_in.result
      c.self.inside.replay c.take.new.self c.self.inside.differs c.self.inside.found c.and-self-inside.ensures c.self.invariant.0 c.self.invariant.1
      c.orders_in.ensures.is (c.if-is_none.ensures) (c.take.ensures.stays c.if-not-take.true),
  placed c.self.inside.past.items c.and-self-inside.result.items c.args.line.now c.self.inside.place c.and-self-inside-2.result c.and-self-inside.ensures
      c.self.invariant.2 c.and-self-inside-2.ensures,
)

pub invariant_of-self-else-not-take : goal.invariant_of-self-else-not-take
invariant_of-self-else-not-take c = (
  heard_alike c.self.inside.past.items c.and-self-inside.result.items c.args.line.now c.self.inside.heard c.self.inside.replay c.take.new.self
      c.self.inside.differs c.take.result c.and-self-inside.ensures c.self.invariant.0 (subst (λ (h : Hearing). length h.lines < 2 ^ 63) (sym c.self.view_is) c.requires)
      (c.if-is_none.ensures) c.if-not-take.false c.take.ensures.goes c.take.ensures.ready,
  noted_alike c.self.inside.past.items c.and-self-inside.result.items c.args.line.now c.self.inside.orders c.orders_in.result
      c.self.inside.replay c.take.new.self c.self.inside.differs c.self.inside.found c.and-self-inside.ensures c.self.invariant.1
      c.orders_in.ensures.is (c.if-is_none.ensures),
  placed c.self.inside.past.items c.and-self-inside.result.items c.args.line.now c.self.inside.place c.and-self-inside-2.result c.and-self-inside.ensures
      c.self.invariant.2 c.and-self-inside-2.ensures,
)

pub invariant_of-self-else-is_none : goal.invariant_of-self-else-is_none
invariant_of-self-else-is_none c = (
  heard_still c.self.inside.past.items c.and-self-inside.result.items c.args.line.now c.self.inside.heard c.self.inside.replay c.self.inside.differs
      c.and-self-inside.ensures c.self.invariant.0 (subst (λ (h : Hearing). length h.lines < 2 ^ 63) (sym c.self.view_is) c.requires)
      (c.if-is_none.ensures),
  noted_still c.self.inside.past.items c.and-self-inside.result.items c.args.line.now c.self.inside.heard c.self.inside.orders c.orders_in.result
      c.self.inside.replay c.self.inside.differs c.self.inside.found c.and-self-inside.ensures c.self.invariant.0 c.self.invariant.1
      c.orders_in.ensures.is (c.if-is_none.ensures),
  placed c.self.inside.past.items c.and-self-inside.result.items c.args.line.now c.self.inside.place c.and-self-inside-2.result c.and-self-inside.ensures
      c.self.invariant.2 c.and-self-inside-2.ensures,
)
