use Rattle.std.proofs.Common.{◌≡◌, ◌∙◌, ◌==◌, not, sym, ap, subst, arith}
use Rattle.std.specs.FinMap.{get}
use Rattle.fl_dir.specs.Inside.Numbers.{Numbers, has_place}
use Rattle.fl_dir.proofs.Numbers.{as_many, place_is}
use Rattle.fl_dir.proofs.numbered.Numbered.has_place.Goals as goal

pub returns-in-None : goal.returns-in-None
returns-in-None g c =
    let own = c.self.inside in
    let fresh = ap (λ (n : Numbers g.row.T.Denot). get n.values c.args.number) c.self.view_is ∙ sym c.in-None.ensures in
    subst (λ (n : Numbers g.row.T.Denot). not (c.free.result == 0) ≡ has_place n c.args.number) c.self.view_is
    (place_is _ c.args.number c.free.result c.if-number-self.false fresh
    (omega (arith, as_many own.entries own.mask own.next c.self.invariant, c.free.ensures.total)))
