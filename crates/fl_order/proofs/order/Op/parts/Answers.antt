use Rattle.std.proofs.Common.{◌≡◌, sym, refl, arith}
use Rattle.fl_order.specs.Body.{body_shape}
use Rattle.fl_order.specs.Order.{kind_of, body_of}
use Rattle.fl_order.proofs.order.Op.parts.Goals as goal
use Rattle.fl_order.specs.declared.body.Body.{Body}
use Rattle.fl_order.specs.declared.body.Body.TheVariants.{Lock}
use Rattle.fl_order.specs.declared.body.Shape.TheVariants as shape
use Rattle.fl_order.specs.declared.order.LockAsk.{LockAsk}

pub returns-in-Some : goal.returns-in-Some
returns-in-Some c = sym ((c.lock_parts.ensures c.in-Some.kind c.in-Some.ask).0 c.in-Some.is)

-- a body of the shape of a lock request is one
asked_in : (body : Body) → body_shape body ≡ shape.Lock → (ask : LockAsk) × (body ≡ Lock ask)
asked_in (Lock ask) e = (ask, refl)
asked_in body e = absurd (cc e)

pub unreachable-requires : goal.unreachable-requires
unreachable-requires c =
    let op = c.args.self.now in
    let none : body_shape (body_of op) ≡ shape.Lock → ⊥ = λ e.
    let ask = asked_in (body_of op) e in
    c.in_default.not-Some (kind_of op, ask.0) ((c.lock_parts.ensures (kind_of op) ask.0).1 (λ i. (kind_of op, ask.1 i))) in
    grind (arith, none)
