-- The shapes of bodies.
use Rattle.fl_order.specs.declared.body.Body.{Body}
use Rattle.fl_order.specs.declared.body.Body.TheVariants as body
use Rattle.fl_order.specs.declared.body.Shape.{Shape}
use Rattle.fl_order.specs.declared.body.Shape.TheVariants as shape

-- the shape of a body
abbrev pub body_shape : Body → Shape
body_shape (body.Lock ask) = shape.Lock
body_shape (body.Create excl mode name) = shape.Create
body_shape (body.Make mode name) = shape.Make
body_shape (body.Name name) = shape.Name
body_shape (body.Number n) = shape.Number
body_shape (body.Flush fh owner) = shape.Flush
body_shape (body.Release fh unlocks owner) = shape.Release
body_shape body.Getattr = shape.Getattr
body_shape body.Open = shape.Open
