-- The messages of a stream: each is cut by the length that it says itself.
use Rattle.std.specs.Prelude.{◌≡◌, ℕ, List, ◌++◌, All}
use Rattle.std.specs.List.{concat}
use Rattle.fl_wire.specs.Frame.{IsMessage}

-- The bytes of a stream are these messages, one after another, and then this rest.
pub record IsCut (stream : List ℕ) (messages : List (List ℕ)) (rest : List ℕ) : Type 0 where
  pub parts : stream ≡ concat messages ++ rest
  pub whole : All IsMessage messages
