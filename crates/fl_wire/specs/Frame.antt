-- Whole messages.
use Rattle.std.specs.Prelude.{◌≡◌, ◌≤◌, ℕ, List, length}
use Rattle.fl_wire.specs.Layout.{len_of}

-- as many bytes as the message says itself, from 40 (a header alone) to 8192
pub record IsMessage (bytes : List ℕ) : Type 0 where
  pub whole : length bytes ≡ len_of bytes
  pub header : 40 ≤ length bytes
  pub bounded : length bytes ≤ 8192
