-- Which bytes are a range.
use Rattle.std.specs.Prelude.{ℕ, Bool, ◌&&◌, nat_le}

-- the bytes from one to another are a range
abbrev pub is_range : ℕ → ℕ → Bool
is_range start end = nat_le start end && nat_le end 9223372036854775807
