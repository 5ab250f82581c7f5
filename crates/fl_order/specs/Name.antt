-- File names: up to 255 bytes, none of them zero (POSIX.1-2017, 3.170 Filename; NAME_MAX of Linux).
use Rattle.std.specs.Prelude.{◌≡◌, ℕ, ◌-◌, ◌<◌, ◌≤◌, List, ◌++◌, length, replicate, slice_index, Contains}

-- at most 255 bytes, none of them zero
pub record IsName (bytes : List ℕ) : Type 0 where
  pub are_bytes : (i : ℕ) → slice_index bytes i < 256
  pub short : length bytes ≤ 255
  pub no_zero : Contains bytes 0 → ⊥

-- the name's bytes, then zeros up to 255
abbrev pub padded : List ℕ → List ℕ
padded bytes = bytes ++ replicate (255 - length bytes) 0

-- an array and a length that are kept for a name
pub record IsKept (array : List ℕ) (len : ℕ) (bytes : List ℕ) : Type 0 where
  pub name : IsName bytes
  pub padded_is : array ≡ padded bytes
  pub length_is : len ≡ length bytes
