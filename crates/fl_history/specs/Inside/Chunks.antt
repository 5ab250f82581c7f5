-- A list in chunks of one size.
use Rattle.std.specs.Prelude.{◌≡◌, ℕ, ◌*◌, ◌-◌, ◌^◌, ◌<◌, ◌≤◌, min, List, [], ◌∷◌, length}
use Rattle.std.specs.List.{flat_map}

module _ {A : Type 0} where
  -- the items of the chunks, one after another
  abbrev pub joined : List (List A) → List A
  joined chunks = flat_map (λ c. c) chunks

  -- so many items are in chunks of this size, and each chunk is full before the next has any
  abbrev pub ArePacked : ℕ → ℕ → List (List A) → Type 0
  ArePacked size len [] = len ≡ 0
  ArePacked size len (c ∷ cs) = (length c ≡ min size len) × ArePacked size (len - size) cs

  -- what is always so of chunks of this size, with so many items in room for so many
  pub record IsStocked (size : ℕ) (chunks : List (List A)) (len capacity : ℕ) : Type 0 where
    pub made : capacity ≡ length chunks * size
    pub within : len ≤ capacity
    pub few : capacity < 2 ^ 63
    pub packed : ArePacked size len chunks
