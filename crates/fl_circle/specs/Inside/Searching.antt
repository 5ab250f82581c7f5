-- What the search for a circle keeps of the parked requests.
use Rattle.std.specs.Prelude.{◌≡◌, ℕ, Bool, false, ◌&&◌, ◌==◌, ◌<◌, nat_lt, List, length, map, slice_index_or}
use Rattle.std.specs.List.{filter}
use Rattle.std.specs.List.Sorted.{IsNonDecreasingBy}
use Rattle.fl_marks.specs.Marking.{Marking}
use Rattle.fl_waiting.specs.Circle.{Waiter, behind, blocks}
use Rattle.fl_waiting.specs.Waiting.{Wish, older_blocks}
use Rattle.fl_waiting.specs.Wanted.{meant}
use Rattle.fl_waiting.specs.declared.rules.Rules.{Rules}
use Rattle.fl_waiting.specs.declared.wanted.Wanted.{Wanted}

-- those of the wanted locks that were wanted before this one
abbrev pub older_than : List Wanted → Wanted → List Wish
older_than ws w = map meant (filter (λ (v : Wanted). nat_lt v.place w.place) ws)

-- it waits behind those
abbrev pub waiter_among : List Wanted → Wanted → Waiter
waiter_among ws w = behind (older_than ws w) (meant w)

-- this owner blocks it, of the wanted locks by one that was wanted before
abbrev pub blocks_among : Rules → Marking → List Wanted → Wanted → ℕ → Bool
blocks_among rules m ws w owner = blocks rules m (waiter_among ws w) owner

-- a lock was wanted before this one, and blocks it
abbrev pub precedes : Wanted → Wanted → Bool
precedes w v = nat_lt v.place w.place && older_blocks (meant w) (meant v)

-- so was one by this owner
abbrev pub precedes_by : Wanted → ℕ → Wanted → Bool
precedes_by w owner v = (v.key.owner == owner) && precedes w v

abbrev pub is_set : List Bool → ℕ → Bool
is_set bits i = slice_index_or bits i false

-- whose requests they are
abbrev pub owners_of : List Wanted → List ℕ
owners_of wanted = map (λ (w : Wanted). w.key.owner) wanted

-- whose request stands at a place; 0 past the last
abbrev pub owner_at : List Wanted → ℕ → ℕ
owner_at ws i = slice_index_or (owners_of ws) i 0

-- the places of one owner are all reached, or none is
abbrev pub IsReachedByOwner : List Wanted → List Bool → Type 0
IsReachedByOwner ws reached =
    (i j : ℕ) → i < length ws → j < length ws → owner_at ws i ≡ owner_at ws j → is_set reached i ≡ is_set reached j

-- they stand in the order of their owners
abbrev pub IsByOwner : List Wanted → Type 0
IsByOwner wanted = IsNonDecreasingBy (λ (w : Wanted). w.key.owner) wanted
