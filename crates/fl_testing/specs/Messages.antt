-- Messages as numbers, the lowest byte of each first, laid out as by `fuse.h` (protocol 7.31).
use Rattle.std.specs.Prelude.{ℕ, ◌+◌, ◌*◌, ◌^◌, List, [], ◌∷◌}
use Rattle.std.specs.Int.{w64, to_le_bytes}
use Rattle.std.specs.List.{flat_map}

-- two numbers of 4 bytes, the first of which stands first, as one of 8
abbrev pub pair : ℕ → ℕ → ℕ
pair first second = first + 2 ^ 32 * second

-- numbers of 8 bytes, one after another
unfoldable pub longs : List ℕ → List ℕ
longs numbers = flat_map (to_le_bytes w64) numbers

-- struct fuse_in_header: len and opcode, unique, nodeid, uid and gid, pid and padding, of which the last four are 0
abbrev pub header : ℕ → ℕ → ℕ → ℕ → List ℕ
header len opcode unique node = pair len opcode ∷ unique ∷ node ∷ 0 ∷ 0 ∷ []
