-- Numbers in a row of bytes, the lowest byte of each first, and what a reply's struct fuse_out_header says.
use Rattle.std.specs.Prelude.{ℕ, ◌+◌, ◌-◌, ◌*◌, ◌%◌, ◌^◌, List, if◌then◌else◌, length, slice_index, nat_le}

-- the number in the 4 bytes from a place on; 0 if there are fewer
unfoldable pub word : List ℕ → ℕ → ℕ
word bytes at = if nat_le (at + 4) (length bytes)
    then slice_index bytes at + 2 ^ 8 * slice_index bytes (at + 1)
    + 2 ^ 16 * slice_index bytes (at + 2) + 2 ^ 24 * slice_index bytes (at + 3)
    else 0

-- the same of 8 bytes
unfoldable pub long : List ℕ → ℕ → ℕ
long bytes at = if nat_le (at + 8) (length bytes) then word bytes at + 2 ^ 32 * word bytes (at + 4) else 0

-- the number of a reply's error, which is the second field, negative
abbrev pub error : List ℕ → ℕ
error bytes = (2 ^ 32 - word bytes 4) % 2 ^ 32
