-- The bodies of messages by shape: fields alone, or fields with a name behind them. A body begins at byte 40.
use Rattle.std.specs.Prelude.{ℕ, ◌+◌, ◌-◌, ◌==◌, not, nat_lt, if◌then◌else◌, List, [], ◌∷◌, ◌++◌, length, sum, take}
use Rattle.std.specs.Prelude.{drop, slice_index, Result, Ok, Err}
use Rattle.std.specs.List.{list_any}
use Rattle.std.specs.Result.{result_map_both}
use Rattle.fl_order.specs.declared.body.Body.{Body}
use Rattle.fl_order.specs.declared.errno.Errno.{Errno}
use Rattle.fl_order.specs.declared.errno.Errno.TheVariants.{EINVAL, ENAMETOOLONG}
use Rattle.fl_wire.specs.Layout.{values_at}

-- a name, and the zero byte that ends it
abbrev pub name_bytes : List ℕ → List ℕ
name_bytes name = name ++ 0 ∷ []

-- the name in these bytes, which a zero byte ends: no other byte is zero, and it has at most 255
unfoldable pub name_in : List ℕ → Result (List ℕ) Errno
name_in bytes =
    let text = take (length bytes - 1) bytes in
    if not (slice_index bytes (length bytes - 1) == 0) then Err EINVAL
    else if list_any (λ b. b == 0) text then Err EINVAL
    else if nat_lt 255 (length text) then Err ENAMETOOLONG
    else Ok text

-- the name behind fields of this many bytes, if a byte is there
abbrev pub name_behind : ℕ → List ℕ → Result (List ℕ) Errno
name_behind fields message =
    let bytes = drop (40 + fields) message in
    if length bytes == 0 then Err EINVAL else name_in bytes

-- what the values of these fields say, in a message with nothing behind them
abbrev pub by_fields : List ℕ → (List ℕ → Body) → List ℕ → Result Body Errno
by_fields widths said message =
    if length message == 40 + sum widths then Ok (said (values_at widths 40 message)) else Err EINVAL

-- what the values of these fields and the name behind them say
abbrev pub by_fields_and_name : List ℕ → (List ℕ → List ℕ → Body) → List ℕ → Result Body Errno
by_fields_and_name widths said message =
    result_map_both (said (values_at widths 40 message)) (λ e. e) (name_behind (sum widths) message)
