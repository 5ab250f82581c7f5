-- How the bytes of a stream are cut into messages: by the length that each says itself.
use Rattle.std.specs.Prelude.{ℕ, List, length, take, nat_lt, if◌then◌else◌}
use Rattle.fl_wire.specs.Layout.{len_of}
use Rattle.fl_wire.specs.declared.cut.Step.{Step}
use Rattle.fl_wire.specs.declared.cut.Step.TheVariants.{Bad, More, Whole}

-- What stands first in the bytes, if its length is there: a length that no message has, a message
-- of which more has to come, or a whole message.
abbrev pub first_of_length : ℕ → List ℕ → Step
first_of_length len bytes =
    if nat_lt len 40 then Bad len
    else if nat_lt 8192 len then Bad len
    else if nat_lt (length bytes) len then More
    else Whole (take len bytes)

-- what stands first in the bytes
abbrev pub first_step : List ℕ → Step
first_step bytes = if nat_lt (length bytes) 4 then More else first_of_length (len_of bytes) bytes
