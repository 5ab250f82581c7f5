-- INIT: what is agreed with the kernel before any order.
use Rattle.std.specs.Prelude.{ℕ, bit_and, nat_lt, if◌then◌else◌, List, [], ◌∷◌, ◌++◌, length, replicate}
use Rattle.fl_order.specs.declared.errno.Errno.TheVariants.{EINVAL, EPROTO}
use Rattle.fl_wire.specs.Layout.{field, init_in, init_out, laid_out}
use Rattle.fl_wire.specs.Spell.{header_bytes, minus}
use Rattle.fl_wire.specs.declared.init.InitStep.{InitStep}
use Rattle.fl_wire.specs.declared.init.InitStep.TheVariants.{Refused, Again, Agreed}

-- What is answered to a kernel that speaks version major.minor: 7 and at least 31 is agreed, and after
-- a higher major the kernel asks again. Of the flags POSIX_LOCKS (bit 1) and FLOCK_LOCKS (bit 10) are offered.
abbrev pub agreed : ℕ → ℕ → ℕ → ℕ → InitStep
agreed major minor max_readahead flags =
    if nat_lt major 7 then Refused EPROTO
    else if nat_lt 7 major then Again
    else if nat_lt minor 31 then Refused EPROTO
    else Agreed max_readahead (bit_and flags 1026)

-- what is answered to an INIT: a header, then `struct fuse_init_in`, after which bytes may follow
abbrev pub init_step : List ℕ → InitStep
init_step bytes =
    let value : ℕ → ℕ = λ k. field init_in k 40 bytes in
    if nat_lt (length bytes) 56 then Refused EINVAL else agreed (value 0) (value 1) (value 2) (value 3)

-- a body of 64 bytes: version 7.31, and after an agreement max_readahead and flags, 16 requests in the
-- background and 12 before the kernel holds back, writes of 4096 bytes, times by the nanosecond
unfoldable pub agreed_bytes : ℕ → ℕ → List ℕ
agreed_bytes max_readahead flags =
    laid_out init_out (7 ∷ 31 ∷ max_readahead ∷ flags ∷ 16 ∷ 12 ∷ 4096 ∷ 1 ∷ []) ++ replicate 36 0

-- if no agreement came yet, the version alone
unfoldable pub again_bytes : List ℕ
again_bytes = laid_out init_out (7 ∷ 31 ∷ 0 ∷ 0 ∷ 0 ∷ 0 ∷ 0 ∷ 0 ∷ []) ++ replicate 36 0

-- the bytes of an INIT's reply
abbrev pub init_spelling : ℕ → InitStep → List ℕ
init_spelling unique (Refused e) = header_bytes 0 (minus e) unique
init_spelling unique Again = header_bytes 64 0 unique ++ again_bytes
init_spelling unique (Agreed max_readahead flags) = header_bytes 64 0 unique ++ agreed_bytes max_readahead flags
