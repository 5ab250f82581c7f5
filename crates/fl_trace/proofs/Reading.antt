-- Bytes that are read as text.
use Rattle.std.proofs.Common.{◌≡◌, None, Result, Ok, Err, MatchResult}
use Rattle.std.specs.Result.{result_ok}

-- bytes that are text are read as one
pub utf8_is_read : {T E : Type 0} (r : Result T E) (P : T → Type 0) (U : Type 0) (Q : E → Type 0) → MatchResult r P (λ e. (U → ⊥) × Q e) → U
    → result_ok r ≡ None → ⊥
utf8_is_read (Ok t) P U Q cases u none = cc
utf8_is_read (Err e) P U Q cases u none = cases.0 u
