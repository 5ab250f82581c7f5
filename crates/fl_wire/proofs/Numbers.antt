-- Numbers in the front of a list of bytes.
use Rattle.std.proofs.Common.{◌≡◌, ℕ, ◌+◌, ◌-◌, ◌≤◌, List, drop, take, length, ap, sym, ◌∙◌, arith}
use Rattle.std.proofs.lemmas.List.{drop-take, length-take-le}
use Rattle.byteorder.specs.Endian.{little_from}
use Rattle.byteorder.specs.Numbers.{little_from-take}
use Rattle.fl_wire.specs.Layout.{number_at, len_of}
use Rattle.fl_wire.specs.Frame.{IsMessage}

-- a number reads no byte past its end
pub number_at-take : (w i n : ℕ) (bytes : List ℕ) → i + w ≤ n → number_at w i (take n bytes) ≡ number_at w i bytes
unfolding number_at
number_at-take w i n bytes h =
    let split : n ≡ i + (n - i) = omega arith in
    let moved : drop i (take n bytes) ≡ take (n - i) (drop i bytes) =
    ap (λ (m : ℕ). drop i (take m bytes)) split ∙ drop-take i (n - i) bytes in
    ap (little_from 0 w) moved ∙ little_from-take 0 w (n - i) (drop i bytes) (omega arith)

-- as many bytes as the message says are a message
pub is_message-take : (len : ℕ) (bytes : List ℕ) → len ≡ len_of bytes → 40 ≤ len → len ≤ 8192 → len ≤ length bytes → IsMessage (take len bytes)
is_message-take len bytes says header bounded there =
    let all : length (take len bytes) ≡ len = length-take-le len bytes there in
    let same : len_of (take len bytes) ≡ len_of bytes = number_at-take 4 0 len bytes (omega arith) in
    record { whole = all ∙ says ∙ sym same; header = omega (arith, all); bounded = omega (arith, all) }
