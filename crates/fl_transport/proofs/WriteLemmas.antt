-- Bytes that go out in pieces.
use Rattle.std.proofs.Common.{◌≡◌, ℕ, ◌+◌, ◌-◌, ◌≤◌, List, length, take, drop, Option, sym, subst, arith, take_all}
use Rattle.std.proofs.Common.{take-add, length-drop}
use Rattle.std.proofs.KnownBytes.{Appends-trans}
use Rattle.std.specs.Io.KnownBytes.{Appends}

-- a piece more of a reply went out
pub more_written : (a b c : Option (List ℕ)) (bs : List ℕ) (m n : ℕ) → m ≤ length bs
    → n ≤ length (take (length bs - m) (drop m bs)) → Appends a b (take m bs)
    → Appends b c (take n (take (length bs - m) (drop m bs))) → (m + n ≤ length bs) × Appends a c (take (m + n) bs)
more_written a b c bs m n within few before now =
    let all : take (length bs - m) (drop m bs) ≡ drop m bs = take_all (length bs - m) (drop m bs)
    (omega (arith, length-drop m bs)) in
    let fits : n ≤ length (drop m bs) = subst (λ xs. n ≤ length xs) all few in
    let written : Appends b c (take n (drop m bs)) = subst (λ xs. Appends b c (take n xs)) all now in (
      omega (arith, length-drop m bs, fits),
      subst (Appends a c) (sym (take-add m n bs))
          (Appends-trans a b c (take m bs) (take n (drop m bs)) before written),
    )
