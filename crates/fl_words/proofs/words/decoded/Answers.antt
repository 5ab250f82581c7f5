use Rattle.std.proofs.Common.{◌≡◌, ap, arith, length, ℕ, ◌/◌, take, replicate, length-take}
use Rattle.std.proofs.Math.ListN.{length-replicate}
use Rattle.hex.specs.Hex.{lower_digits}
use Rattle.hex.proofs.HexLemmas.{length-encode_with}
use Rattle.fl_words.proofs.words.decoded.Goals as goal

pub returns-then-len-gt255 : goal.returns-then-len-gt255
returns-then-len-gt255 c = λ name is e.
    let len = length-encode_with lower_digits name in
    let short = is.short in
    let same = ap length e in
    absurd (omega arith)

pub returns : goal.returns
returns c = λ name is e.
    let len = length-encode_with lower_digits name in
    let same = ap length e in
    let short = is.short in
    let room : length (take (length c.args.word.now / 2) (replicate {A = ℕ} 255 0)) ≡ length name =
    omega (arith, length-take (length c.args.word.now / 2) (replicate {A = ℕ} 255 0), length-replicate {A = ℕ} 255 0) in
    c.decoded_into.ensures name is room e
