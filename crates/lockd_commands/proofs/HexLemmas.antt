-- Lines of hex, one after another.
use Rattle.std.proofs.Common.{◌≡◌, ℕ, ◌+◌, ◌<◌, ◌≤◌, ◌⊎◌, inl, inr, List, [], ◌∷◌, ◌++◌, length, refl, sym, ap, subst}
use Rattle.std.proofs.Common.{◌∙◌, arith, append_assoc, append-nil, Result, Ok, Err, IsErr}
use Rattle.hex.specs.Hex.{decode_of}
use Rattle.hex.specs.declared.error.FromHexError.{FromHexError}
use Rattle.lockd_commands.specs.Bytes.Inside.{TextSays}
use Rattle.lockd_commands.specs.Hex.{joined, spelled_from, hex_stream}
use Rattle.lockd_faults.specs.declared.fault.CommandFault.{CommandFault}
use Rattle.lockd_faults.specs.declared.fault.CommandFault.TheVariants.{BadLine, NoMemory}
use Rattle.lockd_faults.specs.HexLines.{lines_of, HasLine}

-- these bytes stand before what the lines behind them spell
abbrev pub after : List ℕ → Result (List ℕ) ℕ → Result (List ℕ) ℕ
after bytes (Ok more) = Ok (bytes ++ more)
after bytes (Err n) = Err n

-- the stream so far, and the text that is left, whose first line has this number
pub record IsReadSoFar (text stream rest : List ℕ) (number : ℕ) : Type 0 where
  pub spelled : hex_stream text ≡ after stream (spelled_from number (lines_of rest))
  pub few : number + length rest ≤ length text + 1

after_nothing : (r : Result (List ℕ) ℕ) → r ≡ after [] r
after_nothing (Ok more) = refl
after_nothing (Err n) = refl

pub read_none : (text : List ℕ) → IsReadSoFar text [] text 1
read_none text = record { spelled = after_nothing (hex_stream text); few = omega arith }

-- one line more
spelled_line : (number : ℕ) (line rest : List ℕ) → HasLine rest
    → spelled_from number (line ∷ lines_of rest) ≡ joined number (decode_of line)
    (spelled_from (number + 1) (lines_of rest))
spelled_line number line rest h = rw h.is refl

after_joined : (stream bytes : List ℕ) (number : ℕ) (d : Result (List ℕ) FromHexError) (later : Result (List ℕ) ℕ)
    → d ≡ Ok bytes → after stream (joined number d later) ≡ after (stream ++ bytes) later
after_joined stream bytes number d (Ok more) e = rw e (ap Ok (sym (append_assoc stream bytes more)))
after_joined stream bytes number d (Err n) e = rw e refl

pub read_more : (text stream rest line after_it bytes : List ℕ) (number : ℕ) → IsReadSoFar text stream rest number
    → lines_of rest ≡ line ∷ lines_of after_it → HasLine after_it
    → length after_it < length rest → decode_of line ≡ Ok bytes
    → IsReadSoFar text (stream ++ bytes) after_it (number + 1)
read_more text stream rest line after_it bytes number read first behind shorter decoded =
    let few = read.few in
    let one = ap (λ lines. after stream (spelled_from number lines)) first
    ∙ ap (after stream) (spelled_line number line after_it behind) in
    record {
      spelled = read.spelled ∙ one ∙ after_joined stream bytes number (decode_of line)
          (spelled_from (number + 1) (lines_of after_it)) decoded;
      few = omega arith;
    }

-- the text is read
pub read_all_of_it : (text stream rest : List ℕ) (number : ℕ) → IsReadSoFar text stream rest number → length rest ≡ 0
    → hex_stream text ≡ Ok stream
read_all_of_it text stream [] number read none = read.spelled ∙ ap Ok (append-nil stream)
read_all_of_it text stream (c ∷ rest) number read none = absurd (omega arith)

-- text after the last newline is a bad line
pub read_open : (text stream rest : List ℕ) (number : ℕ) → IsReadSoFar text stream rest number → 0 < length rest
    → lines_of rest ≡ rest ∷ [] → hex_stream text ≡ Err number
read_open text stream [] number read more open_line = absurd (omega arith)
read_open text stream (c ∷ rest) number read more open_line = read.spelled
    ∙ ap (λ lines. after stream (spelled_from number lines)) open_line

joined_err : (number : ℕ) (d : Result (List ℕ) FromHexError) (later : Result (List ℕ) ℕ) → IsErr d
    → joined number d later ≡ Err number
joined_err number (Err e) later bad = refl
joined_err number (Ok bytes) later bad = absurd (cc bad)

-- a line that is no hex is a bad line
pub read_bad : (text stream rest line after_it : List ℕ) (number : ℕ) (fault : CommandFault)
    → IsReadSoFar text stream rest number → lines_of rest ≡ line ∷ lines_of after_it → HasLine after_it
    → (fault ≡ NoMemory) ⊎ ((fault ≡ BadLine number) × IsErr (decode_of line)) → TextSays text fault
read_bad text stream rest line after_it number fault read first behind (inl e) = subst (TextSays text) (sym e) tt
read_bad text stream rest line after_it number fault read first behind (inr e) =
    let one = ap (λ lines. after stream (spelled_from number lines)) first
    ∙ ap (after stream) (spelled_line number line after_it behind) in
    let bad = ap (after stream) (joined_err number (decode_of line)
    (spelled_from (number + 1) (lines_of after_it)) e.1) in
    subst (TextSays text) (sym e.0) (read.spelled ∙ one ∙ bad)
