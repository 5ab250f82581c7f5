-- The lines of a client's text, one after another.
use Rattle.std.proofs.Common.{◌≡◌, ℕ, ◌+◌, ◌<◌, ◌≤◌, ◌^◌, ◌⊎◌, inl, inr, Bool, true, false, ◌&&◌, nat_le, List, [], ◌∷◌}
use Rattle.std.proofs.Common.{◌++◌, length, map, refl, sym, ap, subst, ◌∙◌, arith, append_assoc, append-nil, Option}
use Rattle.std.proofs.Common.{Some, None, Result, MatchResult, Ok, Err}
use Rattle.std.proofs.lemmas.Bool.{le-leb, leb-true}
use Rattle.std.proofs.lemmas.Fmt.{digits_value-decimal, IsAscii-decimal}
use Rattle.std.proofs.lemmas.List.{map-append}
use Rattle.std.proofs.lemmas.Slice.Eq.{bytes_eq-Decides}
use Rattle.std.proofs.lemmas.Str.{IsUtf8-from_ascii}
use Rattle.std.proofs.lemmas.Str.Parse.{IsNumeralModel, numerals_by_value, tells_digits}
use Rattle.std.specs.Fmt.{decimal}
use Rattle.std.specs.Result.{result_ok}
use Rattle.std.specs.Str.{bytes_eq, IsUtf8}
use Rattle.std.specs.Str.Parse.{AllDigits, digits_value}
use Rattle.lockd_drive.specs.Drive.{Said, count_of, is_count, line_says, said_before, said_from, text_says}
use Rattle.lockd_drive.specs.Drive.Inside.{said_by, TextFaults}
use Rattle.lockd_faults.specs.HexLines.{lines_of, HasLine}
use Rattle.lockd_drive.specs.declared.actions.Action.{Action}
use Rattle.lockd_faults.specs.declared.fault.CommandFault.{CommandFault}
use Rattle.lockd_faults.specs.declared.fault.CommandFault.TheVariants.{BadLine, NoMemory}

-- these lines stand before what the lines behind them say
abbrev pub after : List Said → Result (List Said) ℕ → Result (List Said) ℕ
after lines (Ok more) = Ok (lines ++ more)
after lines (Err n) = Err n

-- the actions so far, and the text that is left, whose first line has this number
pub record IsReadSoFar (text : List ℕ) (actions : List Action) (rest : List ℕ) (number : ℕ) : Type 0 where
  pub said : text_says text ≡ after (map said_by actions) (said_from number (lines_of rest))
  pub few : number + length rest ≤ length text + 1

after_nothing : (r : Result (List Said) ℕ) → r ≡ after [] r
after_nothing (Ok more) = refl
after_nothing (Err n) = refl

pub read_none : (text : List ℕ) → IsReadSoFar text [] text 1
read_none text = record { said = after_nothing (text_says text); few = omega arith }

-- one line more
said_line : (number : ℕ) (line rest : List ℕ) → HasLine rest
    → said_from number (line ∷ lines_of rest) ≡ said_before number (line_says line) (said_from (number + 1) (lines_of rest))
said_line number line rest h = rw h.is refl

after_line : (before : List Said) (said : Said) (number : ℕ) (o : Option Said) (later : Result (List Said) ℕ)
    → o ≡ Some said → after before (said_before number o later) ≡ after (before ++ said ∷ []) later
after_line before said number o (Ok more) e = rw e (ap Ok (sym (append_assoc before (said ∷ []) more)))
after_line before said number o (Err n) e = rw e refl

pub read_more : (text : List ℕ) (actions : List Action) (rest line after_it : List ℕ) (action : Action) (number : ℕ)
    → IsReadSoFar text actions rest number → lines_of rest ≡ line ∷ lines_of after_it → HasLine after_it
    → length after_it < length rest → line_says line ≡ Some (said_by action)
    → IsReadSoFar text (actions ++ action ∷ []) after_it (number + 1)
read_more text actions rest line after_it action number read first behind shorter says =
    let few = read.few in
    let before = map said_by actions in
    let later = said_from (number + 1) (lines_of after_it) in
    let one = ap (λ lines. after before (said_from number lines)) first
    ∙ ap (after before) (said_line number line after_it behind)
    ∙ after_line before (said_by action) number (line_says line) later says in
    record {
      said = read.said ∙ one ∙ ap (λ lines. after lines later) (sym (map-append said_by actions (action ∷ [])));
      few = omega arith;
    }

-- the text is read
pub read_all_of_it : (text : List ℕ) (actions : List Action) (rest : List ℕ) (number : ℕ)
    → IsReadSoFar text actions rest number → length rest ≡ 0 → text_says text ≡ Ok (map said_by actions)
read_all_of_it text actions [] number read none = read.said ∙ ap Ok (append-nil (map said_by actions))
read_all_of_it text actions (c ∷ rest) number read none = absurd (omega arith)

-- text after the last newline is a bad line
pub read_open : (text : List ℕ) (actions : List Action) (rest : List ℕ) (number : ℕ)
    → IsReadSoFar text actions rest number → 0 < length rest
    → lines_of rest ≡ rest ∷ [] → text_says text ≡ Err number
read_open text actions [] number read more open_line = absurd (omega arith)
read_open text actions (c ∷ rest) number read more open_line = read.said
    ∙ ap (λ lines. after (map said_by actions) (said_from number lines)) open_line

before_err : (number : ℕ) (o : Option Said) (later : Result (List Said) ℕ) → o ≡ None
    → said_before number o later ≡ Err number
before_err number o later e = rw e refl

-- a line that says nothing is a bad line
pub read_bad : (text : List ℕ) (actions : List Action) (rest line after_it : List ℕ) (number : ℕ) (fault : CommandFault)
    → IsReadSoFar text actions rest number → lines_of rest ≡ line ∷ lines_of after_it → HasLine after_it
    → (fault ≡ NoMemory) ⊎ ((fault ≡ BadLine number) × (line_says line ≡ None)) → TextFaults text fault
read_bad text actions rest line after_it number fault read first behind (inl e) = subst (TextFaults text) (sym e) tt
read_bad text actions rest line after_it number fault read first behind (inr e) =
    let before = map said_by actions in
    let one = ap (λ lines. after before (said_from number lines)) first
    ∙ ap (after before) (said_line number line after_it behind) in
    let bad = ap (after before) (before_err number (line_says line) (said_from (number + 1) (lines_of after_it)) e.1) in
    subst (TextFaults text) (sym e.0) (read.said ∙ one ∙ bad)

own : IsNumeralModel (AllDigits 10) (digits_value 10)
own = numerals_by_value (AllDigits 10) tells_digits

-- the word of a number from 1 to 1000
pub count_is : (word : List ℕ) (n : ℕ) → 1 ≤ n → n ≤ 1000 → word ≡ decimal n → count_of word ≡ Some n
count_is word n low high e =
    let value : digits_value 10 word ≡ n = ap (digits_value 10) e ∙ digits_value-decimal own n (omega arith) in
    let from = le-leb 1 n low in
    let to = le-leb n 1000 high in
    let same = (bytes_eq-Decides word (decimal n)).1 e in
    rw (value, from, to, same) refl

-- the three tests of a count
count_tests : (a b c : Bool) → (a && (b && c)) ≡ true → (a ≡ true) × ((b ≡ true) × (c ≡ true))
count_tests true true true e = (refl, (refl, refl))
count_tests true true false e = absurd (cc e)
count_tests true false c e = absurd (cc e)
count_tests false b c e = absurd (cc e)

count_by : (word : List ℕ) (n : ℕ) (b : Bool) → is_count n word ≡ b
    → (1 ≤ n → n ≤ 1000 → word ≡ decimal n → ⊥) → b ≡ false
count_by word n false e never = refl
count_by word n true e never =
    let tests = count_tests (nat_le 1 n) (nat_le n 1000) (bytes_eq word (decimal n)) e in
    absurd (never (leb-true 1 n tests.0) (leb-true n 1000 tests.1.0) ((bytes_eq-Decides word (decimal n)).0 tests.1.1))

-- a word that spells no number from 1 to 1000
pub count_none : (word : List ℕ) → ((n : ℕ) → 1 ≤ n → n ≤ 1000 → word ≡ decimal n → ⊥) → count_of word ≡ None
count_none word never =
    let value = digits_value 10 word in
    let no : is_count value word ≡ false = count_by word value (is_count value word) refl (never value) in
    rw no refl

-- UTF-8 is read as text
pub utf8_is_read : {T E : Type 0} (r : Result T E) (P : T → Type 0) (U : Type 0) (Q : E → Type 0)
    → MatchResult r P (λ e. (U → ⊥) × Q e) → U → result_ok r ≡ None → ⊥
utf8_is_read (Ok t) P U Q cases u none = cc
utf8_is_read (Err e) P U Q cases u none = cases.0 u

-- the word of a number is text
pub decimal_utf8 : (word : List ℕ) (n : ℕ) → n < 2 ^ 32 → word ≡ decimal n → IsUtf8 word
decimal_utf8 word n small e = subst IsUtf8 (sym e) (IsUtf8-from_ascii (decimal n) (IsAscii-decimal n (omega arith)))
