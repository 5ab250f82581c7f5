-- Numbers' words.
use Rattle.std.proofs.Common.{◌≡◌, ℕ, ◌<◌, ◌≤◌, ◌^◌, List, length, get_or, IfOk, Result, Ok, Err, Option, Some, None}
use Rattle.std.proofs.Common.{IsSome, IfSome, IsSomeAnd}
use Rattle.std.proofs.Common.{MatchOption, MatchResult, zero, suc, [], ◌∷◌, refl, sym, ◌∙◌, ap, subst, arith}
use Rattle.std.specs.Fmt.{decimal}
use Rattle.std.specs.Int.{IsInRange}
use Rattle.std.specs.Str.Iter.{LacksByte}
use Rattle.std.specs.Str.Parse.{ParsesUnsigned, AllDigits, digits_value}
use Rattle.std.proofs.lemmas.Str.Parse.{IsNumeralModel, numerals_by_value, tells_digits, parse_plain, not_in_digits}
use Rattle.std.proofs.lemmas.Fmt.{decimal-digits_value, digits_decimal, decimal_nonempty, first_decimal}
use Rattle.std.proofs.lemmas.Fmt.{length-decimal-le}
use Rattle.hex.specs.Hex.{IsBytes, encode_lower, lower_digits, decode_sized}
use Rattle.hex.specs.declared.error.FromHexError.{FromHexError}
use Rattle.hex.proofs.HexLemmas.{length-encode_with, decode_sized-encode_lower}
use Rattle.fl_words.specs.Words.{name_text}
use Rattle.fl_words.specs.Words.{IsPlain}

pub own : IsNumeralModel (AllDigits 10) (digits_value 10)
own = numerals_by_value (AllDigits 10) tells_digits

-- what parses, with no plus and no zero that leads, is the one spelling of its value
pub decimal-parsed : {E : Type 0} (word : List ℕ) (r : Result ℕ E) → ParsesUnsigned 64 10 word r → IsPlain word → IfOk r (λ n. word ≡ decimal n)
decimal-parsed {E} word (Ok n) parsed plain =
    let told = parse_plain own {E = E} 64 word (Ok n) parsed plain.no_plus in
    let one : get_or word 0 0 ≡ 48 → length word ≡ 1 = λ zero. let most = plain.no_zero zero in let least = told.0.1 in omega arith in
    let same = decimal-digits_value own word told.0.0 told.0.1 one told.0.2 in
    cc
decimal-parsed word (Err e) parsed plain = tt

-- a number's word has no byte but digits
pub decimal_lacks : (n c : ℕ) → n < 2 ^ 64 → (IsInRange 48 57 c → ⊥) → LacksByte c (decimal n)
decimal_lacks n c small other = not_in_digits own (decimal n) c (digits_decimal own n small) other

-- a zero in front is the number 0
zero_alone : (n : ℕ) → n < 2 ^ 64 → get_or (decimal n) 0 0 ≡ 48 → length (decimal n) ≤ 1
zero_alone zero small first = length-decimal-le 1 0 (omega arith) (omega arith) small
zero_alone (suc n) small first = let above = first_decimal (suc n) (omega arith) small in absurd (omega arith)

-- a number's word is plain
pub IsPlain-decimal : (n : ℕ) → n < 2 ^ 64 → IsPlain (decimal n)
IsPlain-decimal n small = record {
  no_plus = decimal_lacks n 43 small (λ within. let low = within.0 in let high = within.1 in omega arith) 0 (decimal_nonempty n small);
  no_zero = zero_alone n small;
}

-- what is cut at a space
pub some_and : {X : Type 0} (o : Option X) (P : X → Type 0) → MatchOption o ⊥ P → IsSomeAnd o P
some_and (Some x) P h = h
some_and None P h = h

-- the digits of a name decode to it
pub decoded_name : (word name old new : List ℕ) (r : Result Unit FromHexError) → word ≡ encode_lower name → IsBytes name → length old ≡ length name
    → MatchResult (decode_sized word (length old)) (λ bytes. (r ≡ Ok tt) × (new ≡ bytes)) (λ e. r ≡ Err e) → (r ≡ Ok tt) × (new ≡ name)
decoded_name word name old new r e bytes same h =
    let P : Result (List ℕ) FromHexError → Type 0 = λ d. MatchResult d (λ bytes. (r ≡ Ok tt) × (new ≡ bytes)) (λ e. r ≡ Err e) in
    let d : decode_sized word (length old) ≡ Ok name = ap (λ w. decode_sized w (length old)) e ∙ decode_sized-encode_lower name (length old) (sym same) bytes in
    subst P d h

-- only the empty name is a dash
pub dash_is_empty : (name : List ℕ) → name_text name ≡ 45 ∷ [] → name ≡ []
dash_is_empty [] e = refl
dash_is_empty (b ∷ bytes) e = let len = length-encode_with lower_digits (b ∷ bytes) in let short = ap length e in absurd (omega arith)

-- the text of a name that isn't empty
pub name_digits : (name : List ℕ) → (name ≡ [] → ⊥) → name_text name ≡ encode_lower name
name_digits [] some = absurd (some refl)
name_digits (b ∷ bytes) some = refl

-- an option that is told to hold a value
pub some_of : {X : Type 0} (o : Option X) (x y : X) → IsSome o → IfSome o (λ held. held ≡ y) → y ≡ x → o ≡ Some x
some_of (Some z) x y is held e = ap (λ v. Some v) (held ∙ e)
some_of None x y is held e = cc
