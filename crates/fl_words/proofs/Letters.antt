-- The bytes of words, which are visible ASCII characters, and of texts of words with spaces between them.
use Rattle.std.proofs.Common.{◌≡◌, ℕ, suc, ◌<◌, ◌≤◌, ◌^◌, ◌/◌, ◌%◌, inl, inr, ◌&&◌, List, [], ◌∷◌}
use Rattle.std.proofs.Common.{length, get_or, All}
use Rattle.std.proofs.Common.{◌++◌, slice_index, refl, sym, subst, arith, lit≤, lit<}
use Rattle.std.proofs.Math.Dec.{leb}
use Rattle.std.proofs.lemmas.Bool.{and_parts, and_from, leb-true, le-leb, cases_lt}
use Rattle.std.proofs.lemmas.List.{get_or_default, get_or_past}
use Rattle.std.proofs.lemmas.List.Elements.{All-cons, All-nil, All-append, All-head, All-tail}
use Rattle.std.proofs.lemmas.Str.{IsUtf8-append, IsUtf8-from_ascii}
use Rattle.std.specs.Fmt.{decimal}
use Rattle.std.specs.List.{AllByRecursion}
use Rattle.std.specs.Str.{IsUtf8}
use Rattle.std.specs.Str.Iter.{LacksByte}
use Rattle.hex.specs.Hex.{IsBytes, encode_lower, encode_with, lower_digits}
use Rattle.fl_words.specs.Words.{spaced, name_text, are_visible, IsVisible}
use Rattle.fl_words.proofs.WordLemmas.{decimal_lacks}

-- a byte that is ASCII and no control character behind the others, and at least this
abbrev pub IsLetter : ℕ → ℕ → Type 0
IsLetter low b = (low ≤ b) × (b ≤ 126)

abbrev pub AreLetters : ℕ → List ℕ → Type 0
AreLetters low bs = All (IsLetter low) bs

-- visible characters alone, place by place
abbrev pub IsWord : List ℕ → Type 0
IsWord word = AreLetters 33 word

-- the test says so
pub tested : (word : List ℕ) → IsVisible word → IsWord word
tested [] t = All-nil (IsLetter 33)
tested (b ∷ bs) t =
    let both = and_parts (leb 33 b && leb b 126) (are_visible bs) t in
    let own = and_parts (leb 33 b) (leb b 126) both.0 in
    All-cons (IsLetter 33) b bs (leb-true 33 b own.0, leb-true b 126 own.1) (tested bs both.1)

-- and the other way
pub visible : (word : List ℕ) → IsWord word → IsVisible word
visible [] is = refl
visible (b ∷ bs) is =
    let own = All-head (IsLetter 33) b bs is in
    and_from (leb 33 b && leb b 126) (are_visible bs) (and_from (leb 33 b) (leb b 126) (le-leb 33 b own.0) (le-leb b 126 own.1))
    (visible bs (All-tail (IsLetter 33) b bs is))

pub decimal_word : (n : ℕ) → n < 2 ^ 64 → IsWord (decimal n)
decimal_word n small k d below =
    let b : ℕ = get_or (decimal n) k 0 in
    let absent : ((48 ≤ b) × (b ≤ 57) → ⊥) → ⊥ = λ out. decimal_lacks n b small out k below refl in
    rw (get_or_default (decimal n) k d 0 below) (within b absent)
  where
    within : (b : ℕ) → (((48 ≤ b) × (b ≤ 57) → ⊥) → ⊥) → IsLetter 33 b
    within b absent = elim (cases_lt b 48) [
      | inl low ↦ absurd (absent (λ w. let l = w.0 in omega arith))
      | inr least ↦ elim (cases_lt 57 b) [ inl high ↦ absurd (absent (λ w. let l = w.1 in omega arith)) | inr most ↦ (omega arith, omega arith) ]
    ]

-- a digit of the table at a place that it has
digit_letter : (d : ℕ) → d < 16 → IsLetter 33 (slice_index lower_digits d)
digit_letter d below = tested lower_digits refl d 0 below

pub hex_word : (name : List ℕ) → IsBytes name → IsWord (encode_lower name)
unfolding encode_with
hex_word [] bytes = All-nil (IsLetter 33)
hex_word (b ∷ name) bytes =
    let small = bytes 0 in
    let rest = hex_word name (λ i. bytes (suc i)) in
    All-cons (IsLetter 33) (slice_index lower_digits (b / 16)) (slice_index lower_digits (b % 16) ∷ encode_lower name) (digit_letter (b / 16) (omega arith))
    (All-cons (IsLetter 33) (slice_index lower_digits (b % 16)) (encode_lower name) (digit_letter (b % 16) (omega arith)) rest)

pub name_word : (name : List ℕ) → IsBytes name → IsWord (name_text name)
name_word [] bytes = tested (45 ∷ []) refl
name_word (b ∷ name) bytes = hex_word (b ∷ name) bytes

-- a byte below the least letter is not there
pub lacks_low : (low c : ℕ) (bs : List ℕ) → AreLetters low bs → c < low → LacksByte c bs
lacks_low low c bs letters below k at e = let l = (letters k 0 at).0 in omega arith

more_letters : (bs : List ℕ) → IsWord bs → AreLetters 32 bs
more_letters bs word k d at = let l = word k d at in (omega arith, l.1)

-- words with spaces between them have no newline, and are ASCII
pub spaced_letters : (words : List (List ℕ)) → AllByRecursion IsVisible words → AreLetters 32 (spaced words)
spaced_letters [] words = All-nil (IsLetter 32)
spaced_letters (word ∷ []) words = more_letters word (tested word words.0)
spaced_letters (word ∷ next ∷ rest) words =
    All-append (IsLetter 32) word (32 ∷ spaced (next ∷ rest)) (more_letters word (tested word words.0))
    (All-cons (IsLetter 32) 32 (spaced (next ∷ rest)) (lit≤ tt, lit≤ tt) (spaced_letters (next ∷ rest) words.1))

pub letters_utf8 : (low : ℕ) (bs : List ℕ) → AreLetters low bs → IsUtf8 bs
letters_utf8 low bs letters = IsUtf8-from_ascii bs (λ i. elim (cases_lt i (length bs)) [
  | inl at ↦ (let l = (letters i 0 at).1 in omega arith)
  | inr past ↦ rw
      (get_or_past bs i 0 past) (lit< tt)
])

-- words behind a text make it no less one
pub more_utf8 : (low : ℕ) (old new word : List ℕ) → AreLetters low word → new ≡ old ++ word → IsUtf8 old → IsUtf8 new
more_utf8 low old new word letters is before = subst IsUtf8 (sym is) (IsUtf8-append old word before (letters_utf8 low word letters))

pub name_utf8 : (old new name : List ℕ) → IsBytes name → new ≡ old ++ 32 ∷ name_text name → IsUtf8 old → IsUtf8 new
name_utf8 old new name bytes = more_utf8 32 old new (32 ∷ name_text name)
    (All-cons (IsLetter 32) 32 (name_text name) (lit≤ tt, lit≤ tt) (more_letters (name_text name) (name_word name bytes)))
