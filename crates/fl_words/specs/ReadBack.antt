-- Words are told apart by the spaces between them, and what a word stands for is found again.
use Rattle.std.specs.Prelude.{◌≡◌, ◌==◌, ℕ, ◌≤◌, ◌<◌, ◌^◌, List, [], length}
use Rattle.std.specs.Fmt.{decimal}
use Rattle.std.specs.List.{AllByRecursion, slice_split}
use Rattle.std.specs.Result.{result_unwrap_or}
use Rattle.std.specs.Str.{IsUtf8}
use Rattle.std.specs.Str.Iter.{LacksByte}
use Rattle.std.specs.Str.Parse.{digits_value}
use Rattle.hex.specs.Hex.{decode_of}
use Rattle.fl_order.specs.Name.{IsName}
use Rattle.fl_words.specs.Words.{spaced, name_text, IsVisible}

-- what stands between the spaces of a text
abbrev pub words_of : List ℕ → List (List ℕ)
words_of text = slice_split (λ b. b == 32) text

-- the number that digits stand for
abbrev pub number_of_word : List ℕ → ℕ
number_of_word word = digits_value 10 word

-- the name that hex digits stand for; any other word, such as a dash, stands for the empty one
abbrev pub name_of_word : List ℕ → List ℕ
name_of_word word = result_unwrap_or (decode_of word) []

-- Words of visible characters are what stands between the spaces of their text, which is UTF-8 and has no newline. A
-- number that fits 64 bits and a name have such words, which lead back to them.
pub record AreReadBack : Type 0 where
  pub words : (words : List (List ℕ)) → 0 < length words → AllByRecursion IsVisible words
      → words_of (spaced words) ≡ words
  pub text_is_utf8 : (words : List (List ℕ)) → AllByRecursion IsVisible words → IsUtf8 (spaced words)
  pub text_lacks_newline : (words : List (List ℕ)) → AllByRecursion IsVisible words → LacksByte 10 (spaced words)
  pub number_is_visible : (n : ℕ) → n < 2 ^ 64 → IsVisible (decimal n)
  pub number : (n : ℕ) → n < 2 ^ 64 → number_of_word (decimal n) ≡ n
  pub name_is_visible : (name : List ℕ) → IsName name → IsVisible (name_text name)
  pub name_is_short : (name : List ℕ) → IsName name → length (name_text name) ≤ 510
  pub name : (name : List ℕ) → IsName name → name_of_word (name_text name) ≡ name
