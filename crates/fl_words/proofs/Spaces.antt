-- A text of words is split at its spaces into these words, and what a word stands for is found again.
use Rattle.std.proofs.Common.{◌≡◌, ◌∙◌, ℕ, ◌≤◌, ◌<◌, List, [], ◌∷◌, length, get_or, false, refl, ap, arith, lit<, All}
use Rattle.std.proofs.Math.Dec.{eqb}
use Rattle.std.proofs.lemmas.Bool.{ne_eqb}
use Rattle.std.proofs.lemmas.Fmt.{digits_value-decimal}
use Rattle.std.proofs.lemmas.List.Splits.{slice_split_at, slice_split_none}
use Rattle.std.specs.Fmt.{decimal}
use Rattle.std.specs.List.{AllByRecursion}
use Rattle.std.specs.Result.{result_unwrap_or}
use Rattle.hex.proofs.HexLemmas.{decode_of-encode_lower, length-encode_with}
use Rattle.hex.specs.Hex.{IsBytes, lower_digits}
use Rattle.fl_order.specs.Name.{IsName}
use Rattle.fl_words.specs.ReadBack.{AreReadBack, words_of, name_of_word}
use Rattle.fl_words.specs.Words.{spaced, name_text, IsVisible}
use Rattle.fl_words.proofs.Letters.{tested, visible, lacks_low, letters_utf8, spaced_letters, decimal_word, name_word}
use Rattle.fl_words.proofs.WordLemmas.{own}

no_space : (word : List ℕ) → IsVisible word → All (λ b. eqb b 32 ≡ false) word
no_space word is k d at = let l = (tested word is k d at).0 in ne_eqb (get_or word k d) 32 (λ e. omega arith)

split_spaced : (words : List (List ℕ)) → 0 < length words → AllByRecursion IsVisible words → words_of (spaced words) ≡ words
split_spaced [] some are = absurd (omega arith)
split_spaced (word ∷ []) some are = slice_split_none (λ b. eqb b 32) word (no_space word are.0)
split_spaced (word ∷ next ∷ words) some are =
    slice_split_at (λ b. eqb b 32) word 32 (spaced (next ∷ words)) (no_space word are.0) refl
    ∙ ap (λ rest. word ∷ rest) (split_spaced (next ∷ words) (omega arith) are.1)

name_short : (name : List ℕ) → IsName name → length (name_text name) ≤ 510
name_short [] is = omega arith
name_short (b ∷ name) is = let few = is.short in omega (arith, few, length-encode_with lower_digits (b ∷ name))

name_back : (name : List ℕ) → IsBytes name → name_of_word (name_text name) ≡ name
name_back [] bytes = refl
name_back (b ∷ name) bytes = ap (λ r. result_unwrap_or r []) (decode_of-encode_lower (b ∷ name) bytes)

pub read_back : AreReadBack
read_back = record {
  words = split_spaced;
  text_is_utf8 = λ words are. letters_utf8 32 (spaced words) (spaced_letters words are);
  text_lacks_newline = λ words are. lacks_low 32 10 (spaced words) (spaced_letters words are) (lit< tt);
  number_is_visible = λ n small. visible (decimal n) (decimal_word n small);
  number = λ n small. digits_value-decimal own n small;
  name_is_visible = λ name is. visible (name_text name) (name_word name is.are_bytes);
  name_is_short = name_short;
  name = λ name is. name_back name is.are_bytes;
}
