use Rattle.std.proofs.Common.{◌≡◌, ◌+◌, ◌*◌, ◌≤◌, ◌++◌, ◌∷◌, length, take, vec_capacity}
use Rattle.std.specs.Fmt.{decimal}
use Rattle.std.specs.List.{flat_map}
use Rattle.std.specs.Str.{IsUtf8}
use Rattle.fl_words.proofs.spelling.push_numbers.Given as goal

-- the numbers so far are there, and there is room for the others
abbrev pub invariant-loop-number : goal.invariant-loop-number
invariant-loop-number l =
    (l.text.items ≡ l.initial.text.items ++ flat_map (λ n. 32 ∷ decimal n) (take l.number-index l.numbers))
    × (length l.text.items ≤ length l.initial.text.items + 21 * l.number-index)
    × (vec_capacity l.initial.text ≤ vec_capacity l.text)
    × (IsUtf8 l.initial.text.items → IsUtf8 l.text.items)
