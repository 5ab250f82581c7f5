use Rattle.std.proofs.Common.{arith, ◌^◌, ◌<◌, ℕ}
use Rattle.std.specs.Fmt.{decimal}
use Rattle.std.specs.Str.Iter.{LacksByte}
use Rattle.fl_words.proofs.WordLemmas.{decimal_lacks}
use Rattle.fl_words.proofs.words.u64_word.Goals as goal

-- a number's word has no space
no_space : (n : ℕ) → n < 2 ^ 64 → LacksByte 32 (decimal n)
no_space n small = decimal_lacks n 32 small (λ within. let low = within.0 in omega arith)

pub returns-in_err-word-clause-only : goal.returns-in_err-word-clause-only
returns-in_err-word-clause-only c = λ n rest small e. absurd (c.in_err-word.ensures.only (decimal n) rest (no_space n small) e)

pub returns-in_err-number-clause-only : goal.returns-in_err-number-clause-only
returns-in_err-number-clause-only c = λ n rest small e.
    let parts = c.in_ok-word.ensures.only (decimal n) rest (no_space n small) e in
    let read = c.in_err-number.ensures.only n small parts.0 in
    absurd (cc)

pub returns-clause-only : goal.returns-clause-only
returns-clause-only c = λ n rest small e.
    let parts = c.in_ok-word.ensures.only (decimal n) rest (no_space n small) e in
    let read = c.in_ok-number.ensures.only n small parts.0 in
    (cc, parts.1)
