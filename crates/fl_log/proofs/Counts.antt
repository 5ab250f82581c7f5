-- How many entries of each author a log has.
use Rattle.std.proofs.Common.{◌≡◌, ◌≢◌, ℕ, suc, ◌+◌, ◌≤◌, ◌==◌, Bool, true, false, List, [], ◌∷◌, ◌++◌, All}
use Rattle.std.proofs.Common.{Option, Some, option_to_list, length, length-append, sum_by, refl, ap, sym, ◌∙◌}
use Rattle.std.proofs.Common.{subst, arith, append_assoc}
use Rattle.std.specs.Prelude.{if◌then◌else◌}
use Rattle.std.proofs.lemmas.Bool.Decides.{nat_tests}
use Rattle.std.proofs.lemmas.List.Elements.{All-head, All-tail, All-cons}
use Rattle.std.proofs.lemmas.List.Sums.{sum_by-cons, sum_by_push}
use mathlib.Core.List.{IsPrefix}
use Rattle.fl_log.specs.Appended.{Appended, AreApart, HasAll, HasMost, entries_by, entry_by}

module _ {E : Type 0} (author_of : E → ℕ) where
  abbrev by : ℕ → List E → List E
  by = entries_by author_of

  by_append : (author : ℕ) (xs ys : List E) → by author (xs ++ ys) ≡ by author xs ++ by author ys
  by_append author [] ys = refl
  by_append author (x ∷ xs) ys = ap (λ l. entry_by author_of author x ++ l) (by_append author xs ys)
      ∙ sym (append_assoc (entry_by author_of author x) (by author xs) (by author ys))

  same_number : (n : ℕ) → (n == n) ≡ true
  same_number n = grind (arith, nat_tests)

  -- an entry is its author's
  by_itself : (author : ℕ) (e : E) → author_of e ≡ author → by author (e ∷ []) ≡ e ∷ []
  by_itself author e is = ap (λ n. (if n == author then e ∷ [] else []) ++ []) is
      ∙ ap (λ b. (if b then e ∷ [] else []) ++ []) (same_number author)

  -- a longer log has as many at least
  more_by : (author : ℕ) (xs ys : List E) → IsPrefix xs ys → length (by author xs) ≤ length (by author ys)
  more_by author xs ys p = omega (
    arith,
    sym (ap (λ l. length (by author l)) p.1) ∙ ap length (by_append author xs p.0),
    length-append (by author xs) (by author p.0),
  )

  -- an entry of the author is one more
  pub one_more_by : (author : ℕ) (xs : List E) (e : E) → author_of e ≡ author
      → length (by author (xs ++ e ∷ [])) ≡ length (by author xs) + 1
  one_more_by author xs e is =
      ap length (by_append author xs (e ∷ []) ∙ ap (λ l. by author xs ++ l) (by_itself author e is))
      ∙ length-append (by author xs) (e ∷ [])

  -- what is backed by what it has of a log is backed by a longer log
  pub most_of : (it : Appended E) (log : List E) → it.count ≤ length (by it.author it.upto) → IsPrefix it.upto log
      → HasMost author_of log it
  most_of it log backed begins = record {
    had = begins;
    count = let more = more_by it.author it.upto log begins in omega (arith, backed, more);
  }

  -- ---- each entry is of one author at most

  abbrev by_each : List E → List (Appended E) → ℕ
  by_each log its = sum_by (λ (a : Appended E). length (by a.author log)) its

  abbrev one_if : Bool → ℕ
  one_if b = if b then 1 else 0

  abbrev times : ℕ → List (Appended E) → ℕ
  times author its = sum_by (λ (a : Appended E). one_if (author == a.author)) its

  head_apart : (a : Appended E) (its : List (Appended E)) → AreApart (a ∷ its)
      → All (λ (b : Appended E). a.author ≢ b.author) its
  head_apart a its apart = λ k d short. apart 0 (suc k) d (omega arith) (omega (arith, short))

  tail_apart : (a : Appended E) (its : List (Appended E)) → AreApart (a ∷ its) → AreApart its
  tail_apart a its apart = λ i j d less short. apart (suc i) (suc j) d (omega (arith, less)) (omega (arith, short))

  differs : (m n : ℕ) → m ≢ n → (m == n) ≡ false
  differs m n apart = grind (arith, nat_tests)

  equal : (m n : ℕ) → (m == n) ≡ true → m ≡ n
  equal m n e = grind (arith, nat_tests)

  none_of : (author : ℕ) (its : List (Appended E)) → All (λ (b : Appended E). author ≢ b.author) its
      → times author its ≡ 0
  none_of author [] all = refl
  none_of author (a ∷ its) all =
      let P : Appended E → Type 0 = λ b. author ≢ b.author in
      let other : (author == a.author) ≡ false = differs author a.author (All-head P a its all) in
      sum_by-cons (λ (b : Appended E). one_if (author == b.author)) a its
      ∙ (λ i. one_if (other i) + none_of author its (All-tail P a its all) i)

  once_at_most : (author : ℕ) (its : List (Appended E)) → AreApart its → times author its ≤ 1
  once_at_most author [] apart = omega arith
  once_at_most author (a ∷ its) apart =
      go (author == a.author) refl (once_at_most author its (tail_apart a its apart))
    where
      rest : times author (a ∷ its) ≡ one_if (author == a.author) + times author its
      rest = sum_by-cons (λ (b : Appended E). one_if (author == b.author)) a its

      go : (b : Bool) → (author == a.author) ≡ b → times author its ≤ 1 → times author (a ∷ its) ≤ 1
      go true e smaller =
          let none : times author its ≡ 0 = none_of author its
          (subst (λ n. All (λ (q : Appended E). n ≢ q.author) its) (sym (equal author a.author e)) (head_apart a its apart)) in
          omega (arith, rest, ap one_if e, none)
      go false e smaller = omega (arith, rest, ap one_if e, smaller)

  all_zero : (its : List (Appended E)) → sum_by (λ (a : Appended E). 0) its ≡ 0
  all_zero [] = refl
  all_zero (a ∷ its) = sum_by-cons (λ (q : Appended E). 0) a its ∙ ap (λ n. 0 + n) (all_zero its)

  length_if : (b : Bool) (e : E) → length (if b then e ∷ [] else []) ≡ one_if b
  length_if true e = refl
  length_if false e = refl

  split : (e : E) (log : List E) (its : List (Appended E))
      → by_each (e ∷ log) its ≡ times (author_of e) its + by_each log its
  split e log [] = refl
  split e log (a ∷ its) =
      omega (
        arith,
        sum_by-cons (λ (q : Appended E). length (by q.author (e ∷ log))) a its,
        sum_by-cons (λ (q : Appended E). one_if (author_of e == q.author)) a its,
        sum_by-cons (λ (q : Appended E). length (by q.author log)) a its,
        length-append (entry_by author_of a.author e) (by a.author log),
        length_if (author_of e == a.author) e,
        split e log its,
      )

  -- the authors have no more entries together than there are
  no_more_than_all : (log : List E) (its : List (Appended E)) → AreApart its → by_each log its ≤ length log
  no_more_than_all [] its apart = omega (arith, all_zero its)
  no_more_than_all (e ∷ log) its apart =
      omega (arith, split e log its, once_at_most (author_of e) its apart, no_more_than_all log its apart)

  -- ---- if each has as many as it appended at least, and all have as many, each has exactly as many

  most_sum : (log : List E) (its : List (Appended E)) → All (HasMost author_of log) its
      → sum_by (λ (a : Appended E). a.count) its ≤ by_each log its
  most_sum log [] most = omega arith
  most_sum log (a ∷ its) most =
      let here = All-head (HasMost author_of log) a its most in
      omega (
        arith,
        here.count,
        sum_by-cons (λ (q : Appended E). q.count) a its,
        sum_by-cons (λ (q : Appended E). length (by q.author log)) a its,
        most_sum log its (All-tail (HasMost author_of log) a its most),
      )

  exactly : (log : List E) (its : List (Appended E)) → All (HasMost author_of log) its
      → by_each log its ≤ sum_by (λ (a : Appended E). a.count) its → All (HasAll author_of log) its
  exactly log [] most small = λ k d short. absurd (omega (arith, short))
  exactly log (a ∷ its) most small =
      let here = All-head (HasMost author_of log) a its most in
      let others = All-tail (HasMost author_of log) a its most in
      let counts = sum_by-cons (λ (q : Appended E). q.count) a its in
      let entries = sum_by-cons (λ (q : Appended E). length (by q.author log)) a its in
      let rest = most_sum log its others in
      All-cons (HasAll author_of log) a its
      (record { had = here.had; count = omega (arith, here.count, small, counts, entries, rest) })
      (exactly log its others (omega (arith, here.count, small, counts, entries)))

  pub has_all : (log : List E) (its : List (Appended E)) → AreApart its → All (HasMost author_of log) its
      → length log ≡ sum_by (λ (a : Appended E). a.count) its → All (HasAll author_of log) its
  has_all log its apart most total = exactly log its most (omega (arith, no_more_than_all log its apart, total))

-- one less is left behind a list from whose end one was taken, and the others count the rest
pub one_popped : {X : Type 0} (f : X → ℕ) (xs left : List X) (taken : Option X) (x : X) → xs ≡ left ++ option_to_list taken
    → taken ≡ Some x → (length xs ≡ length left + 1) × (sum_by f xs ≡ sum_by f left + f x)
one_popped f xs left taken x items is =
    let all : xs ≡ left ++ x ∷ [] = items ∙ ap (λ o. left ++ option_to_list o) is in
    (ap length all ∙ length-append left (x ∷ []), ap (sum_by f) all ∙ sum_by_push f left x)
