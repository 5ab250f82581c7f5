-- How many orders of each worker a history has.
use Rattle.std.proofs.Common.{◌≡◌, ◌≢◌, ℕ, suc, ◌+◌, ◌≤◌, ◌==◌, Bool, true, false, cond, List, [], ◌∷◌, ◌++◌, All}
use Rattle.std.proofs.Common.{length, length-append, sum_by, refl, ap, sym, ◌∙◌}
use Rattle.std.proofs.Common.{subst, arith}
use Rattle.std.proofs.lemmas.Bool.Decides.{nat_tests}
use Rattle.std.proofs.lemmas.List.Elements.{All-head, All-tail, All-cons}
use Rattle.std.proofs.lemmas.List.Sums.{sum_by-cons}
use Rattle.std.specs.Prelude.{if◌then◌else◌}
use Rattle.fl_record.specs.Seats.{HasMostOf}
use Rattle.fl_record.specs.Seats.{AreApart, Place}
use Rattle.fl_board.specs.Shown.{HasAllOf}
use Rattle.fl_counter.specs.Answered.{Answered, answered_by}
use Rattle.fl_desk.specs.Legal.{is_asked, orders_asked}
use Rattle.fl_history.specs.declared.history.Line.{Line}
use Rattle.fl_history.specs.declared.history.Line.TheVariants as line

abbrev one_if : Bool → ℕ
one_if b = cond b 1 0

-- how many orders of the worker the lines have
abbrev pub orders_by : ℕ → List Line → ℕ
orders_by worker lines = length (answered_by worker lines)

-- the line asks for this worker
abbrev is_asked_by : ℕ → Line → Bool
is_asked_by worker (line.Asked asker order) = asker == worker
is_asked_by worker (line.Told told) = false
is_asked_by worker (line.State state) = false

one_longer_if : (b : Bool) (a : Answered) (rest : List Answered)
    → length ((if b then a ∷ [] else []) ++ rest) ≡ one_if b + length rest
one_longer_if true a rest = length-append (a ∷ []) rest
one_longer_if false a rest = omega arith

line_more : (worker : ℕ) (l : Line) (lines : List Line)
    → orders_by worker (l ∷ lines) ≡ one_if (is_asked_by worker l) + orders_by worker lines
line_more worker (line.Asked asker order) lines = one_longer_if (asker == worker) _ (answered_by worker lines)
line_more worker (line.Told told) lines = omega arith
line_more worker (line.State state) lines = omega arith

-- ---- each line is of one worker at most

abbrev by_each : List Line → List Place → ℕ
by_each lines places = sum_by (λ (p : Place). orders_by p.worker lines) places

abbrev asked_once : ℕ → List Place → ℕ
asked_once asker places = sum_by (λ (p : Place). one_if (asker == p.worker)) places

head_apart : (p : Place) (places : List Place) → AreApart (p ∷ places) → All (λ (q : Place). p.worker ≢ q.worker) places
head_apart p places apart = λ k d short. apart 0 (suc k) d (omega arith) (omega (arith, short))

tail_apart : (p : Place) (places : List Place) → AreApart (p ∷ places) → AreApart places
tail_apart p places apart = λ i j d less short. apart (suc i) (suc j) d (omega (arith, less)) (omega (arith, short))

none_of : (asker : ℕ) (places : List Place) → All (λ (q : Place). asker ≢ q.worker) places → asked_once asker places ≡ 0
none_of asker [] all = refl
none_of asker (p ∷ places) all =
    let other : (asker == p.worker) ≡ false = differs asker p.worker (All-head (λ (q : Place). asker ≢ q.worker) p places all) in
    sum_by-cons (λ (q : Place). one_if (asker == q.worker)) p places
    ∙ (λ i. one_if (other i) + none_of asker places (All-tail (λ (q : Place). asker ≢ q.worker) p places all) i)
  where
    differs : (m n : ℕ) → m ≢ n → (m == n) ≡ false
    differs m n apart = grind (arith, nat_tests)

once_at_most : (asker : ℕ) (places : List Place) → AreApart places → asked_once asker places ≤ 1
once_at_most asker [] apart = omega arith
once_at_most asker (p ∷ places) apart = go (asker == p.worker) refl (once_at_most asker places (tail_apart p places apart))
  where
    rest : asked_once asker (p ∷ places) ≡ one_if (asker == p.worker) + asked_once asker places
    rest = sum_by-cons (λ (q : Place). one_if (asker == q.worker)) p places

    equal : (m n : ℕ) → (m == n) ≡ true → m ≡ n
    equal m n e = grind (arith, nat_tests)

    go : (b : Bool) → (asker == p.worker) ≡ b → asked_once asker places ≤ 1 → asked_once asker (p ∷ places) ≤ 1
    go true e smaller =
        let none : asked_once asker places ≡ 0 =
        none_of asker places (subst (λ n. All (λ (q : Place). n ≢ q.worker) places) (sym (equal asker p.worker e)) (head_apart p places apart)) in
        omega (arith, rest, ap one_if e, none)
    go false e smaller = omega (arith, rest, ap one_if e, smaller)

all_zero : (places : List Place) → sum_by (λ (p : Place). 0) places ≡ 0
all_zero [] = refl
all_zero (p ∷ places) = sum_by-cons (λ (q : Place). 0) p places ∙ ap (λ n. 0 + n) (all_zero places)

line_once : (l : Line) (places : List Place) → AreApart places → sum_by (λ (p : Place). one_if (is_asked_by p.worker l)) places ≤ one_if (is_asked l)
line_once (line.Asked asker order) places apart = once_at_most asker places apart
line_once (line.Told told) places apart = omega (arith, all_zero places)
line_once (line.State state) places apart = omega (arith, all_zero places)

split : (l : Line) (lines : List Line) (places : List Place)
    → by_each (l ∷ lines) places ≡ sum_by (λ (p : Place). one_if (is_asked_by p.worker l)) places + by_each lines places
split l lines [] = refl
split l lines (p ∷ places) =
    omega (
      arith,
      sum_by-cons (λ (q : Place). orders_by q.worker (l ∷ lines)) p places,
      sum_by-cons (λ (q : Place). one_if (is_asked_by q.worker l)) p places,
      sum_by-cons (λ (q : Place). orders_by q.worker lines) p places,
      line_more p.worker l lines,
      split l lines places,
    )

-- the workers have no more orders together than there are
pub no_more_than_all : (lines : List Line) (places : List Place) → AreApart places → by_each lines places ≤ orders_asked lines
no_more_than_all [] places apart = omega (arith, all_zero places)
no_more_than_all (l ∷ lines) places apart =
    omega (arith, split l lines places, line_once l places apart, no_more_than_all lines places apart, sum_by-cons (λ k. one_if (is_asked k)) l lines)

-- ---- if each has as many as it handed in at least, and all have as many, each has exactly as many

most_sum : (lines : List Line) (places : List Place) → All (λ (p : Place). HasMostOf lines p) places
    → sum_by (λ (p : Place). p.count) places ≤ by_each lines places
most_sum lines [] most = omega arith
most_sum lines (p ∷ places) most =
    let here = All-head (λ (q : Place). HasMostOf lines q) p places most in
    omega (
      arith,
      here.count,
      sum_by-cons (λ (q : Place). q.count) p places,
      sum_by-cons (λ (q : Place). orders_by q.worker lines) p places,
      most_sum lines places (All-tail (λ (q : Place). HasMostOf lines q) p places most),
    )

exactly : (lines : List Line) (places : List Place) → All (λ (p : Place). HasMostOf lines p) places
    → by_each lines places ≤ sum_by (λ (p : Place). p.count) places → All (λ (p : Place). HasAllOf lines p) places
exactly lines [] most small = λ k d short. absurd (omega (arith, short))
exactly lines (p ∷ places) most small =
    let here = All-head (λ (q : Place). HasMostOf lines q) p places most in
    let others = All-tail (λ (q : Place). HasMostOf lines q) p places most in
    let counts = sum_by-cons (λ (q : Place). q.count) p places in
    let orders = sum_by-cons (λ (q : Place). orders_by q.worker lines) p places in
    let rest = most_sum lines places others in
    All-cons (λ (q : Place). HasAllOf lines q) p places
    (record {
      had = here.had;
      answered = here.answered;
      saw = here.saw;
      count = omega (arith, here.count, small, counts, orders, rest);
    })
    (exactly lines places others (omega (arith, here.count, small, counts, orders)))

pub has_all : (lines : List Line) (places : List Place) → AreApart places → All (λ (p : Place). HasMostOf lines p) places
    → orders_asked lines ≡ sum_by (λ (p : Place). p.count) places → All (λ (p : Place). HasAllOf lines p) places
has_all lines places apart most total = exactly lines places most (omega (arith, no_more_than_all lines places apart, total))
