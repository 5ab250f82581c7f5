-- What lines say of a unique as they grow.
use Rattle.std.proofs.Common.{◌≡◌, ℕ, zero, suc, ◌+◌, ◌-◌, ◌≤◌, Bool, true, false, List, [], ◌∷◌, ◌++◌, length, drop, map}
use Rattle.std.proofs.Common.{refl, sym, ap, ◌∙◌, arith, length-append}
use Rattle.std.specs.Prelude.{fold, if◌then◌else◌, ◌==◌}
use Rattle.std.specs.List.{AllByRecursion}
use Rattle.std.proofs.lemmas.Bool.{eq-eqb}
use Rattle.std.proofs.lemmas.Grind.{fold-append}
use Rattle.std.proofs.lemmas.List.{drop-append-le, length-map}
use Rattle.std.proofs.lemmas.List.Elements.{filter-append}
use Rattle.fl_history.specs.Recent.{is_spoken, recalled, recent, spoken, with_ask, with_line}
use Rattle.fl_history.specs.declared.history.Line.{Line}
use Rattle.fl_history.specs.declared.history.Line.TheVariants as line
use Rattle.fl_history.specs.declared.recent.Recalled.{Recalled}
use Rattle.fl_history.specs.declared.recent.Recalled.TheVariants as recall
use Rattle.fl_order.specs.declared.order.Order.{Order}
use Rattle.fl_order.specs.declared.told.Told.{Told}

-- ---- what is said isn't unsaid

none_asked : (n : ℕ) → recall.Asked n ≡ recall.Asked 0 → 1 ≤ n → ⊥
none_asked n e some = let zero_is : n ≡ 0 = cc e in omega (arith, zero_is, some)

asked_before : (before : Recalled) → with_ask before ≡ recall.Asked 0 → ⊥
asked_before (recall.Asked count) e = none_asked (count + 1) e (omega arith)
asked_before (recall.Told told) e = none_asked 1 e (omega arith)

ask_unsaid : (is : Bool) (before : Recalled) → (if is then with_ask before else before) ≡ recall.Asked 0
    → before ≡ recall.Asked 0
ask_unsaid true before e = absurd (asked_before before e)
ask_unsaid false before e = e

tell_unsaid : (is : Bool) (before : Recalled) (told : Told) → (if is then recall.Told told else before) ≡ recall.Asked 0
    → before ≡ recall.Asked 0
tell_unsaid true before told e = absurd (cc e)
tell_unsaid false before told e = e

line_unsaid : (unique : ℕ) (before : Recalled) (l : Line) → with_line unique before l ≡ recall.Asked 0
    → before ≡ recall.Asked 0
line_unsaid unique before (line.Asked worker order) e = ask_unsaid (order.unique == unique) before e
line_unsaid unique before (line.Told told) e = tell_unsaid (told.unique == unique) before told e
line_unsaid unique before (line.State state) e = e

front_unsaid : (unique : ℕ) (before : Recalled) (lines : List Line)
    → fold (with_line unique) before lines ≡ recall.Asked 0 → before ≡ recall.Asked 0
front_unsaid unique before [] e = e
front_unsaid unique before (l ∷ lines) e =
    line_unsaid unique before l (front_unsaid unique (with_line unique before l) lines e)

-- what is said by no lines isn't said by the last of them
pub behind_unsaid : (unique n : ℕ) (lines : List Line) → recalled unique lines ≡ recall.Asked 0
    → recalled unique (drop n lines) ≡ recall.Asked 0
behind_unsaid unique zero lines e = e
behind_unsaid unique (suc n) [] e = refl
behind_unsaid unique (suc n) (l ∷ lines) e =
    let none : with_line unique (recall.Asked 0) l ≡ recall.Asked 0 =
    front_unsaid unique (with_line unique (recall.Asked 0) l) lines e in
    behind_unsaid unique n lines (ap (λ b. fold (with_line unique) b lines) (sym none) ∙ e)

later_unsaid : (unique m n : ℕ) (lines : List Line) → m ≤ n → recalled unique (drop m lines) ≡ recall.Asked 0
    → recalled unique (drop n lines) ≡ recall.Asked 0
later_unsaid unique zero n lines le e = behind_unsaid unique n lines e
later_unsaid unique (suc m) zero lines le e = absurd (omega (arith, le))
later_unsaid unique (suc m) (suc n) [] le e = refl
later_unsaid unique (suc m) (suc n) (l ∷ lines) le e = later_unsaid unique m n lines (omega (arith, le)) e

-- ---- lines of heads say nothing

pub spoken_said : (unique : ℕ) (before : Recalled) (lines : List Line)
    → fold (with_line unique) before (spoken lines) ≡ fold (with_line unique) before lines
spoken_said unique before [] = refl
spoken_said unique before (line.Asked worker order ∷ lines) =
    spoken_said unique (with_line unique before (line.Asked worker order)) lines
spoken_said unique before (line.Told told ∷ lines) = spoken_said unique (with_line unique before (line.Told told)) lines
spoken_said unique before (line.State state ∷ lines) = spoken_said unique before lines

pub few_spoken : (lines : List Line) → length (spoken lines) ≤ length lines
few_spoken [] = omega arith
few_spoken (line.Asked worker order ∷ lines) = let few = few_spoken lines in omega (arith, few)
few_spoken (line.Told told ∷ lines) = let few = few_spoken lines in omega (arith, few)
few_spoken (line.State state ∷ lines) = let few = few_spoken lines in omega (arith, few)

pub spoken_long : (front back : List Line)
    → length (spoken (front ++ back)) ≡ length (spoken front) + length (spoken back)
spoken_long front back =
    ap length (filter-append is_spoken front back) ∙ length-append (spoken front) (spoken back)

-- if the second lines are among the last, these say what the last of the first ones say, and then what the second say
pub recent_split : (unique : ℕ) (front back : List Line) → length (spoken back) ≤ 65536
    → recalled unique (recent (front ++ back))
    ≡ fold (with_line unique) (recalled unique (drop (length (spoken (front ++ back)) - 65536) (spoken front))) back
recent_split unique front back few =
    let n : ℕ = length (spoken (front ++ back)) - 65536 in
    let long = spoken_long front back in
    let within : n ≤ length (spoken front) = omega (arith, long, few) in
    ap (λ l. recalled unique (drop n l)) (filter-append is_spoken front back)
    ∙ ap (recalled unique) (drop-append-le n (spoken front) (spoken back) within)
    ∙ fold-append (with_line unique) (recall.Asked 0) (drop n (spoken front)) (spoken back)
    ∙ spoken_said unique (recalled unique (drop n (spoken front))) back

-- ---- orders of one unique that have no replies

-- lines that ask for these orders
abbrev pub asks : List Order → List Line
asks orders = map (λ order. line.Asked 0 order) orders

pub asks_counted : (unique count : ℕ) (orders : List Order) → AllByRecursion (λ (o : Order). o.unique ≡ unique) orders
    → fold (with_line unique) (recall.Asked count) (asks orders) ≡ recall.Asked (count + length orders)
asks_counted unique count [] all = ap recall.Asked (omega arith)
asks_counted unique count (o ∷ orders) all =
    ap (λ is. fold (with_line unique) (if is then recall.Asked (count + 1) else recall.Asked count) (asks orders))
    (eq-eqb o.unique unique all.0)
    ∙ asks_counted unique (count + 1) orders all.1 ∙ ap recall.Asked (omega arith)

-- if nothing was said of their unique before, the last lines say how many there are
pub asks_recalled : (unique : ℕ) (lines : List Line) (orders : List Order)
    → AllByRecursion (λ (o : Order). o.unique ≡ unique) orders → length orders ≤ 65536
    → recalled unique (recent lines) ≡ recall.Asked 0
    → recalled unique (recent (lines ++ asks orders)) ≡ recall.Asked (length orders)
asks_recalled unique lines orders all few unsaid =
    let n : ℕ = length (spoken (lines ++ asks orders)) - 65536 in
    let long = spoken_long lines (asks orders) in
    let asked : length (asks orders) ≡ length orders = length-map orders (λ order. line.Asked 0 order) in
    let spoken_few = few_spoken (asks orders) in
    let within : length (spoken (asks orders)) ≤ 65536 = omega (arith, asked, spoken_few, few) in
    let later : length (spoken lines) - 65536 ≤ n = omega (arith, long) in
    recent_split unique lines (asks orders) within
    ∙ ap (λ b. fold (with_line unique) b (asks orders))
    (later_unsaid unique (length (spoken lines) - 65536) n (spoken lines) later unsaid)
    ∙ asks_counted unique 0 orders all ∙ ap recall.Asked (omega arith)
