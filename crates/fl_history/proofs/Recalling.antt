-- The last items of a list that grows, and what lines say of a unique, by what is kept of them.
use Rattle.std.proofs.Common.{◌≡◌, ◌⊎◌, inl, inr, ℕ, zero, suc, ◌+◌, ◌-◌, ◌<◌, ◌≤◌, min, Bool, true, false, cond, ◌==◌, List, [], ◌∷◌, ◌++◌, length, drop}
use Rattle.std.proofs.Common.{Some, refl, ap, sym, ◌∙◌, append-nil, append_assoc, arith, length-append}
use Rattle.std.proofs.lemmas.Bool.{cases_lt}
use Rattle.std.proofs.lemmas.List.{drop-append-le, drop-drop, length-drop, length_push}
use Rattle.std.proofs.lemmas.List.Elements.{filter-append, filter_map-append}
use Rattle.std.proofs.Math.Seq.{drop-append-add}
use Rattle.std.specs.List.{cons_option, fold}
use Rattle.fl_history.specs.Inside.Entries.{entry_of, entries_of, last_kept, recalled_by, asks_of}
use Rattle.fl_history.specs.Recent.{with_ask, with_line, is_spoken, spoken, recalled, recent}
use Rattle.fl_history.specs.declared.history.Line.{Line}
use Rattle.fl_history.specs.declared.history.Line.TheVariants as line
use Rattle.fl_history.specs.declared.recent.Entry.{Entry}
use Rattle.fl_history.specs.declared.recent.Entry.TheVariants as entry
use Rattle.fl_history.specs.declared.recent.Recalled.{Recalled}
use Rattle.fl_history.specs.declared.recent.Recalled.TheVariants as recall
use Rattle.fl_order.specs.declared.state_part.StateLine.{StateLine}
use Rattle.fl_order.specs.declared.told.Told.{Told}

-- the last n items of a list
abbrev keep_last : {A : Type 0} → ℕ → List A → List A
keep_last n xs = drop (length xs - n) xs

last_more : {A : Type 0} (n : ℕ) (xs more : List A) → keep_last n (keep_last n xs ++ more) ≡ keep_last n (xs ++ more)
last_more {A} n xs more =
    let cut : ℕ = length xs - n in
    let whole : List A = xs ++ more in
    let with_more : drop cut xs ++ more ≡ drop cut whole = sym (drop-append-le cut xs more (omega arith)) in
    let places : cut + (length (drop cut whole) - n) ≡ length whole - n =
    omega (arith, length-drop cut whole, length-append xs more) in
    ap (keep_last n) with_more ∙ drop-drop (length (drop cut whole) - n) cut whole ∙ ap (λ m. drop m whole) places

-- the last of items that stand behind others
last_behind : {A : Type 0} (n : ℕ) (xs ys : List A) → (n < length ys) ⊎ (length ys ≤ n)
    → keep_last n (xs ++ keep_last n ys) ≡ keep_last n (xs ++ ys)
last_behind {A} n xs ys (inl more) =
    let cut : ℕ = length ys - n in
    let kept : List A = drop cut ys in
    let left : length (xs ++ kept) - n ≡ length xs + 0 =
    omega (arith, more, length-append xs kept, length-drop cut ys) in
    let right : length (xs ++ ys) - n ≡ length xs + cut = omega (arith, more, length-append xs ys) in
    ap (λ m. drop m (xs ++ kept)) left ∙ drop-append-add xs kept 0 ∙ sym (drop-append-add xs ys cut)
    ∙ ap (λ m. drop m (xs ++ ys)) (sym right)
last_behind n xs ys (inr few) =
    let none : length ys - n ≡ 0 = omega (arith, few) in
    ap (λ m. keep_last n (xs ++ drop m ys)) none

-- the last of the last
last_joined : {A : Type 0} (n : ℕ) (xs ys : List A) → keep_last n (keep_last n xs ++ keep_last n ys) ≡ keep_last n (xs ++ ys)
last_joined n xs ys = last_more n xs (keep_last n ys) ∙ last_behind n xs ys (cases_lt n (length ys))

-- ---- what is kept of lines

-- of lines of heads nothing is kept
entries_spoken : (lines : List Line) → entries_of (spoken lines) ≡ entries_of lines
entries_spoken [] = refl
entries_spoken (line.Asked worker order ∷ lines) = ap (λ es. entry.Asked order.unique ∷ es) (entries_spoken lines)
entries_spoken (line.Told told ∷ lines) = ap (λ es. entry.Told told ∷ es) (entries_spoken lines)
entries_spoken (line.State state ∷ lines) = entries_spoken lines

-- of each order and each reply something is kept
entries_dropped : (n : ℕ) (lines : List Line) → entries_of (drop n (spoken lines)) ≡ drop n (entries_of lines)
entries_dropped zero lines = entries_spoken lines
entries_dropped (suc n) [] = refl
entries_dropped (suc n) (line.Asked worker order ∷ lines) = entries_dropped n lines
entries_dropped (suc n) (line.Told told ∷ lines) = entries_dropped n lines
entries_dropped (suc n) (line.State state ∷ lines) = entries_dropped (suc n) lines

as_many : (lines : List Line) → length (spoken lines) ≡ length (entries_of lines)
as_many [] = refl
as_many (line.Asked worker order ∷ lines) = ap suc (as_many lines)
as_many (line.Told told ∷ lines) = ap suc (as_many lines)
as_many (line.State state ∷ lines) = as_many lines

-- what is kept of the last lines is the last of what is kept
last_entries : (lines : List Line) → entries_of (recent lines) ≡ keep_last 65536 (entries_of lines)
last_entries lines = entries_dropped (length (spoken lines) - 65536) lines
    ∙ ap (λ n. drop (n - 65536) (entries_of lines)) (as_many lines)

-- no more than so many are kept
pub few_kept : (lines : List Line) (kept : List Entry) → kept ≡ entries_of (recent lines) → length kept ≤ 65536
few_kept lines kept is =
    omega (arith, ap length (is ∙ last_entries lines), length-drop (length (entries_of lines) - 65536) (entries_of lines))

-- one more, behind the others or all but the first of them
one_pushed : (old : List Entry) (e : Entry) → length old ≤ 65536
    → last_kept (old ++ e ∷ []) ≡ drop (length old + 1 - 65536) old ++ e ∷ []
one_pushed old e few =
    let more : List Entry = old ++ e ∷ [] in
    let place : length more - 65536 ≡ length old + 1 - 65536 = omega (arith, length_push old e) in
    ap (λ m. drop m more) place ∙ drop-append-le (length old + 1 - 65536) old (e ∷ []) (omega (arith, few))

-- an order or a reply more
pub kept_more : (lines : List Line) (line : Line) (e : Entry) (old now : List Entry) → old ≡ entries_of (recent lines)
    → now ≡ drop (length old + 1 - 65536) old ++ e ∷ [] → entry_of line ≡ Some e
    → now ≡ entries_of (recent (lines ++ line ∷ []))
kept_more lines line e old now is pushed some =
    let all : entries_of (lines ++ line ∷ []) ≡ entries_of lines ++ e ∷ [] =
    filter_map-append entry_of lines (line ∷ []) ∙ ap (λ kept. entries_of lines ++ cons_option kept []) some in
    pushed ∙ sym (one_pushed old e (few_kept lines old is)) ∙ ap (λ es. keep_last 65536 (es ++ e ∷ [])) (is ∙ last_entries lines)
    ∙ last_more 65536 (entries_of lines) (e ∷ []) ∙ ap (keep_last 65536) (sym all) ∙ sym (last_entries (lines ++ line ∷ []))

-- how many are kept
pub many_kept : (lines : List Line) (kept : List Entry) → kept ≡ entries_of (recent lines)
    → length kept ≡ min 65536 (length (spoken lines))
many_kept lines kept is =
    omega (
      arith,
      ap length (is ∙ last_entries lines),
      length-drop (length (entries_of lines) - 65536) (entries_of lines),
      as_many lines,
    )

-- what is kept of lines, with others behind them
pub kept_joined : (lines more : List Line) (old later now : List Entry) → old ≡ entries_of (recent lines)
    → later ≡ entries_of (recent more) → now ≡ last_kept (old ++ later) → now ≡ entries_of (recent (lines ++ more))
kept_joined lines more old later now is behind joined =
    joined ∙ (λ i. last_kept ((is ∙ last_entries lines) i ++ (behind ∙ last_entries more) i))
    ∙ last_joined 65536 (entries_of lines) (entries_of more)
    ∙ ap last_kept (sym (filter_map-append entry_of lines more)) ∙ sym (last_entries (lines ++ more))

-- some of what is kept of later lines was pushed behind what was there, and this is left
pub record IsPushing (old later now left : List Entry) : Type 0 where
  pub done : List Entry
  pub parts : later ≡ done ++ left
  pub kept : now ≡ last_kept (old ++ done)

pub pushing_starts : (old later left : List Entry) → length old ≤ 65536 → later ≡ left → IsPushing old later old left
pushing_starts old later left few is = record {
  done = [];
  parts = is;
  kept =
      let none : length (old ++ []) - 65536 ≡ 0 = omega (arith, few, length-append old []) in
      sym (ap (λ m. drop m (old ++ [])) none ∙ append-nil old);
}

pub pushing_few : (old later now left : List Entry) → IsPushing old later now left → length now ≤ 65536
pushing_few old later now left p =
    omega (arith, ap length p.kept, length-drop (length (old ++ p.done) - 65536) (old ++ p.done))

pub pushing_on : (old later now left next after : List Entry) (e : Entry) → IsPushing old later now left → left ≡ e ∷ next
    → after ≡ drop (length now + 1 - 65536) now ++ e ∷ [] → IsPushing old later after next
pushing_on old later now left next after e p first is = record {
  done = p.done ++ e ∷ [];
  parts = p.parts ∙ ap (λ l. p.done ++ l) first ∙ sym (append_assoc p.done (e ∷ []) next);
  kept =
      let few = pushing_few old later now left p in
      is ∙ sym (one_pushed now e few) ∙ ap (λ es. last_kept (es ++ e ∷ [])) p.kept
      ∙ last_more 65536 (old ++ p.done) (e ∷ []) ∙ ap last_kept (append_assoc old p.done (e ∷ []));
}

pub pushing_ends : (old later now left : List Entry) → IsPushing old later now left → length left ≡ 0
    → now ≡ last_kept (old ++ later)
pushing_ends old later now [] p none = p.kept ∙ ap (λ l. last_kept (old ++ l)) (sym (append-nil p.done) ∙ sym p.parts)
pushing_ends old later now (e ∷ left) p none = absurd (omega (arith, none))

-- a line of a head more changes nothing of the last orders and replies
pub state_more : (lines : List Line) (told : StateLine) → recent (lines ++ line.State told ∷ []) ≡ recent lines
state_more lines told = ap (λ all. drop (length all - 65536) all)
    (filter-append is_spoken lines (line.State told ∷ []) ∙ append-nil (spoken lines))

-- what is kept of lines says the same as they do
pub recalled_same : (unique : ℕ) (before : Recalled) (lines : List Line)
    → fold (recalled_by unique) before (entries_of lines) ≡ fold (with_line unique) before lines
recalled_same unique before [] = refl
recalled_same unique before (line.Asked worker order ∷ lines) = recalled_same unique (with_line unique before (line.Asked worker order)) lines
recalled_same unique before (line.Told told ∷ lines) = recalled_same unique (with_line unique before (line.Told told)) lines
recalled_same unique before (line.State state ∷ lines) = recalled_same unique before lines

-- lines say it from the first that is kept to the last
pub record IsSaying (unique : ℕ) (lines : List Line) (so_far : Recalled) (left : List Entry) : Type 0 where
  pub said : fold (recalled_by unique) so_far left ≡ recalled unique (recent lines)
  pub few : asks_of so_far + length left ≤ 65536

pub saying_starts : (unique : ℕ) (lines : List Line) (entries : List Entry) → entries ≡ entries_of (recent lines)
    → IsSaying unique lines (recall.Asked 0) entries
saying_starts unique lines entries kept = record {
  said = ap (fold (recalled_by unique) (recall.Asked 0)) kept ∙ recalled_same unique (recall.Asked 0) (recent lines);
  few = omega (arith, few_kept lines entries kept);
}

ask_more : (same : Bool) (before : Recalled) → asks_of (cond same (with_ask before) before) ≤ asks_of before + 1
ask_more true (recall.Asked count) = omega arith
ask_more true (recall.Told told) = omega arith
ask_more false before = omega arith

told_more : (same : Bool) (told : Told) (before : Recalled) → asks_of (cond same (recall.Told told) before) ≤ asks_of before + 1
told_more true told before = omega arith
told_more false told before = omega arith

one_more : (unique : ℕ) (before : Recalled) (e : Entry) → asks_of (recalled_by unique before e) ≤ asks_of before + 1
one_more unique before (entry.Asked asked) = ask_more (asked == unique) before
one_more unique before (entry.Told told) = told_more (told.unique == unique) told before

pub saying_on : (unique : ℕ) (lines : List Line) (before after : Recalled) (e : Entry) (left now : List Entry)
    → IsSaying unique lines before left → left ≡ e ∷ now → after ≡ recalled_by unique before e → IsSaying unique lines after now
saying_on unique lines before after e left now s first more = record {
  said = ap (λ r. fold (recalled_by unique) r now) more ∙ sym (ap (fold (recalled_by unique) before) first) ∙ s.said;
  few = omega (arith, s.few, ap length first, ap asks_of more, one_more unique before e);
}

pub saying_ends : (unique : ℕ) (lines : List Line) (so_far : Recalled) (left : List Entry) → IsSaying unique lines so_far left
    → length left ≡ 0 → so_far ≡ recalled unique (recent lines)
saying_ends unique lines so_far [] s none = s.said
saying_ends unique lines so_far (e ∷ left) s none = absurd (omega (arith, none))
