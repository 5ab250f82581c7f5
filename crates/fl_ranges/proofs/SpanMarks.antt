-- The marks that spans in order give, and the runs that they are.
use Rattle.std.proofs.Common.{◌≡◌, ◌≢◌, ℕ, ◌+◌, ◌-◌, ◌<◌, ◌≤◌, Bool, true, false, cond, ◌&&◌, nat_le, Option, Some}
use Rattle.std.proofs.Common.{None, List, [], ◌∷◌, ◌++◌, map, refl, ap}
use Rattle.std.proofs.Common.{sym, ◌∙◌, arith}
use Rattle.std.proofs.lemmas.Bool.Decides.{nat_tests}
use Rattle.std.specs.List.{AllByRecursion}
use Rattle.std.specs.Option.{option_map, option_or}
use Rattle.std.specs.Ordering.{eq_by_cmp}
use Rattle.fl_spans.specs.declared.span.Span.{Span}
use Rattle.fl_spans.specs.Spans.{overlaps, mark_at, IsSpan, AreSpans}
use Rattle.fl_marks.specs.declared.lock.Key.{Key}
use Rattle.fl_marks.specs.declared.lock.Mark.{Mark}
use Rattle.fl_marks.specs.declared.run.Run.{Run}
use Rattle.fl_marks.specs.Marking.{key_cmp, Spot}
use Rattle.fl_ranges.specs.Inside.RunList.{has_spot, run_at, held_at, AreApart}
use Rattle.fl_ranges.specs.Layout.{run_of}
use Rattle.fl_ranges.proofs.RunLists.{at_spot}
use Rattle.fl_ranges.proofs.Each.{all_weaker, all_both}

-- ---- spans

pub too_early : (from to b : ℕ) → b < from → (nat_le from b && nat_le b to) ≡ false
too_early from to b less = grind (arith, nat_tests)

pub too_late : (from to b : ℕ) → to < b → (nat_le from b && nat_le b to) ≡ false
too_late from to b less = grind (arith, nat_tests)

pub in_time : (from to b : ℕ) → from ≤ b → b ≤ to → (nat_le from b && nat_le b to) ≡ true
in_time from to b begins ends = grind (arith, nat_tests)

pub passed_over : (s : Span Mark) (ss : List (Span Mark)) (b : ℕ) → overlaps b b s ≡ false → mark_at (s ∷ ss) b ≡ mark_at ss b
passed_over s ss b none = ap (λ (x : Bool). cond x (Some s.mark) (mark_at ss b)) none

-- up to the end of a span none of the later ones has a byte
pub later_none : (s : Span Mark) (ss : List (Span Mark)) → AreSpans (s ∷ ss) → (b : ℕ) → b ≤ s.end → mark_at ss b ≡ None
later_none s [] are b upto = refl
later_none s (t ∷ ts) are b upto =
    let apart = are.1.apart in
    let own = are.2.0.ordered in
    passed_over t ts b (too_early t.start t.end b (omega (arith, apart, upto))) ∙ later_none t ts are.2 b (omega (arith, apart, own, upto))

-- the spans behind the first begin past any byte up to its end
far_off : (n : ℕ) (u : Span Mark) (us : List (Span Mark)) → AreSpans (u ∷ us) → n ≤ u.end → AllByRecursion (λ (t : Span Mark). n < t.start) us
far_off n u [] are upto = tt
far_off n u (t ∷ ts) are upto =
    let apart = are.1.apart in
    let own = are.2.0.ordered in
    (omega (arith, apart, upto), far_off n t ts are.2 (omega (arith, apart, own, upto)))

-- right before a span its own mark doesn't stand
abbrev pub Begins : List (Span Mark) → Span Mark → Type 0
Begins ss s = s.start ≢ 0 → mark_at ss (s.start - 1) ≢ Some s.mark

pub begin_all : (ss : List (Span Mark)) → AreSpans ss → AllByRecursion (Begins ss) ss
begin_all [] are = tt
begin_all (s ∷ ss) are = (own, rest ss are (begin_all ss are.2))
  where
    own : Begins (s ∷ ss) s
    own later held =
        let ordered = are.0.ordered in
        cc (sym (passed_over s ss (s.start - 1) (too_early s.start s.end (s.start - 1) (omega (arith, later)))
        ∙ later_none s ss are (s.start - 1) (omega (arith, ordered))) ∙ held)

    rest : (ts : List (Span Mark)) → AreSpans (s ∷ ts) → AllByRecursion (Begins ts) ts → AllByRecursion (Begins (s ∷ ts)) ts
    rest [] these tail = tt
    rest (u ∷ us) these tail =
        let apart = these.1.apart in
        let ordered = these.2.0.ordered in (
          next,
          all_weaker (λ (t : Span Mark). (s.end + 1 < t.start) × Begins (u ∷ us) t) (Begins (s ∷ u ∷ us))
              (λ t h later held.
              let more = h.0 in
              h.1 later (sym (passed_over s (u ∷ us) (t.start - 1) (too_late s.start s.end (t.start - 1) (omega (arith, more)))) ∙ held))
              us
              (all_both (λ (t : Span Mark). s.end + 1 < t.start) (Begins (u ∷ us)) us
              (far_off (s.end + 1) u us these.2 (omega (arith, apart, ordered))) tail.1),
        )
      where
        next : Begins (s ∷ u ∷ us) u
        next later held = go (nat_le u.start (s.end + 1)) refl
          where
            go : (b : Bool) → nat_le u.start (s.end + 1) ≡ b → ⊥
            go true near =
                let apart = these.1.apart in
                let ordered = these.0.ordered in
                let begins : u.start ≡ s.end + 1 = grind (arith, nat_tests) in
                let here : mark_at (s ∷ u ∷ us) (u.start - 1) ≡ Some s.mark =
                ap (λ (x : Bool). cond x (Some s.mark) (mark_at (u ∷ us) (u.start - 1)))
                (in_time s.start s.end (u.start - 1) (omega (arith, begins, ordered)) (omega (arith, begins))) in
                these.1.whole begins (cc (here, held))
            go false far =
                let more : s.end + 1 < u.start = grind (arith, nat_tests) in
                tail.0 later (sym (passed_over s (u ∷ us) (u.start - 1) (too_late s.start s.end (u.start - 1) (omega (arith, more)))) ∙ held)

pub each_span : (ss : List (Span Mark)) → AreSpans ss → AllByRecursion (λ (s : Span Mark). IsSpan s) ss
each_span [] are = tt
each_span (s ∷ ss) are = (are.0, each_span ss are.2)

-- past the greatest byte there is no mark
pub none_past : (ss : List (Span Mark)) → AreSpans ss → (b : ℕ) → 9223372036854775807 < b → mark_at ss b ≡ None
none_past [] are b past = refl
none_past (s ∷ ss) are b past =
    let bounded = are.0.bounded in
    passed_over s ss b (too_late s.start s.end b (omega (arith, bounded, past))) ∙ none_past ss are.2 b past

-- ---- one row

none_held : (b : Bool) → ◌≡◌ {A = Option Mark} None (cond b None None)
none_held true = refl
none_held false = refl

-- the marks of a key's spans, as runs
pub held_row : (key : Key) (ss : List (Span Mark)) (q : Spot) → held_at (map (run_of key) ss) q ≡ cond (eq_by_cmp key_cmp key q.0) (mark_at ss q.1) None
held_row key [] q = none_held (eq_by_cmp key_cmp key q.0)
held_row key (s ∷ ss) q = go (eq_by_cmp key_cmp key q.0) (overlaps q.1 q.1 s) (held_row key ss q)
  where
    go : (b c : Bool) → held_at (map (run_of key) ss) q ≡ cond b (mark_at ss q.1) None →
        option_map (λ (r : Run). r.mark) (cond (b && c) (Some (run_of key s)) (run_at (map (run_of key) ss) q))
        ≡ cond b (cond c (Some s.mark) (mark_at ss q.1)) None
    go true true rest = refl
    go true false rest = rest
    go false c rest = rest

pub unheld : (rs : List Run) (q : Spot) → held_at rs q ≡ None → run_at rs q ≡ None
unheld rs q none = go (run_at rs q) none
  where
    go : (o : Option Run) → option_map (λ (r : Run). r.mark) o ≡ None → o ≡ None
    go None e = refl
    go (Some r) e = absurd (cc e)

pub held_append : (xs ys : List Run) (q : Spot) → held_at (xs ++ ys) q ≡ option_or (held_at xs q) (held_at ys q)
held_append [] ys q = refl
held_append (x ∷ xs) ys q = go (has_spot q x) (held_append xs ys q)
  where
    go : (b : Bool) → held_at (xs ++ ys) q ≡ option_or (held_at xs q) (held_at ys q) →
        option_map (λ (r : Run). r.mark) (cond b (Some x) (run_at (xs ++ ys) q))
        ≡ option_or (option_map (λ (r : Run). r.mark) (cond b (Some x) (run_at xs q))) (held_at ys q)
    go true rest = refl
    go false rest = rest

pub apart_row : (key : Key) (ss : List (Span Mark)) → AreSpans ss → AreApart (map (run_of key) ss)
apart_row key [] are = tt
apart_row key (s ∷ ss) are = (
  are.0.ordered,
  λ q has. unheld (map (run_of key) ss) q (held_row key ss q
      ∙ ap (λ (o : Option Mark). cond (eq_by_cmp key_cmp key q.0) o None) (later_none s ss are q.1 (at_spot (run_of key s) q has).upto)
      ∙ sym (none_held (eq_by_cmp key_cmp key q.0))),
  apart_row key ss are.2,
)

-- runs apart, and others that have no spot of them
pub apart_append : (xs ys : List Run) → AreApart xs → AreApart ys →
    AllByRecursion (λ (x : Run). (q : Spot) → has_spot q x ≡ true → run_at ys q ≡ None) xs → AreApart (xs ++ ys)
apart_append [] ys first second clear = second
apart_append (x ∷ xs) ys first second clear = (
  first.0,
  λ q has. unheld (xs ++ ys) q (held_append xs ys q
      ∙ (λ i. option_or (option_map (λ (r : Run). r.mark) (first.1 q has i)) (option_map (λ (r : Run). r.mark) (clear.0 q has i)))),
  apart_append xs ys first.2 second clear.1,
)
