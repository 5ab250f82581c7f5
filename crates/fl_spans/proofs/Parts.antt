-- What spans have before and behind a range, and spans as one if they touch.
use Rattle.std.proofs.Common.{◌≡◌, ℕ, ◌+◌, ◌-◌, ◌<◌, ◌≤◌, Bool, true, false, ◌&&◌, ◌==◌, min, max, List, [], ◌∷◌, ◌++◌}
use Rattle.std.proofs.Common.{refl, sym, ap, ◌∙◌, inl, inr}
use Rattle.std.proofs.Common.{arith}
use Rattle.std.proofs.lemmas.Bool.{cases_lt, cases_Bool, lt-ltb, le-ltb, eqb-true, eq-eqb, ne_eqb, and_parts, and_from}
use Rattle.std.proofs.lemmas.Bool.{and_left, and_right, both_ways}
use Rattle.fl_spans.specs.declared.span.Span.{Span}
use Rattle.fl_spans.specs.Spans.{IsSpan, PrecedesNext, AreSpans}
use Rattle.fl_spans.specs.Stroke.{before, behind, touches, join, joined}

module _ {M : Type 0} where
  -- the first begins at a byte or behind it
  abbrev pub StartsFrom : ℕ → List (Span M) → Type 0
  StartsFrom n [] = Unit {0}
  StartsFrom n (s ∷ ss) = n ≤ s.start

  -- spans in order and apart
  abbrev pub AreApart : List (Span M) → Type 0
  AreApart [] = Unit {0}
  AreApart (s ∷ ss) = IsSpan s × StartsFrom (s.end + 1) ss × AreApart ss

  pub apart_of : (ss : List (Span M)) → AreSpans ss → AreApart ss
  apart_of [] are = tt
  apart_of (s ∷ []) are = (are.0, tt, tt)
  apart_of (s ∷ t ∷ ss) are = (are.0, omega (arith, are.1.apart), apart_of (t ∷ ss) are.2)

  pub from_less : (n m : ℕ) (ss : List (Span M)) → n ≤ m → StartsFrom m ss → StartsFrom n ss
  from_less n m [] less from = tt
  from_less n m (s ∷ ss) less from = omega (arith, less, from)

  -- those behind the first begin past it
  pub next_from : (n : ℕ) (s : Span M) (ss : List (Span M)) → AreApart (s ∷ ss) → n ≤ s.start → StartsFrom n ss
  next_from n s ss are from = from_less n (s.end + 1) ss (omega (arith, are.0.ordered, from)) are.1

  -- ---- before the range

  pub before_cut : (start : ℕ) (s : Span M) (ss : List (Span M)) → s.start < start →
      before start (s ∷ ss) ≡ record s { end = min s.end (start - 1) } ∷ before start ss
  before_cut start s ss less = rw (lt-ltb s.start start less) refl

  pub before_skip : (start : ℕ) (s : Span M) (ss : List (Span M)) → start ≤ s.start → before start (s ∷ ss) ≡ before start ss
  before_skip start s ss past = rw (le-ltb s.start start past) refl

  pub before_none : (start : ℕ) (ss : List (Span M)) → AreApart ss → StartsFrom start ss → before start ss ≡ []
  before_none start [] are from = refl
  before_none start (s ∷ ss) are from = before_skip start s ss from ∙ before_none start ss are.2 (next_from start s ss are from)

  pub before_from : (start n : ℕ) (ss zs : List (Span M)) → AreApart ss → StartsFrom n ss → StartsFrom n zs → StartsFrom n (before start ss ++ zs)
  before_from start n [] zs are from then = then
  before_from start n (s ∷ ss) zs are from then =
      elim (cases_lt s.start start) [
        | inl less ↦ rw (before_cut start s ss less) from
        | inr past ↦ rw (before_skip start s ss past) (before_from start n ss zs are.2 (next_from n s ss are from) then)
      ]

  pub before_with : (start : ℕ) (ss zs : List (Span M)) → AreApart ss → AreApart zs → StartsFrom start zs → AreApart (before start ss ++ zs)
  before_with start [] zs are those from = those
  before_with start (s ∷ ss) zs are those from =
      elim (cases_lt s.start start) [
        | inl less ↦ rw (before_cut start s ss less) (
          record { ordered = omega (arith, less, are.0.ordered); bounded = omega (arith, are.0.bounded) },
          before_from start (min s.end (start - 1) + 1) ss zs are.2 (from_less (min s.end (start - 1) + 1) (s.end + 1) ss (omega arith) are.1)
              (from_less (min s.end (start - 1) + 1) start zs (omega (arith, less)) from),
          before_with start ss zs are.2 those from,
        )
        | inr past ↦ rw (before_skip start s ss past) (before_with start ss zs are.2 those from)
      ]

  -- ---- behind it

  pub behind_cut : (end : ℕ) (s : Span M) (ss : List (Span M)) → end < s.end →
      behind end (s ∷ ss) ≡ record s { start = max s.start (end + 1) } ∷ behind end ss
  behind_cut end s ss less = rw (lt-ltb end s.end less) refl

  pub behind_skip : (end : ℕ) (s : Span M) (ss : List (Span M)) → s.end ≤ end → behind end (s ∷ ss) ≡ behind end ss
  behind_skip end s ss past = rw (le-ltb end s.end past) refl

  pub behind_all : (end : ℕ) (ss : List (Span M)) → AreApart ss → StartsFrom (end + 1) ss → behind end ss ≡ ss
  behind_all end [] are from = refl
  behind_all end (s ∷ ss) are from =
      let same : max s.start (end + 1) ≡ s.start = omega (arith, from) in
      behind_cut end s ss (omega (arith, from, are.0.ordered))
      ∙ ap (λ n. record s { start = n } ∷ behind end ss) same
      ∙ ap (λ l. s ∷ l) (behind_all end ss are.2 (next_from (end + 1) s ss are from))

  pub behind_from : (end : ℕ) (ss : List (Span M)) → StartsFrom (end + 1) (behind end ss)
  behind_from end [] = tt
  behind_from end (s ∷ ss) =
      elim (cases_lt end s.end) [
        | inl less ↦ rw (behind_cut end s ss less) (omega arith)
        | inr past ↦ rw (behind_skip end s ss past) (behind_from end ss)
      ]

  pub behind_apart : (end : ℕ) (ss : List (Span M)) → AreApart ss → AreApart (behind end ss)
  behind_apart end [] are = tt
  behind_apart end (s ∷ ss) are =
      elim (cases_lt end s.end) [
        | inl less ↦ rw (behind_cut end s ss less) (rw (behind_all end ss are.2 (from_less (end + 1) (s.end + 1) ss (omega (arith, less)) are.1)) (
          record { ordered = omega (arith, less, are.0.ordered); bounded = are.0.bounded },
          are.1,
          are.2,
        ))
        | inr past ↦ rw (behind_skip end s ss past) (behind_apart end ss are.2)
      ]

-- ---- those that touch as one

module _ {M : Type 0} (same : M → M → Bool) where
  -- a span touches the first of others
  abbrev pub touches_first : Span M → List (Span M) → Bool
  touches_first s [] = false
  touches_first s (t ∷ ts) = touches same s t

  pub join_apart : (s : Span M) (ts : List (Span M)) → touches_first s ts ≡ false → join same s ts ≡ s ∷ ts
  join_apart s [] none = refl
  join_apart s (t ∷ ts) none = rw none refl

  pub join_touching : (s t : Span M) (ts : List (Span M)) → touches same s t ≡ true → join same s (t ∷ ts) ≡ record t { start = s.start } ∷ ts
  join_touching s t ts is = rw is refl

  pub is_touching : (s t : Span M) → t.start ≡ s.end + 1 → same s.mark t.mark ≡ true → touches same s t ≡ true
  is_touching s t next marks = and_from (t.start == s.end + 1) (same s.mark t.mark) (eq-eqb t.start (s.end + 1) next) marks

  pub far_apart : (s t : Span M) → s.end + 1 < t.start → touches same s t ≡ false
  far_apart s t less = and_left (t.start == s.end + 1) (same s.mark t.mark) (ne_eqb t.start (s.end + 1) (λ e. omega (arith, less, e)))

  pub other_marks : (s t : Span M) → same s.mark t.mark ≡ false → touches same s t ≡ false
  other_marks s t none = and_right (t.start == s.end + 1) (same s.mark t.mark) none

  pub joined_from : (n : ℕ) (ss : List (Span M)) → StartsFrom n ss → StartsFrom n (joined same ss)
  joined_from n [] from = tt
  joined_from n (s ∷ ss) from = go (joined same ss)
    where
      go : (ts : List (Span M)) → StartsFrom n (join same s ts)
      go [] = from
      go (t ∷ ts) =
          elim (cases_Bool (touches same s t)) [
            | inl is ↦ rw (join_touching s t ts is) from
            | inr none ↦ rw (join_apart s (t ∷ ts) none) from
          ]

module _ {M : Type 0} (same : M → M → Bool) (exact : (a b : M) → same a b ≡ true → a ≡ b) where
  pub touching_marks : (s t : Span M) → touches same s t ≡ true → s.mark ≡ t.mark
  touching_marks s t is = exact s.mark t.mark (and_parts (t.start == s.end + 1) (same s.mark t.mark) is).1

  pub touching_next : (s t : Span M) → touches same s t ≡ true → t.start ≡ s.end + 1
  touching_next s t is = eqb-true t.start (s.end + 1) (and_parts (t.start == s.end + 1) (same s.mark t.mark) is).0

  -- the first of joined spans begins and is marked as before
  pub first_kept : (s : Span M) (ts : List (Span M)) → touches_first same s (joined same ts) ≡ touches_first same s ts
  first_kept s [] = refl
  first_kept s (t ∷ ts) = go (joined same ts)
    where
      go : (us : List (Span M)) → touches_first same s (join same t us) ≡ touches same s t
      go [] = refl
      go (u ∷ us) =
          elim (cases_Bool (touches same t u)) [
            | inl is ↦ rw (join_touching same t u us is) (ap (λ m. (t.start == s.end + 1) && same s.mark m) (sym (touching_marks t u is)))
            | inr none ↦ rw (join_apart same t (u ∷ us) none) refl
          ]

  pub none_touching : (s : Span M) (ts : List (Span M)) → PrecedesNext s ts → touches_first same s ts ≡ false
  none_touching s [] next = refl
  none_touching s (t ∷ ts) next =
      elim (cases_Bool (touches same s t)) [
        | inl is ↦ absurd (next.whole (touching_next s t is) (touching_marks s t is))
        | inr none ↦ none
      ]

  -- spans as long as they can be stay
  pub joined_whole : (ss : List (Span M)) → AreSpans ss → joined same ss ≡ ss
  joined_whole [] are = refl
  joined_whole (s ∷ ss) are = ap (join same s) (joined_whole ss are.2) ∙ join_apart same s ss (none_touching s ss are.1)

module _ {M : Type 0} (same : M → M → Bool) (exact : (a b : M) → same a b ≡ true → a ≡ b) (itself : (a : M) → same a a ≡ true) where
  precedes_same : (s : Span M) (n : ℕ) (ts : List (Span M)) → PrecedesNext s ts → PrecedesNext (record s { start = n }) ts
  precedes_same s n [] next = tt
  precedes_same s n (t ∷ ts) next = record { apart = next.apart; whole = next.whole }

  join_are : (s : Span M) (ts : List (Span M)) → IsSpan s → AreSpans ts → StartsFrom (s.end + 1) ts → AreSpans (join same s ts)
  join_are s [] is are from = (is, tt, tt)
  join_are s (t ∷ ts) is are from =
      elim (cases_Bool (touches same s t)) [
        | inl one ↦ rw (join_touching same s t ts one) (
          record { ordered = omega (arith, is.ordered, are.0.ordered, from); bounded = are.0.bounded },
          precedes_same t s.start ts are.1,
          are.2,
        )
        | inr none ↦ rw (join_apart same s (t ∷ ts) none) (
          is,
          record {
            apart = omega (arith, from);
            whole = λ next marks. both_ways (touches same s t) none
                (is_touching same s t next (ap (same s.mark) (sym marks) ∙ itself s.mark));
          },
          are,
        )
      ]

  -- those that touch are one
  pub joined_are : (ss : List (Span M)) → AreApart ss → AreSpans (joined same ss)
  joined_are [] are = tt
  joined_are (s ∷ ss) are = join_are s (joined same ss) are.0 (joined_are ss are.2) (joined_from same (s.end + 1) ss are.1)
