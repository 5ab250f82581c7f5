-- The longest run of bytes around a byte at which a key has a mark.
use Rattle.std.proofs.Common.{◌≡◌, ◌≢◌, ℕ, zero, suc, ◌+◌, ◌-◌, ◌<◌, ◌≤◌, Bool, true, false, cond, nat_lt, Some, refl}
use Rattle.std.proofs.Common.{subst, arith}
use Rattle.std.specs.FinMap.{get}
use Rattle.std.proofs.lemmas.Bool.{ltb-false, ltb-true}
use Rattle.std.proofs.Math.Nat.{le_antisymm}
use Rattle.fl_marks.specs.declared.lock.Key.{Key}
use Rattle.fl_marks.specs.declared.lock.Mark.{Mark}
use Rattle.fl_marks.specs.Marking.{Marking}
use Rattle.fl_marks.specs.Runs.{is_mark}
use Rattle.fl_marks.specs.Blocker.{IsRunAt, run_start, run_end}
use Rattle.fl_ranges.proofs.Starts.{is_mark-Decides}

-- one number is at most another, if it can't be above it
pub at_most : (a b : ℕ) → (b < a → ⊥) → a ≤ b
at_most a b not_above = go (nat_lt b a) refl
  where
    go : (t : Bool) → nat_lt b a ≡ t → a ≤ b
    go true e = absurd (not_above (ltb-true b a e))
    go false e = ltb-false b a e

module _ (m : Marking) (key : Key) (mark : Mark) where
  has : (byte : ℕ) → is_mark mark (get m (key, byte)) ≡ true → get m (key, byte) ≡ Some mark
  has byte e = (is_mark-Decides mark (get m (key, byte))).0 e

  hasnt : (byte : ℕ) → is_mark mark (get m (key, byte)) ≡ false → get m (key, byte) ≢ Some mark
  hasnt byte e same = cc (e, (is_mark-Decides mark (get m (key, byte))).1 same)

  -- ---- where it starts

  start_upto : (byte : ℕ) → run_start m key mark byte ≤ byte
  unfolding run_start
  start_upto zero = omega arith
  start_upto (suc byte) = go (is_mark mark (get m (key, byte))) (start_upto byte)
    where
      go : (t : Bool) → run_start m key mark byte ≤ byte → cond t (run_start m key mark byte) (suc byte) ≤ suc byte
      go true h = omega arith
      go false h = omega arith

  start_each : (byte b : ℕ) → run_start m key mark byte ≤ b → b < byte → get m (key, b) ≡ Some mark
  unfolding run_start
  start_each zero b from below = absurd (omega arith)
  start_each (suc byte) b from below = go (start_each byte b) (is_mark mark (get m (key, byte))) (nat_lt b byte) refl refl from
    where
      go : (run_start m key mark byte ≤ b → b < byte → get m (key, b) ≡ Some mark) → (t u : Bool) → is_mark mark (get m (key, byte)) ≡ t → nat_lt b byte ≡ u →
          cond t (run_start m key mark byte) (suc byte) ≤ b → get m (key, b) ≡ Some mark
      go lower true true e f h = lower h (ltb-true b byte f)
      go lower true false e f h =
          let same : byte ≡ b = le_antisymm (ltb-false b byte f) (omega arith) in
          subst (λ (n : ℕ). get m (key, n) ≡ Some mark) same (has byte e)
      go lower false u e f h = absurd (omega arith)

  start_first : (byte b : ℕ) → b + 1 ≡ run_start m key mark byte → get m (key, b) ≢ Some mark
  unfolding run_start
  start_first zero b is = absurd (omega arith)
  start_first (suc byte) b is = go (start_first byte b) (is_mark mark (get m (key, byte))) refl is
    where
      go : (b + 1 ≡ run_start m key mark byte → get m (key, b) ≢ Some mark) → (t : Bool) → is_mark mark (get m (key, byte)) ≡ t →
          b + 1 ≡ cond t (run_start m key mark byte) (suc byte) → get m (key, b) ≢ Some mark
      go lower true e h = lower h
      go lower false e h =
          let same : byte ≡ b = omega arith in
          subst (λ (n : ℕ). get m (key, n) ≢ Some mark) same (hasnt byte e)

  -- ---- where it ends

  end_from : (byte more : ℕ) → byte ≤ run_end m key mark byte more
  unfolding run_end
  end_from byte zero = omega arith
  end_from byte (suc more) = go (is_mark mark (get m (key, byte + 1))) (end_from (byte + 1) more)
    where
      go : (t : Bool) → byte + 1 ≤ run_end m key mark (byte + 1) more → byte ≤ cond t (run_end m key mark (byte + 1) more) byte
      go true h = omega arith
      go false h = omega arith

  end_upto : (byte more : ℕ) → run_end m key mark byte more ≤ byte + more
  unfolding run_end
  end_upto byte zero = omega arith
  end_upto byte (suc more) = go (is_mark mark (get m (key, byte + 1))) (end_upto (byte + 1) more)
    where
      go : (t : Bool) → run_end m key mark (byte + 1) more ≤ (byte + 1) + more → cond t (run_end m key mark (byte + 1) more) byte ≤ byte + suc more
      go true h = omega arith
      go false h = omega arith

  end_each : (byte more b : ℕ) → byte < b → b ≤ run_end m key mark byte more → get m (key, b) ≡ Some mark
  unfolding run_end
  end_each byte zero b above upto = absurd (omega arith)
  end_each byte (suc more) b above upto = go (end_each (byte + 1) more b) (is_mark mark (get m (key, byte + 1))) (nat_lt (byte + 1) b) refl refl upto
    where
      go : (byte + 1 < b → b ≤ run_end m key mark (byte + 1) more → get m (key, b) ≡ Some mark) → (t u : Bool) → is_mark mark (get m (key, byte + 1)) ≡ t →
          nat_lt (byte + 1) b ≡ u → b ≤ cond t (run_end m key mark (byte + 1) more) byte → get m (key, b) ≡ Some mark
      go later true true e f h = later (ltb-true (byte + 1) b f) h
      go later true false e f h =
          let same : byte + 1 ≡ b = le_antisymm (omega arith) (ltb-false (byte + 1) b f) in
          subst (λ (n : ℕ). get m (key, n) ≡ Some mark) same (has (byte + 1) e)
      go later false u e f h = absurd (omega arith)

  end_last : (byte more : ℕ) → run_end m key mark byte more < byte + more → get m (key, run_end m key mark byte more + 1) ≢ Some mark
  unfolding run_end
  end_last byte zero below = absurd (omega arith)
  end_last byte (suc more) below = go (end_last (byte + 1) more) (is_mark mark (get m (key, byte + 1))) refl below
    where
      go : (run_end m key mark (byte + 1) more < (byte + 1) + more → get m (key, run_end m key mark (byte + 1) more + 1) ≢ Some mark) → (t : Bool) →
          is_mark mark (get m (key, byte + 1)) ≡ t → cond t (run_end m key mark (byte + 1) more) byte < byte + suc more
          → get m (key, cond t (run_end m key mark (byte + 1) more) byte + 1) ≢ Some mark
      go later true e h = later (omega arith)
      go later false e h = hasnt (byte + 1) e

  -- around a marked byte, the row is what the functions give
  pub row_around : (byte : ℕ) → get m (key, byte) ≡ Some mark → byte ≤ 9223372036854775807 →
      IsRunAt m key mark byte (run_start m key mark byte) (run_end m key mark byte (9223372036854775807 - byte))
  row_around byte marked within =
      let upto = end_upto byte (9223372036854775807 - byte) in
      record {
        from = start_upto byte;
        upto = end_from byte (9223372036854775807 - byte);
        bounded = omega arith;
        each = λ b from upto. go b from upto (nat_lt b byte) (nat_lt byte b) refl refl;
        first = start_first byte;
        last = λ below. end_last byte (9223372036854775807 - byte) (omega arith);
      }
    where
      go : (b : ℕ) → run_start m key mark byte ≤ b → b ≤ run_end m key mark byte (9223372036854775807 - byte) → (t u : Bool) → nat_lt b byte ≡ t →
          nat_lt byte b ≡ u → get m (key, b) ≡ Some mark
      go b from upto true u e f = start_each byte b from (ltb-true b byte e)
      go b from upto false true e f = end_each byte (9223372036854775807 - byte) b (ltb-true byte b f) upto
      go b from upto false false e f =
          let same : byte ≡ b = le_antisymm (ltb-false b byte e) (ltb-false byte b f) in
          subst (λ (n : ℕ). get m (key, n) ≡ Some mark) same marked

  -- ---- there is one longest run around a byte

  module _ {byte start end start2 end2 : ℕ} (r : IsRunAt m key mark byte start end) (s : IsRunAt m key mark byte start2 end2) where
    starts_no_later : start2 ≤ start
    starts_no_later = at_most start2 start (λ later. s.first (start2 - 1) (before later) (r.each (start2 - 1) (from later) upto))
      where
        before : start < start2 → (start2 - 1) + 1 ≡ start2
        before later = omega arith

        from : start < start2 → start ≤ start2 - 1
        from later = omega arith

        upto : start2 - 1 ≤ end
        upto = let a = s.from in let b = r.upto in omega arith

    ends_no_earlier : end ≤ end2
    ends_no_earlier = at_most end end2 (λ earlier. s.last (below earlier) (r.each (end2 + 1) from (upto earlier)))
      where
        below : end2 < end → end2 < 9223372036854775807
        below earlier = let a = r.bounded in omega arith

        from : start ≤ end2 + 1
        from = let a = r.from in let b = s.upto in omega arith

        upto : end2 < end → end2 + 1 ≤ end
        upto earlier = omega arith

  pub same_start : {byte start end start2 end2 : ℕ} → IsRunAt m key mark byte start end → IsRunAt m key mark byte start2 end2 → start ≡ start2
  same_start r s = le_antisymm (starts_no_later s r) (starts_no_later r s)

  pub same_end : {byte start end start2 end2 : ℕ} → IsRunAt m key mark byte start end → IsRunAt m key mark byte start2 end2 → end ≡ end2
  same_end r s = le_antisymm (ends_no_earlier r s) (ends_no_earlier s r)
