-- The lock that is named if others conflict with the one that is asked for (POSIX.1-2017 `fcntl`, F_GETLK).
use Rattle.std.specs.Prelude.{◌≡◌, ◌≢◌, ℕ, zero, suc, ◌+◌, ◌-◌, ◌≤◌, ◌<◌, true, Option, Some, None, option_map}
use Rattle.std.specs.Prelude.{if◌then◌else◌}
use Rattle.std.specs.Option.{option_or}
use Rattle.std.specs.List.{find}
use Rattle.std.specs.FinMap.{entries, get}
use Rattle.fl_marks.specs.declared.lock.Kind.{Kind}
use Rattle.fl_marks.specs.declared.lock.Key.{Key}
use Rattle.fl_marks.specs.declared.lock.Mark.{Mark}
use Rattle.fl_marks.specs.declared.held.Held.{Held}
use Rattle.fl_marks.specs.Marking.{Spot, Marking}
use Rattle.fl_marks.specs.Conflict.{kinds_conflict, mark_conflicts}
use Rattle.fl_marks.specs.Runs.{is_mark}

-- the key of an owner, of the same class and node
abbrev pub of_owner : Key → ℕ → Key
of_owner key owner = record key { owner = owner }

-- at a byte, another owner's mark conflicts with a lock of this kind by the key
pub record IsConflicting (m : Marking) (key : Key) (kind : Kind) (byte owner : ℕ) (mark : Mark) : Type 0 where
  pub held : get m (of_owner key owner, byte) ≡ Some mark
  pub other : owner ≢ key.owner
  pub write : kinds_conflict kind mark.kind ≡ true

-- the longest run of bytes around a byte at which a key has this mark; 2^63 - 1 is the last byte
pub record IsRunAt (m : Marking) (key : Key) (mark : Mark) (byte start end : ℕ) : Type 0 where
  pub from : start ≤ byte
  pub upto : byte ≤ end
  pub bounded : end ≤ 9223372036854775807
  pub each : (b : ℕ) → start ≤ b → b ≤ end → get m (key, b) ≡ Some mark
  pub first : (b : ℕ) → b + 1 ≡ start → get m (key, b) ≢ Some mark
  pub last : end < 9223372036854775807 → get m (key, end + 1) ≢ Some mark

-- The lock that is named: at the least byte of the range at which another owner's mark conflicts with the lock asked
-- for, that of the least such owner, on the longest run of bytes around that byte at which this owner has this mark.
pub record IsBlocker (m : Marking) (key : Key) (start end : ℕ) (kind : Kind) (held : Held) : Type 0 where
  pub byte : ℕ
  pub from : start ≤ byte
  pub upto : byte ≤ end
  pub conflicting : IsConflicting m key kind byte held.owner held.mark
  pub least_byte : (b owner : ℕ) (mark : Mark) → start ≤ b → b < byte → IsConflicting m key kind b owner mark → ⊥
  pub least_owner : (owner : ℕ) (mark : Mark) → IsConflicting m key kind byte owner mark → held.owner ≤ owner
  pub run : IsRunAt m (of_owner key held.owner) held.mark byte held.start held.end

-- the first of so many bytes, from one on, at which a mark conflicts with the lock, and the least such owner's mark
-- there
unfoldable pub first_conflicting : Marking → Key → Kind → ℕ → ℕ → Option (Spot × Mark)
first_conflicting m key kind byte zero = None
first_conflicting m key kind byte (suc more) =
    option_or (find (mark_conflicts key byte byte kind) (entries m)) (first_conflicting m key kind (byte + 1) more)

-- the first byte of the run that ends at a byte
unfoldable pub run_start : Marking → Key → Mark → ℕ → ℕ
run_start m key mark zero = zero
run_start m key mark (suc byte) = if is_mark mark (get m (key, byte)) then run_start m key mark byte else suc byte

-- the last byte of the run that begins at a byte, of at most so many bytes more
unfoldable pub run_end : Marking → Key → Mark → ℕ → ℕ → ℕ
run_end m key mark byte zero = byte
run_end m key mark byte (suc more) =
    if is_mark mark (get m (key, byte + 1)) then run_end m key mark (byte + 1) more else byte

-- the lock on the longest run around a marked spot
abbrev pub lock_around : Marking → (Spot × Mark) → Held
lock_around m e = record {
  owner = e.0.0.owner;
  start = run_start m e.0.0 e.1 e.0.1;
  end = run_end m e.0.0 e.1 e.0.1 (9223372036854775807 - e.0.1);
  mark = e.1;
}

-- the lock that is named, or none
abbrev pub blocker : Marking → Key → ℕ → ℕ → Kind → Option Held
blocker m key start end kind = option_map (lock_around m) (first_conflicting m key kind start (end + 1 - start))
