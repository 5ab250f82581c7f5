-- Which locks conflict with each other (POSIX.1-2017 `fcntl`; Linux `flock(2)`).
use Rattle.std.specs.Prelude.{◌≡◌, ◌≢◌, ℕ, ◌≤◌, ◌<◌, Bool, true, false, not, ◌&&◌, ◌||◌, ◌==◌, nat_le, Option, Some}
use Rattle.std.specs.Prelude.{None, List, length, slice_index_or}
use Rattle.std.specs.List.{list_any}
use Rattle.std.specs.FinMap.{entries, get}
use Rattle.fl_marks.specs.declared.lock.Kind.{Kind}
use Rattle.fl_marks.specs.declared.lock.Kind.TheVariants.{Read, Write}
use Rattle.fl_marks.specs.declared.lock.Key.{Key}
use Rattle.fl_marks.specs.declared.lock.Mark.{Mark}
use Rattle.fl_marks.specs.Marking.{Spot, Marking, class_number}

-- one of the two is a write lock
abbrev pub kinds_conflict : Kind → Kind → Bool
kinds_conflict Read Read = false
kinds_conflict Read Write = true
kinds_conflict Write other = true

-- two keys of one class and node, of two owners
abbrev pub are_of_two_owners : Key → Key → Bool
are_of_two_owners a b =
    (class_number a.class == class_number b.class) && ((a.node == b.node) && not (a.owner == b.owner))

-- a marked spot conflicts with a lock of this kind, by this key, on the bytes from start to end
abbrev pub mark_conflicts : Key → ℕ → ℕ → Kind → (Spot × Mark) → Bool
mark_conflicts key start end kind e =
    are_of_two_owners key e.0.0 && ((nat_le start e.0.1 && nat_le e.0.1 end) && kinds_conflict kind e.1.kind)

-- some marked spot conflicts with it
abbrev pub conflicts : Marking → Key → ℕ → ℕ → Kind → Bool
conflicts m key start end kind = list_any (mark_conflicts key start end kind) (entries m)

-- the same in words: another owner has a mark of the class on the node, at a byte of the range, and one of the two
-- kinds is write
pub record IsConflict (m : Marking) (key : Key) (start end : ℕ) (kind : Kind) : Type 0 where
  pub contender : Key
  pub byte : ℕ
  pub mark : Mark
  pub held : get m (contender, byte) ≡ Some mark
  pub class : contender.class ≡ key.class
  pub node : contender.node ≡ key.node
  pub other : contender.owner ≢ key.owner
  pub from : start ≤ byte
  pub upto : byte ≤ end
  pub write : kinds_conflict kind mark.kind ≡ true

-- a marked spot of this owner conflicts with it
abbrev pub mark_conflicts_by : Key → ℕ → ℕ → Kind → ℕ → (Spot × Mark) → Bool
mark_conflicts_by key start end kind owner e = (e.0.0.owner == owner) && mark_conflicts key start end kind e

-- some marked spot of this owner does
abbrev pub owner_conflicts : Marking → Key → ℕ → ℕ → Kind → ℕ → Bool
owner_conflicts m key start end kind owner = list_any (mark_conflicts_by key start end kind owner) (entries m)

-- the same in words: one of the conflicts is with a mark of this owner
pub record IsOwnerConflict (m : Marking) (key : Key) (start end : ℕ) (kind : Kind) (owner : ℕ) : Type 0 where
  pub conflict : IsConflict m key start end kind
  pub of : conflict.contender.owner ≡ owner

-- an owner is greater than the one that is given; each is if none is
abbrev pub IsAfter : Option ℕ → ℕ → Type 0
IsAfter None owner = Unit {0}
IsAfter (Some given) owner = given < owner

-- there is one, and it isn't greater than this owner
abbrev pub IsAtMost : Option ℕ → ℕ → Type 0
IsAtMost None owner = ⊥
IsAtMost (Some told) owner = told ≤ owner

-- the least owner that conflicts, of those greater than the one that is given; none if no such owner does
pub record IsLeastAfter (m : Marking) (key : Key) (start end : ℕ) (kind : Kind) (after told : Option ℕ) : Type 0 where
  pub itself : (owner : ℕ) → told ≡ Some owner →
      IsAfter after owner × (owner_conflicts m key start end kind owner ≡ true)
  pub least : (owner : ℕ) → IsAfter after owner → owner_conflicts m key start end kind owner ≡ true →
      IsAtMost told owner

-- the places of those owners who pass a test are set, and what was set before
abbrev pub AreFound : (ℕ → Bool) → List ℕ → List Bool → List Bool → Type 0
AreFound test owners old new =
    (i : ℕ) → i < length owners
    → slice_index_or new i false ≡ (slice_index_or old i false || test (slice_index_or owners i 0))

-- no byte of a node has marks of one class of two owners, one of them write
abbrev pub IsLawful : Marking → Type 0
IsLawful m =
    (a b : Key) (byte : ℕ) (x y : Mark)
    → get m (a, byte) ≡ Some x → get m (b, byte) ≡ Some y → are_of_two_owners a b ≡ true
    → kinds_conflict x.kind y.kind ≡ false

-- other classes and nodes than this key's have the same conflicts before and after: each request has one or has none
abbrev pub SameElsewhere : Key → Marking → Marking → Type 0
SameElsewhere key before after =
    (other : Key) (start end : ℕ) (kind : Kind)
    → ((class_number other.class == class_number key.class) && (other.node == key.node)) ≡ false
    → conflicts after other start end kind ≡ conflicts before other start end kind

-- other nodes have the same conflicts before and after
abbrev pub SameOffNode : ℕ → Marking → Marking → Type 0
SameOffNode node before after =
    (other : Key) (start end : ℕ) (kind : Kind) → (other.node == node) ≡ false
    → conflicts after other start end kind ≡ conflicts before other start end kind
