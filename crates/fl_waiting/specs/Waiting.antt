-- Lock parked requests, in the order of asking, and what blocks them.
use Rattle.std.specs.Prelude.{◌≡◌, ◌≢◌, ◌⊎◌, ℕ, ◌==◌, ◌≤◌, Bool, true, false, not, ◌&&◌, ◌||◌, nat_le, Option, Some}
use Rattle.std.specs.Prelude.{None, option_map, List, [], ◌∷◌, ◌++◌, if◌then◌else◌}
use Rattle.std.proofs.Math.Dec.{lit≤}
use Rattle.std.specs.List.{list_any, filter_map, AllByRecursion}
use Rattle.std.specs.FinMap.{entries}
use Rattle.fl_marks.specs.declared.lock.Key.{Key}
use Rattle.fl_marks.specs.declared.lock.Kind.{Kind}
use Rattle.fl_marks.specs.declared.lock.Kind.TheVariants.{Write}
use Rattle.fl_marks.specs.declared.lock.Mark.{Mark}
use Rattle.fl_marks.specs.Marking.{Marking, Spot, Stroke}
use Rattle.fl_marks.specs.Conflict.{conflicts, kinds_conflict, mark_conflicts, are_of_two_owners}
use Rattle.fl_waiting.specs.LockRequest.{is_flock, key_of, start_of, end_of, mark_of, stroke_of}
use Rattle.fl_waiting.specs.declared.parked.Request.{Request}
use Rattle.fl_waiting.specs.declared.rules.Rules.{Rules}

-- ---- locks that are wanted

-- a lock that is wanted
pub record Wish : Type 0 where
  pub key : Key
  pub start : ℕ
  pub end : ℕ
  pub kind : Kind

-- the owner who wants it
abbrev pub owner_of : Wish → ℕ
owner_of w = w.key.owner

-- the lock that a stroke with this mark would set
abbrev pub wish_on : Stroke → Mark → Wish
wish_on s mark = record { key = s.key; start = s.start; end = s.end; kind = mark.kind }

-- the record lock that a request wants; none if it asks for another lock, or for none
abbrev pub wish_of : Request → Option Wish
wish_of r =
    if is_flock r.ask then None
    else option_map
    (λ (mark : Mark).
    record { key = key_of r.node r.ask; start = start_of r.ask; end = end_of r.ask; kind = mark.kind })
    (mark_of r.ask)

-- those that the requests want, the oldest first
abbrev pub wishes : List Request → List Wish
wishes parked = filter_map wish_of parked

-- ---- who waits

-- no request waits behind another, no session is whole, and there are at most 4096 runs of locked bytes, 256 parked
-- requests, 256 files and 1024 open files
abbrev pub standard : Rules
standard = record {
  fair = false;
  whole = false;
  runs = 4096;
  parked = 256;
  files = 256;
  open_files = 1024;
  some_runs = (lit≤ tt, lit≤ tt);
  some_parked = (lit≤ tt, lit≤ tt);
  some_files = (lit≤ tt, lit≤ tt);
  some_open = (lit≤ tt, lit≤ tt);
}

-- an older wish blocks another one: of another owner, for the same node, with a byte in common, and one of the two
-- is for a write lock
abbrev pub older_blocks : Wish → Wish → Bool
older_blocks w older =
    are_of_two_owners w.key older.key
    && ((nat_le older.start w.end && nat_le w.start older.end) && kinds_conflict w.kind older.kind)

-- the same in words, if each is for some bytes
pub record OlderBlocks (w older : Wish) : Type 0 where
  pub byte : ℕ
  pub other : older.key.owner ≢ w.key.owner
  pub file : (older.key.class ≡ w.key.class) × (older.key.node ≡ w.key.node)
  pub common : ((older.start ≤ byte) × (byte ≤ older.end)) × ((w.start ≤ byte) × (byte ≤ w.end))
  pub write : (w.kind ≡ Write) ⊎ (older.kind ≡ Write)

-- under fair rules one of these older wishes, of an owner who passes the test, blocks this one
abbrev pub any_older_blocks : Rules → (ℕ → Bool) → List Wish → Wish → Bool
any_older_blocks rules whose older w =
    rules.fair && list_any (λ (v : Wish). whose (owner_of v) && older_blocks w v) older

-- What blocks a lock that is wanted, behind these older wishes: a lock that is held, of an owner who passes the
-- test, or an older wish of such an owner. All that is said of who waits, and for whom, rests on this.
abbrev pub is_blocked_by : Rules → (ℕ → Bool) → Marking → List Wish → Wish → Bool
is_blocked_by rules whose m older w =
    list_any (λ (e : Spot × Mark). whose e.0.0.owner && mark_conflicts w.key w.start w.end w.kind e) (entries m)
    || any_older_blocks rules whose older w

-- whoever it is
abbrev pub anyone : ℕ → Bool
anyone owner = true

-- this owner, and no other
abbrev pub only : ℕ → ℕ → Bool
only owner other = other == owner

-- a test of the mark that a lock request asks for; unlocking passes none
abbrev pub passes : (Mark → Bool) → Option Mark → Bool
passes test None = false
passes test (Some mark) = test mark

-- a lock that is asked for has to wait, behind these older requests; unlocking never does
abbrev pub is_blocked : Rules → Marking → List Request → Stroke → Option Mark → Bool
is_blocked rules m older s mark = passes (λ (k : Mark). is_blocked_by rules anyone m (wishes older) (wish_on s k)) mark

-- and so does a request
abbrev pub waits : Rules → Marking → List Request → Request → Bool
waits rules m older r = is_blocked rules m older (stroke_of r.node r.ask) (mark_of r.ask)

-- one of these older requests blocks it, whoever's it is
abbrev pub is_blocked_by_older : Rules → List Request → Request → Bool
is_blocked_by_older rules older r =
    passes (λ (k : Mark). any_older_blocks rules anyone (wishes older) (wish_on (stroke_of r.node r.ask) k))
    (mark_of r.ask)

-- a lock is set against one that is held, whoever waits: what a SETLK meets; unlocking never is
abbrev pub conflicts_with_held : Marking → Stroke → Option Mark → Bool
conflicts_with_held m s mark = passes (λ (k : Mark). conflicts m s.key s.start s.end k.kind) mark

-- each of the requests passes a test of it and of the older ones, which are these and those before it
abbrev pub AllBehind : (List Request → Request → Type 0) → List Request → List Request → Type 0
AllBehind P older [] = Unit {0}
AllBehind P older (r ∷ parked) = P older r × AllBehind P (older ++ r ∷ []) parked

-- each of the requests waits
abbrev pub AllWait : Rules → Marking → List Request → Type 0
AllWait rules m parked = AllBehind (λ older r. waits rules m older r ≡ true) [] parked

-- a record lock request of this owner is parked
abbrev pub is_waiting : ℕ → List Request → Bool
is_waiting owner parked = list_any (λ (w : Wish). owner_of w == owner) (wishes parked)

-- ---- requests by their uniques

-- a request of this unique waits
abbrev pub is_parked : ℕ → List Request → Bool
is_parked unique parked = list_any (λ (r : Request). r.unique == unique) parked

-- no two requests have one unique
abbrev pub AreApart : List Request → Type 0
AreApart [] = Unit {0}
AreApart (r ∷ parked) = AllByRecursion (λ (other : Request). other.unique ≢ r.unique) parked × AreApart parked

-- the oldest request that passes a test, and the others
unfoldable pub taken_first : (Request → Bool) → List Request → Option (Request × List Request)
taken_first test [] = None
taken_first test (r ∷ parked) =
    if test r then Some (r, parked)
    else option_map (λ (p : Request × List Request). (p.0, r ∷ p.1)) (taken_first test parked)

-- the same of a test that is of the older ones too, which are these and those before it
unfoldable pub taken_behind : (List Request → Request → Bool) → List Request → List Request
    → Option (Request × List Request)
taken_behind test older [] = None
taken_behind test older (r ∷ parked) =
    if test older r then Some (r, parked)
    else option_map (λ (p : Request × List Request). (p.0, r ∷ p.1)) (taken_behind test (older ++ r ∷ []) parked)

-- a request passes a test, and none of the older ones blocks it
abbrev pub passes_free : Rules → (Request → Bool) → List Request → Request → Bool
passes_free rules test older r = test r && not (is_blocked_by_older rules older r)

-- the request of a unique, and the others
abbrev pub taken_out : ℕ → List Request → Option (Request × List Request)
taken_out unique parked = taken_first (λ (r : Request). r.unique == unique) parked
