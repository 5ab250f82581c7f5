-- Circles of waiting owners (POSIX.1-2017 `fcntl`, EDEADLK): the next one blocks each.
use Rattle.std.specs.Prelude.{◌≡◌, ℕ, Bool, true, false, ◌&&◌, ◌||◌, Option, Some, None, List, [], ◌∷◌, ◌++◌}
use Rattle.std.specs.List.{Contains}
use Rattle.fl_marks.specs.declared.lock.Class.{Class}
use Rattle.fl_marks.specs.declared.lock.Class.TheVariants.{Record, Flock}
use Rattle.fl_marks.specs.declared.lock.Mark.{Mark}
use Rattle.fl_marks.specs.Marking.{Marking, Stroke}
use Rattle.fl_waiting.specs.Waiting.{Wish, owner_of, wish_on, wish_of, wishes, is_blocked_by, only}
use Rattle.fl_waiting.specs.declared.parked.Request.{Request}
use Rattle.fl_waiting.specs.declared.rules.Rules.{Rules}

-- ---- of any requests, with whose they are and whom each waits for

-- owner p waits for owner q: a parked request of p does
pub record Waits {A : Type 0} (owner_of : A → ℕ) (blocks : A → ℕ → Bool) (waiting : List A) (p q : ℕ) : Type 0 where
  pub request : A
  pub among : Contains waiting request
  pub of : owner_of request ≡ p
  pub blocked : blocks request q ≡ true

-- p waits for the first of these owners, each for the next, and the last one for q
abbrev pub IsPath : {A : Type 0} → (A → ℕ) → (A → ℕ → Bool) → List A → ℕ → List ℕ → ℕ → Type 0
IsPath owner_of blocks waiting p [] q = Waits owner_of blocks waiting p q
IsPath owner_of blocks waiting p (next ∷ others) q =
    Waits owner_of blocks waiting p next × IsPath owner_of blocks waiting next others q

-- the request would wait for an owner who waits, through others or not, for the one who asks
pub record IsCircle {A : Type 0} (owner_of : A → ℕ) (blocks : A → ℕ → Bool) (waiting : List A) (asked : A)
    : Type 0 where
  pub first : ℕ
  pub others : List ℕ
  pub blocked : blocks asked first ≡ true
  pub path : IsPath owner_of blocks waiting first others (owner_of asked)

-- The same as a test: whether a request waits for an owner, through requests of the list or not. It does without the
-- first of them; or it waits for the owner of the first, and the first for that owner, both without the first.
unfoldable pub leads : {A : Type 0} → (A → ℕ) → (A → ℕ → Bool) → List A → A → ℕ → Bool
leads owner_of blocks [] asked q = blocks asked q
leads owner_of blocks (r ∷ rs) asked q =
    leads owner_of blocks rs asked q
    || (leads owner_of blocks rs asked (owner_of r) && leads owner_of blocks rs r q)

-- ---- of lock requests

-- a record lock that is wanted, and those that were wanted before
pub record Waiter : Type 0 where
  pub wish : Wish
  pub older : List Wish

-- whose it is
abbrev pub waiter_of : Waiter → ℕ
waiter_of w = owner_of w.wish

-- a lock that is wanted behind all these
abbrev pub behind : List Wish → Wish → Waiter
behind older w = record { wish = w; older = older }

-- each wish with the older ones, which are these and those before it
abbrev pub waiters_behind : List Wish → List Wish → List Waiter
waiters_behind older [] = []
waiters_behind older (w ∷ ws) = behind older w ∷ waiters_behind (older ++ w ∷ []) ws

-- all who wait for record locks, the oldest first
abbrev pub waiters : List Request → List Waiter
waiters parked = waiters_behind [] (wishes parked)

-- the class of record locks
abbrev pub is_record : Class → Bool
is_record Record = true
is_record Flock = false

-- this owner blocks it; whole-file locks have no part in circles
abbrev pub blocks : Rules → Marking → Waiter → ℕ → Bool
blocks rules m w owner = is_record w.wish.key.class && is_blocked_by rules (only owner) m w.older w.wish

-- a lock would close a circle if its request waited, behind all others
abbrev pub closes_circle : Rules → Marking → List Request → Wish → Bool
closes_circle rules m parked w =
    leads waiter_of (blocks rules m) (waiters parked) (behind (wishes parked) w) (owner_of w)

-- a lock would close a circle of waiting owners if its request waited
abbrev pub is_deadlock : Rules → Marking → List Request → Stroke → Option Mark → Bool
is_deadlock rules m parked s None = false
is_deadlock rules m parked s (Some mark) = closes_circle rules m parked (wish_on s mark)

-- the same in words, of a request: it wants a record lock, and owners wait in a circle with the one who asks
pub record ClosesCircle (rules : Rules) (m : Marking) (parked : List Request) (r : Request) : Type 0 where
  pub wish : Wish
  pub wants : wish_of r ≡ Some wish
  pub circle : IsCircle waiter_of (blocks rules m) (waiters parked) (behind (wishes parked) wish)
