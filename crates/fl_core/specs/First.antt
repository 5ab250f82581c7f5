-- The replies that an order gives before any lock that came free is given to a parked request, in words: a case for
-- each thing that can befall an order (POSIX.1-2017 `fcntl`, F_SETLKW; Linux `fuse.h`, FUSE_SETLKW and FUSE_INTERRUPT).
use Rattle.std.specs.Prelude.{◌≡◌, ◌≢◌, ◌==◌, ◌≤◌, ◌<◌, ℕ, Bool, true, false, Some, None, Result, Ok, Err, List, []}
use Rattle.std.specs.Prelude.{◌∷◌, ◌++◌}
use Rattle.std.specs.Prelude.{length}
use Rattle.std.specs.List.{AllByRecursion}
use Rattle.fl_waiting.specs.Circle.{ClosesCircle}
use Rattle.fl_core.specs.Effects.{request_of}
use Rattle.fl_core.specs.Replies.{ask_error, reply_to, ended_with, ended_all}
use Rattle.fl_counter.specs.Tolds.{own_replies}
use Rattle.fl_core.specs.Settling.{grant_reply}
use Rattle.fl_core.specs.State.{Snapshot}
use Rattle.fl_waiting.specs.Waiting.{waits}
use Rattle.fl_waiting.specs.declared.parked.Request.{Request}
use Rattle.fl_dir.specs.OpenFiles.{is_open_on}
use Rattle.fl_order.specs.declared.errno.Errno.{Errno}
use Rattle.fl_order.specs.declared.errno.Errno.TheVariants.{EINTR, EBADF, EINVAL, EAGAIN, EDEADLK, ENOLCK}
use Rattle.fl_order.specs.declared.told.Answer.{Answer}
use Rattle.fl_order.specs.declared.told.Answer.TheVariants.{Done}
use Rattle.fl_order.specs.declared.told.Told.{Told}
use Rattle.fl_order.specs.declared.order.LockAsk.{LockAsk}
use Rattle.fl_order.specs.declared.order.Op.{Op}
use Rattle.fl_order.specs.declared.order.Op.TheVariants.{Forget, Release, Setlkw, Interrupt}
use Rattle.fl_order.specs.declared.order.Order.{Order}

-- this request is parked, and has this unique
pub record IsWaiter (unique : ℕ) (parked : List Request) (r : Request) : Type 0 where
  pub older : List Request
  pub younger : List Request
  pub stands : parked ≡ older ++ r ∷ younger
  pub named : r.unique ≡ unique

-- no parked request has this unique
abbrev pub IsNew : ℕ → List Request → Type 0
IsNew unique parked = AllByRecursion (λ (r : Request). r.unique ≢ unique) parked

-- an order that never waits, and ends no request that does
abbrev pub is_alone : Op → Bool
is_alone (Release fh unlocks owner) = false
is_alone (Setlkw ask) = false
is_alone (Interrupt unique) = false
is_alone _ = true

-- the order's own reply
abbrev pub own : Order → Result Answer Errno → Told
own order result = record { unique = order.unique; result = result }

-- what an order gives whose unique is none of a parked request
pub data IsAnswered (p : Snapshot) (order : Order) : Op → List Told → Type 0 where
  alone : (op : Op) → is_alone op ≡ true
      → IsAnswered p order op (own_replies order (reply_to p.rules p.view p.marking order op))
  -- RELEASE: of an fh that isn't open on the node; or of one that is, and then each request that came through it is
  -- told EBADF, the oldest first
  not_open : (fh : ℕ) (unlocks : Bool) (owner : ℕ) → is_open_on p.view.directory fh order.node ≡ false
      → IsAnswered p order (Release fh unlocks owner) (own order (Err EBADF) ∷ [])
  closes : (fh : ℕ) (unlocks : Bool) (owner : ℕ) → is_open_on p.view.directory fh order.node ≡ true
      → IsAnswered p order (Release fh unlocks owner)
      (own order (Ok Done) ∷ ended_all EBADF (λ r. r.ask.fh == fh) p.view.parked)
  -- INTERRUPT: of a parked request, which alone gets a reply; or of none
  interrupts : (unique : ℕ) (r : Request) → IsWaiter unique p.view.parked r
      → IsAnswered p order (Interrupt unique) (ended_with EINTR r ∷ [])
  interrupts_none : (unique : ℕ) → IsNew unique p.view.parked
      → IsAnswered p order (Interrupt unique) (own order (Err EAGAIN) ∷ [])
  -- SETLKW: of a request that fails a test whatever locks are held; that needn't wait
  -- behind those that are parked; that has to, and would close a circle; that has to, when as many wait already as the
  -- rules allow; that has to, and is parked
  fails : (ask : LockAsk) (e : Errno) → ask_error p.view.directory order.node ask ≡ Some e
      → IsAnswered p order (Setlkw ask) (own order (Err e) ∷ [])
  is_free : (ask : LockAsk) → ask_error p.view.directory order.node ask ≡ None
      → waits p.rules p.marking p.view.parked (request_of order ask) ≡ false
      → IsAnswered p order (Setlkw ask) (own order (grant_reply p.rules.runs p.marking (request_of order ask)) ∷ [])
  closes_one : (ask : LockAsk) → ask_error p.view.directory order.node ask ≡ None
      → waits p.rules p.marking p.view.parked (request_of order ask) ≡ true
      → ClosesCircle p.rules p.marking p.view.parked (request_of order ask)
      → IsAnswered p order (Setlkw ask) (own order (Err EDEADLK) ∷ [])
  is_one_too_many : (ask : LockAsk) → ask_error p.view.directory order.node ask ≡ None
      → waits p.rules p.marking p.view.parked (request_of order ask) ≡ true
      → (ClosesCircle p.rules p.marking p.view.parked (request_of order ask) → ⊥)
      → p.rules.parked ≤ length p.view.parked
      → IsAnswered p order (Setlkw ask) (own order (Err ENOLCK) ∷ [])
  waits_now : (ask : LockAsk) → ask_error p.view.directory order.node ask ≡ None
      → waits p.rules p.marking p.view.parked (request_of order ask) ≡ true
      → (ClosesCircle p.rules p.marking p.view.parked (request_of order ask) → ⊥)
      → length p.view.parked < p.rules.parked
      → IsAnswered p order (Setlkw ask) []

-- what any order gives: if a request waits that has its unique, a FORGET gives nothing, and any other EINVAL
pub data IsFirst (p : Snapshot) (order : Order) : List Told → Type 0 where
  forget_of_a_waiter : (n : ℕ) (r : Request) → order.op ≡ Forget n → IsWaiter order.unique p.view.parked r
      → IsFirst p order []
  as_a_waiter : (r : Request) → ((n : ℕ) → order.op ≢ Forget n) → IsWaiter order.unique p.view.parked r
      → IsFirst p order (own order (Err EINVAL) ∷ [])
  as_no_waiter : (tolds : List Told) → IsNew order.unique p.view.parked → IsAnswered p order order.op tolds
      → IsFirst p order tolds
