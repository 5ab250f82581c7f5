-- What a recorded order changes with its recorded replies: read off these and all but the locks, and nothing is tested.
use Rattle.std.specs.Prelude.{ℕ, ◌==◌, Bool, true, false, Option, Some, None, Result, Ok, Err, List, [], ◌∷◌, ◌++◌}
use Rattle.std.specs.Prelude.{if◌then◌else◌}
use Rattle.std.specs.List.{fold}
use Rattle.fl_waiting.specs.LockRequest.{stroke_of}
use Rattle.fl_core.specs.State.{View, State, Snapshot}
use Rattle.fl_waiting.specs.Waiting.{is_parked, taken_out}
use Rattle.fl_waiting.specs.declared.parked.Request.{Request}
use Rattle.fl_dir.specs.Changes.{after_lookup, after_create, after_mkdir, after_mknod, after_open, after_unlink}
use Rattle.fl_dir.specs.Changes.{after_forget, after_close}
use Rattle.fl_dir.specs.Directory.{Listing}
use Rattle.fl_dir.specs.OpenFiles.{has_open_file, without_file}
use Rattle.fl_order.specs.declared.errno.Errno.{Errno}
use Rattle.fl_order.specs.declared.told.Answer.{Answer}
use Rattle.fl_order.specs.declared.told.Told.{Told}
use Rattle.fl_order.specs.declared.order.Order.{Order}
use Rattle.fl_order.specs.declared.order.Op.{Op}
use Rattle.fl_order.specs.declared.order.Op.TheVariants.{Lookup, Forget, Unlink, Open, Release, Flush, Create, Setlk}
use Rattle.fl_order.specs.declared.order.Op.TheVariants.{Setlkw, Mknod, Mkdir, Rmdir}
use Rattle.fl_order.specs.declared.order.LockAsk.{LockAsk}
use Rattle.fl_marks.specs.declared.lock.Class.{Class}
use Rattle.fl_marks.specs.declared.lock.Class.TheVariants.{Record, Flock}
use Rattle.fl_marks.specs.Change.{Change, struck, cleared, after_changes}

-- what is there afterwards but the locks, and the changes of locks with the last one first
pub record Effect : Type 0 where
  pub view : View
  pub changes : List Change

-- no lock changes
abbrev pub leaving : View → Effect
leaving v = record { view = v; changes = [] }

-- a lock request of a node with this reply: granted if it is no error
abbrev pub locked : ℕ → LockAsk → Result Answer Errno → List Change
locked node ask (Ok answer) = struck (stroke_of node ask) ∷ []
locked node ask (Err e) = []

-- all locks of the owner on the node go, of this class
abbrev pub unlocked : Class → ℕ → ℕ → Change
unlocked class node owner = struck (record {
  key = record { class = class; node = node; owner = owner };
  start = 0;
  end = 9223372036854775807;
  mark = None;
})

-- FLUSH with this reply: the owner's record locks on the node go, through whichever fh they were set (POSIX.1-2017
-- `fcntl`: all locks of a process on a file go when it closes any descriptor of the file)
abbrev pub flushed : ℕ → ℕ → Result Answer Errno → List Change
flushed node owner (Ok answer) = unlocked Record node owner ∷ []
flushed node owner (Err e) = []

-- RELEASE that drops the whole-file lock of the owner, or not
abbrev pub dropped : Bool → ℕ → ℕ → List Change
dropped false node owner = []
dropped true node owner = unlocked Flock node owner ∷ []

-- if no fh is left open on the node, all its locks go
abbrev pub cleared_on : Listing → ℕ → List Change
cleared_on d node = if has_open_file d node then [] else cleared node ∷ []

-- RELEASE with this reply: the whole-file lock of the owner, if it is dropped; then the fh; then the locks of a node
-- that isn't open any more
abbrev pub released : ℕ → ℕ → Bool → ℕ → Result Answer Errno → Listing → List Change
released node fh unlocks owner (Ok answer) d = cleared_on (without_file d fh) node ++ dropped unlocks node owner
released node fh unlocks owner (Err e) d = []

-- the locks that an order with this reply of its own changes
abbrev pub locks_answered : Order → Op → Result Answer Errno → Listing → List Change
locks_answered order (Release fh unlocks owner) reply d = released order.node fh unlocks owner reply d
locks_answered order (Flush fh owner) reply d = flushed order.node owner reply
locks_answered order (Setlk ask) reply d = locked order.node ask reply
locks_answered order (Setlkw ask) reply d = locked order.node ask reply
locks_answered order op reply d = []

-- the directory after an order with this reply of its own
abbrev pub listing_answered : Order → Op → Result Answer Errno → Listing → Listing
listing_answered order (Lookup name) reply d = after_lookup d reply
listing_answered order (Unlink name) reply d = after_unlink d name reply
listing_answered order (Mknod mode name) reply d = after_mknod d order.uid order.gid mode name reply
listing_answered order (Mkdir mode name) reply d = after_mkdir d order.uid order.gid mode name reply
listing_answered order (Rmdir name) reply d = after_unlink d name reply
listing_answered order Open reply d = after_open d order.node reply
listing_answered order (Release fh unlocks owner) reply d = after_close d order.node fh reply
listing_answered order (Create excl mode name) reply d = after_create d order.uid order.gid mode name reply
listing_answered order op reply d = d

-- an order with this reply of its own; an error changes nothing
abbrev pub answered : Order → Op → Result Answer Errno → View → Effect
answered order op reply v = record {
  view = record v { directory = listing_answered order op reply v.directory };
  changes = locks_answered order op reply v.directory;
}

-- the directory after an order with no reply of its own: lookups are forgotten
abbrev pub listing_unanswered : Order → Op → Listing → Listing
listing_unanswered order (Forget n) d = after_forget d order.node n
listing_unanswered order op d = d

-- the directory after an order with its own reply, if it has one
abbrev pub listing_replied : Order → Option (Result Answer Errno) → Listing → Listing
listing_replied order None d = listing_unanswered order order.op d
listing_replied order (Some reply) d = listing_answered order order.op reply d

-- what a lock request with no reply of its own asks for
abbrev pub waited_for : Op → Option LockAsk
waited_for (Setlkw ask) = Some ask
waited_for op = None

-- the request that it is from now on, while it waits
abbrev pub request_of : Order → LockAsk → Request
request_of order ask = record { unique = order.unique; node = order.node; ask = ask }

-- behind the others
abbrev pub with_waiter : Order → Option LockAsk → List Request → List Request
with_waiter order None parked = parked
with_waiter order (Some ask) parked = parked ++ request_of order ask ∷ []

-- an order with no reply of its own: lookups are forgotten, or a lock request waits
abbrev pub unanswered : Order → Op → View → Effect
unanswered order op v = leaving (record {
  directory = listing_unanswered order op v.directory;
  parked = with_waiter order (waited_for op) v.parked;
})

-- an order with its own reply, if it has one
abbrev pub by_reply : Order → Option (Result Answer Errno) → View → Effect
by_reply order None v = unanswered order order.op v
by_reply order (Some reply) v = answered order order.op reply v

-- an order with its own reply, if it has one now; if its unique is that of a parked request, it changes nothing
abbrev pub at_once : Order → Option (Result Answer Errno) → View → Effect
at_once order own v = if is_parked order.unique v.parked then leaving v else by_reply order own v

-- the reply of a parked request that was taken out, if there was one
abbrev pub later_to : Option (Request × List Request) → Result Answer Errno → View → Effect
later_to None reply v = leaving v
later_to (Some p) reply v = record { view = record v { parked = p.1 }; changes = locked (p.0).node (p.0).ask reply }

-- any other reply: the parked request of its unique goes
abbrev pub later : Told → View → Effect
later told v = later_to (taken_out told.unique v.parked) told.result v

-- one effect after another
abbrev pub followed_by : (View → Effect) → Effect → Effect
followed_by f e = record { view = (f e.view).view; changes = (f e.view).changes ++ e.changes }

-- an order and the reply directly after it, which is its own if it has its unique
abbrev pub told_first : Order → Told → View → Effect
told_first order told v =
    if told.unique == order.unique then at_once order (Some told.result) v
    else followed_by (later told) (at_once order None v)

-- an order with all replies that it gives
abbrev pub replied : Order → List Told → View → Effect
replied order [] v = at_once order None v
replied order (told ∷ tolds) v = fold (λ e t. followed_by (later t) e) (told_first order told v) tolds

-- the state after an effect
abbrev pub recorded : (View → Effect) → State → State
recorded f s = record s { view = (f s.view).view; changes = (f s.view).changes ++ s.changes }

-- what contracts see after an effect
abbrev pub made : (View → Effect) → Snapshot → Snapshot
made f p = record p { view = (f p.view).view; marking = after_changes (f p.view).changes p.marking }
