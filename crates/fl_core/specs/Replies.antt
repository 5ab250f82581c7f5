-- What an order is answered at once (POSIX.1-2017 `fcntl`, F_GETLK and F_SETLK; Linux `flock(2)`; the requests of Linux
-- `fuse.h`).
use Rattle.std.specs.Prelude.{ℕ, Bool, not, ◌==◌, nat_le, nat_lt, Option, Some, None, Result, Ok, Err}
use Rattle.std.specs.Prelude.{List, [], ◌++◌, length, map, if◌then◌else◌}
use Rattle.std.specs.List.{filter}
use Rattle.fl_waiting.specs.Circle.{is_deadlock}
use Rattle.fl_waiting.specs.LockRequest.{is_flock, is_malformed, key_of, lock_answer, mark_of, stroke_of}
use Rattle.fl_core.specs.State.{View, Snapshot}
use Rattle.fl_counter.specs.Tolds.{own_replies}
use Rattle.fl_waiting.specs.Waiting.{is_blocked, conflicts_with_held, is_parked}
use Rattle.fl_core.specs.declared.ending.Ending.{Ending}
use Rattle.fl_core.specs.declared.ending.Ending.TheVariants.{Through, Named}
use Rattle.fl_waiting.specs.declared.parked.Request.{Request}
use Rattle.fl_waiting.specs.declared.rules.Rules.{Rules}
use Rattle.fl_dir.specs.Directory.{Listing}
use Rattle.fl_dir.specs.OpenFiles.{is_open_on}
use Rattle.fl_dir.specs.Replies.{lookup_reply, create_reply, mkdir_reply, mknod_reply, open_reply, getattr_reply}
use Rattle.fl_dir.specs.Replies.{rmdir_reply, unlink_reply, unless_error}
use Rattle.fl_order.specs.declared.errno.Errno.{Errno}
use Rattle.fl_order.specs.declared.errno.Errno.TheVariants.{EINTR, EBADF, EINVAL, EAGAIN, EDEADLK, ENOLCK}
use Rattle.fl_order.specs.declared.told.Answer.{Answer}
use Rattle.fl_order.specs.declared.told.Answer.TheVariants.{Done}
use Rattle.fl_order.specs.declared.told.Told.{Told}
use Rattle.fl_order.specs.declared.order.Order.{Order}
use Rattle.fl_order.specs.declared.order.Op.{Op}
use Rattle.fl_order.specs.declared.order.Op.TheVariants.{Lookup, Forget, Getattr, Unlink, Open, Release, Flush}
use Rattle.fl_order.specs.declared.order.Op.TheVariants.{Create, Getlk, Setlk, Setlkw, Interrupt, Mknod, Mkdir, Rmdir}
use Rattle.fl_order.specs.declared.order.LockAsk.{LockAsk}
use Rattle.fl_marks.specs.declared.lock.Key.{Key}
use Rattle.fl_marks.specs.declared.lock.Mark.{Mark}
use Rattle.fl_marks.specs.Marking.{Marking, Stroke, stroked}
use Rattle.fl_marks.specs.Runs.{runs}
use Rattle.fl_marks.specs.Blocker.{blocker}

-- a change of locks is made if at most so many runs are there afterwards, over all files
abbrev pub room_reply : ℕ → Marking → Stroke → Result Answer Errno
room_reply most m s = if nat_lt most (runs (stroked s m)) then Err ENOLCK else Ok Done

-- a lock is set if it conflicts with none that is held
abbrev pub set_reply : ℕ → Marking → Stroke → Option Mark → Result Answer Errno
set_reply most m s mark = if conflicts_with_held m s mark then Err EAGAIN else room_reply most m s

-- the first test that a lock request fails whatever locks are held, if there is one
abbrev pub ask_error : Listing → ℕ → LockAsk → Option Errno
ask_error d node ask =
    if not (is_open_on d ask.fh node) then Some EBADF
    else (if is_malformed ask then Some EINVAL else None)

-- what a SETLK is answered, if there may be so many runs
abbrev pub setlk_reply : ℕ → Listing → Marking → ℕ → LockAsk → Result Answer Errno
setlk_reply most d m node ask =
    unless_error (ask_error d node ask) (set_reply most m (stroke_of node ask) (mark_of ask))

-- a request that has to wait has no reply yet, unless it would close a circle, or as many wait already as the rules
-- allow
abbrev pub wait_reply : Rules → Marking → List Request → Stroke → Option Mark → Option (Result Answer Errno)
wait_reply rules m parked s mark =
    if is_deadlock rules m parked s mark then Some (Err EDEADLK)
    else (if nat_le rules.parked (length parked) then Some (Err ENOLCK) else None)

-- the error at once, or else the reply, if it comes at once
abbrev pub at_once_unless : Option Errno → Option (Result Answer Errno) → Option (Result Answer Errno)
at_once_unless None reply = reply
at_once_unless (Some e) reply = Some (Err e)

-- what a SETLKW is answered at once
abbrev pub setlkw_reply : Rules → View → Marking → ℕ → LockAsk → Option (Result Answer Errno)
setlkw_reply rules v m node ask =
    let s = stroke_of node ask in
    let mark = mark_of ask in
    at_once_unless (ask_error v.directory node ask)
    (if is_blocked rules m v.parked s mark then wait_reply rules m v.parked s mark
    else Some (room_reply rules.runs m s))

-- what would keep a lock from being set; unlocking has no such test
abbrev pub test_reply : Marking → Key → LockAsk → Option Mark → Result Answer Errno
test_reply m key ask None = Err EINVAL
test_reply m key ask (Some mark) = Ok (lock_answer ask (blocker m key ask.start ask.end mark.kind))

-- what a GETLK is answered, which asks for record locks alone
abbrev pub getlk_reply : Listing → Marking → ℕ → LockAsk → Result Answer Errno
getlk_reply d m node ask =
    unless_error (ask_error d node ask)
    (if is_flock ask then Err EINVAL else test_reply m (key_of node ask) ask (mark_of ask))

-- what a request about an fh is answered: it has to be open, and on this node
abbrev pub file_reply : Listing → ℕ → ℕ → Result Answer Errno
file_reply d node fh = if is_open_on d fh node then Ok Done else Err EBADF

-- an INTERRUPT has no reply if it finds the request of the unique that it names
abbrev pub interrupt_reply : List Request → ℕ → Option (Result Answer Errno)
interrupt_reply parked unique = if is_parked unique parked then None else Some (Err EAGAIN)

-- what an order that goes to the directory alone is answered; FORGET has no reply
abbrev pub directory_reply : Listing → Order → Op → Option (Result Answer Errno)
directory_reply d order (Lookup name) = Some (lookup_reply d order.node name)
directory_reply d order Getattr = Some (getattr_reply d order.node)
directory_reply d order (Unlink name) = Some (unlink_reply d order.node name)
directory_reply d order (Mknod mode name) = Some (mknod_reply d order.node order.uid order.gid mode name)
directory_reply d order (Mkdir mode name) = Some (mkdir_reply d order.node order.uid order.gid mode name)
directory_reply d order (Rmdir name) = Some (rmdir_reply d order.node name)
directory_reply d order Open = Some (open_reply d order.node)
directory_reply d order (Create excl mode name) = Some (create_reply d order.node order.uid order.gid excl mode name)
directory_reply d order op = None

-- what an order is answered at once: one about locks or parked requests, and any other
abbrev pub reply_to : Rules → View → Marking → Order → Op → Option (Result Answer Errno)
reply_to rules v m order (Release fh unlocks owner) = Some (file_reply v.directory order.node fh)
reply_to rules v m order (Flush fh owner) = Some (file_reply v.directory order.node fh)
reply_to rules v m order (Getlk ask) = Some (getlk_reply v.directory m order.node ask)
reply_to rules v m order (Setlk ask) = Some (setlk_reply rules.runs v.directory m order.node ask)
reply_to rules v m order (Setlkw ask) = setlkw_reply rules v m order.node ask
reply_to rules v m order (Interrupt unique) = interrupt_reply v.parked unique
reply_to rules v m order op = directory_reply v.directory order op

-- what an order is answered whose unique is that of a parked request
abbrev pub taken_reply : Op → Option (Result Answer Errno)
taken_reply (Forget n) = None
taken_reply _ = Some (Err EINVAL)

-- the order's own reply, if it has one now
abbrev pub own_reply : Rules → View → Marking → Order → Option (Result Answer Errno)
own_reply rules v m order =
    if is_parked order.unique v.parked then taken_reply order.op else reply_to rules v m order order.op

-- a parked request is rejected with an error, and goes
abbrev pub ended_with : Errno → Request → Told
ended_with e r = record { unique = r.unique; result = Err e }

-- those that pass a test are, the oldest first
abbrev pub ended_all : Errno → (Request → Bool) → List Request → List Told
ended_all e test parked = map (ended_with e) (filter test parked)

-- which requests an order ends by what it is answered itself: those that came through the fh that it closes, or the one
-- that it names
abbrev pub ending_of : Op → Option (Result Answer Errno) → Option Ending
ending_of (Release fh unlocks owner) (Some (Ok answer)) = Some (Through fh)
ending_of (Interrupt unique) None = Some (Named unique)
ending_of op own = None

-- whether a request is one of them
abbrev pub picks : Ending → Request → Bool
picks (Through fh) r = r.ask.fh == fh
picks (Named unique) r = r.unique == unique

-- the error that they get
abbrev pub error_of : Ending → Errno
error_of (Through fh) = EBADF
error_of (Named unique) = EINTR

-- the replies to them, if there are any
abbrev pub ended_if : Option Ending → List Request → List Told
ended_if None parked = []
ended_if (Some ending) parked = ended_all (error_of ending) (picks ending) parked

-- the replies to requests that an order ends
abbrev pub ended_by : List Request → Op → Option (Result Answer Errno) → List Told
ended_by parked op own = ended_if (ending_of op own) parked

-- the same, but none if the order's unique is that of a parked request
abbrev pub ended : View → Order → Option (Result Answer Errno) → List Told
ended v order own = if is_parked order.unique v.parked then [] else ended_by v.parked order.op own

-- the replies that an order gives before any lock that came free is given to a parked request
abbrev pub first_told : Snapshot → Order → List Told
first_told p order =
    let own = own_reply p.rules p.view p.marking order in
    own_replies order own ++ ended p.view order own
