-- What a lock request asks for, of its raw numbers (`struct fuse_lk_in` of Linux `fuse.h`), and what it is told of a
-- lock.
use Rattle.std.specs.Prelude.{ℕ, Bool, not, ◌&&◌, ◌||◌, ◌==◌, nat_lt, bit_and, Option, Some, None, if◌then◌else◌}
use Rattle.fl_order.specs.declared.order.LockAsk.{LockAsk}
use Rattle.fl_order.specs.declared.told.Answer.{Answer}
use Rattle.fl_order.specs.declared.told.Answer.TheVariants.{Lock}
use Rattle.fl_marks.specs.declared.held.Held.{Held}
use Rattle.fl_marks.specs.declared.lock.Class.TheVariants.{Record, Flock}
use Rattle.fl_marks.specs.declared.lock.Kind.{Kind}
use Rattle.fl_marks.specs.declared.lock.Kind.TheVariants.{Read, Write}
use Rattle.fl_marks.specs.declared.lock.Key.{Key}
use Rattle.fl_marks.specs.declared.lock.Mark.{Mark}
use Rattle.fl_marks.specs.Marking.{Stroke}

-- bit 0 of the flags asks for a lock of the whole file (FUSE_LK_FLOCK)
abbrev pub is_flock : LockAsk → Bool
is_flock ask = bit_and ask.flags 1 == 1

-- other flags than the whole-file bit, a type above 2, or a range of a record lock that is no range
abbrev pub is_malformed : LockAsk → Bool
is_malformed ask =
    nat_lt 1 ask.flags
    || (nat_lt 2 ask.kind || (not (is_flock ask) && (nat_lt ask.end ask.start || nat_lt 9223372036854775807 ask.end)))

-- the owner's key on the order's node
abbrev pub key_of : ℕ → LockAsk → Key
key_of node ask = record { class = if is_flock ask then Flock else Record; node = node; owner = ask.owner }

-- the first byte that is asked for: a lock of the whole file covers all bytes, and its start and end aren't consulted
abbrev pub start_of : LockAsk → ℕ
start_of ask = if is_flock ask then 0 else ask.start

-- the last byte that is asked for, which is included
abbrev pub end_of : LockAsk → ℕ
end_of ask = if is_flock ask then 9223372036854775807 else ask.end

-- type 0 asks for a read lock, type 1 for a write lock, and any other for none
abbrev pub mark_of : LockAsk → Option Mark
mark_of ask =
    if ask.kind == 0 then Some (record { kind = Read; pid = ask.pid })
    else (if ask.kind == 1 then Some (record { kind = Write; pid = ask.pid }) else None)

-- the stroke of a lock request that is granted
abbrev pub stroke_of : ℕ → LockAsk → Stroke
stroke_of node ask = record { key = key_of node ask; start = start_of ask; end = end_of ask; mark = mark_of ask }

-- the type of a lock record: 0 is read and 1 is write
abbrev pub type_of : Kind → ℕ
type_of Read = 0
type_of Write = 1

-- the lock that is named; if none conflicts with the one that was asked for, that one's own record with type 2,
-- unlock
abbrev pub lock_answer : LockAsk → Option Held → Answer
lock_answer ask None = Lock ask.start ask.end 2 ask.pid
lock_answer ask (Some held) = Lock held.start held.end (type_of held.mark.kind) held.mark.pid
