-- What a lock request asks for, and the range that was read off it.
use Rattle.std.proofs.Common.{◌≡◌, ◌∙◌, ℕ, Option, Bool, cond, nat_le, Some, None, length, Result, Ok, Err, OnOk, OnErr}
use Rattle.std.proofs.Common.{ap}
use Rattle.fl_core.specs.Effects.{locked}
use Rattle.fl_waiting.specs.declared.rules.Rules.{Rules}
use Rattle.fl_core.specs.Replies.{ask_error, at_once_unless, room_reply, setlkw_reply}
use Rattle.fl_core.specs.State.{View}
use Rattle.fl_waiting.specs.Circle.{is_deadlock}
use Rattle.fl_waiting.specs.Waiting.{is_blocked}
use Rattle.fl_waiting.specs.LockRequest.{key_of, start_of, end_of, mark_of, stroke_of}
use Rattle.fl_order.specs.declared.errno.Errno.{Errno}
use Rattle.fl_order.specs.declared.errno.Errno.TheVariants.{EDEADLK, ENOLCK}
use Rattle.fl_order.specs.declared.told.Answer.{Answer}
use Rattle.fl_order.specs.declared.order.LockAsk.{LockAsk}
use Rattle.fl_marks.specs.Change.{after_changes}
use Rattle.fl_marks.specs.declared.lock.Key.{Key}
use Rattle.fl_marks.specs.declared.lock.Mark.{Mark}
use Rattle.fl_marks.specs.declared.lock.Range.{Range}
use Rattle.fl_marks.specs.Marking.{Marking, Stroke, stroke_on, stroked}

pub asked_stroke : (node : ℕ) (ask : LockAsk) (key : Key) (range : Range) (mark : Option Mark) → key ≡ key_of node ask
    → (range.start ≡ start_of ask) × (range.end ≡ end_of ask) → mark ≡ mark_of ask → stroke_on key range mark ≡ stroke_of node ask
asked_stroke node ask key range mark k at m = λ i. record { key = k i; start = at.0 i; end = at.1 i; mark = m i }

-- what is set, and what is left if there was no room
pub set_marking : (reply : Result Answer Errno) (m n : Marking) (s : Stroke) (node : ℕ) (ask : LockAsk) → s ≡ stroke_of node ask → OnOk reply (n ≡ stroked s m)
    → OnErr reply (n ≡ m) → n ≡ after_changes (locked node ask reply) m
set_marking (Ok answer) m n s node ask is ok err = ok ∙ ap (λ t. stroked t m) is
set_marking (Err e) m n s node ask is ok err = err

-- a SETLKW by its tests
pub setlkw_is : (rules : Rules) (v : View) (m : Marking) (node : ℕ) (ask : LockAsk) (e : Option Errno) (conflict deadlock full : Bool) → ask_error v.directory node ask ≡ e
    → is_blocked rules m v.parked (stroke_of node ask) (mark_of ask) ≡ conflict
    → is_deadlock rules m v.parked (stroke_of node ask) (mark_of ask) ≡ deadlock → nat_le rules.parked (length v.parked) ≡ full
    → setlkw_reply rules v m node ask ≡ at_once_unless e
    (cond conflict (cond deadlock (Some (Err EDEADLK)) (cond full (Some (Err ENOLCK)) None)) (Some (room_reply rules.runs m (stroke_of node ask))))
setlkw_is rules v m node ask e conflict deadlock full fault c d f =
    λ i. at_once_unless (fault i) (cond (c i) (cond (d i) (Some (Err EDEADLK)) (cond (f i) (Some (Err ENOLCK)) None))
    (Some (room_reply rules.runs m (stroke_of node ask))))
