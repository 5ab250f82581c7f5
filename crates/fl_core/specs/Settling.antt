-- Which parked requests are answered once locks have changed.
use Rattle.std.specs.Prelude.{◌≡◌, ℕ, zero, suc, false, Option, Some, None, option_map, Result, List, [], ◌∷◌, ◌++◌}
use Rattle.std.specs.Prelude.{length}
use Rattle.std.specs.Prelude.{if◌then◌else◌}
use Rattle.fl_core.specs.Effects.{locked}
use Rattle.fl_waiting.specs.LockRequest.{stroke_of}
use Rattle.fl_core.specs.Replies.{room_reply}
use Rattle.fl_waiting.specs.Waiting.{waits, AllWait}
use Rattle.fl_waiting.specs.declared.parked.Request.{Request}
use Rattle.fl_waiting.specs.declared.rules.Rules.{Rules}
use Rattle.fl_order.specs.declared.errno.Errno.{Errno}
use Rattle.fl_order.specs.declared.told.Answer.{Answer}
use Rattle.fl_order.specs.declared.told.Told.{Told}
use Rattle.fl_marks.specs.Change.{after_changes}
use Rattle.fl_marks.specs.Marking.{Marking}

-- the locks, and the parked requests in the order of asking
pub record Present : Type 0 where
  pub marking : Marking
  pub parked : List Request

-- these locks and these parked requests
abbrev pub present : Marking → List Request → Present
present marking parked = record { marking = marking; parked = parked }

-- a request that doesn't wait any more: its lock is set if there is room, for so many runs
abbrev pub grant_reply : ℕ → Marking → Request → Result Answer Errno
grant_reply most m r = room_reply most m (stroke_of r.node r.ask)

-- the reply to it
abbrev pub granted_told : ℕ → Marking → Request → Told
granted_told most m r = record { unique = r.unique; result = grant_reply most m r }

-- the locks afterwards
abbrev pub marking_granted : ℕ → Marking → Request → Marking
marking_granted most m r = after_changes (locked r.node r.ask (grant_reply most m r)) m

-- the oldest request that doesn't wait, and the others; these are older than all of them
unfoldable pub free_behind : Rules → Marking → List Request → List Request → Option (Request × List Request)
free_behind rules m older [] = None
free_behind rules m older (r ∷ parked) =
    if waits rules m older r
    then option_map (λ (p : Request × List Request). (p.0, r ∷ p.1)) (free_behind rules m (older ++ r ∷ []) parked)
    else Some (r, parked)

-- the oldest of all parked requests that doesn't
abbrev pub oldest_free : Rules → Marking → List Request → Option (Request × List Request)
oldest_free rules m parked = free_behind rules m [] parked

-- what settling leaves, and the replies that it gives
pub record Settled : Type 0 where
  pub present : Present
  pub tolds : List Told

-- one reply more, before the others
abbrev pub with_told : Told → Settled → Settled
with_told told s = record s { tolds = told ∷ s.tolds }

-- the request that is found is answered first, and what is left to do comes after
abbrev pub answered_first : ℕ → Marking → List Request → ((Request × List Request) → Settled)
    → Option (Request × List Request) → Settled
answered_first most m parked rest None = record { present = present m parked; tolds = [] }
answered_first most m parked rest (Some p) = with_told (granted_told most m p.0) (rest p)

-- at most so many requests are answered, each time the oldest that doesn't wait
unfoldable pub settled_within : Rules → ℕ → Marking → List Request → Settled
settled_within rules zero m parked = record { present = present m parked; tolds = [] }
settled_within rules (suc n) m parked =
    answered_first rules.runs m parked (λ p. settled_within rules n (marking_granted rules.runs m p.0) p.1)
    (oldest_free rules m parked)

-- all that can be answered are
abbrev pub settled : Rules → Present → Settled
settled rules s = settled_within rules (length s.parked) s.marking s.parked

-- The same in words: no reply is given if every request waits. Otherwise the oldest that doesn't is taken out, its lock
-- is set if there is room, and it is answered; and so on.
pub data IsSettled (rules : Rules) : Present → List Told → Present → Type 0 where
  done : {m : Marking} {parked : List Request} → AllWait rules m parked
      → IsSettled rules (present m parked) [] (present m parked)
  one : {m : Marking} {parked : List Request} {tolds : List Told} {after : Present} (older : List Request)
      (r : Request) (younger : List Request) → parked ≡ older ++ r ∷ younger → AllWait rules m older
      → waits rules m older r ≡ false
      → IsSettled rules (present (marking_granted rules.runs m r) (older ++ younger)) tolds after
      → IsSettled rules (present m parked) (granted_told rules.runs m r ∷ tolds) after
