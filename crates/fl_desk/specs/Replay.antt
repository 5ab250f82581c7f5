-- The state that recorded lines alone give.
use Rattle.std.specs.Prelude.{◌≢◌, ℕ, Option, Some, None, List}
use Rattle.std.specs.List.{fold, AllByRecursion}
use Rattle.fl_core.specs.State.{State, opening}
use Rattle.fl_desk.specs.Heads.{with_state}
use Rattle.fl_core.specs.Effects.{at_once, later, told_first, recorded}
use Rattle.fl_history.specs.declared.history.Line.{Line}
use Rattle.fl_history.specs.declared.history.Line.TheVariants as line
use Rattle.fl_order.specs.declared.order.Order.{Order}
use Rattle.fl_order.specs.declared.told.Told.{Told}
use Rattle.fl_waiting.specs.declared.rules.Rules.{Rules}

-- lines that are read one after another: the state, and the order that was asked last, if it has no reply yet
pub record Reading : Type 0 where
  pub state : State
  pub waiting : Option Order

-- nothing is read yet, under these rules
abbrev pub unread : Rules → Reading
unread rules = record { state = opening rules; waiting = None }

-- the state once it is known that the order that was asked last has no reply of its own
abbrev pub committed : Option Order → State → State
committed None s = s
committed (Some order) s = recorded (at_once order None) s

-- A reply directly after an order of its unique is its own. Any other answers the parked request of its unique.
abbrev pub read_reply : Option Order → Told → State → State
read_reply None told s = recorded (later told) s
read_reply (Some order) told s = recorded (told_first order told) s

-- one line more
abbrev pub read_line : Reading → Line → Reading
read_line r (line.Asked worker order) = record { state = committed r.waiting r.state; waiting = Some order }
read_line r (line.Told told) = record { state = read_reply r.waiting told r.state; waiting = None }
read_line r (line.State state) = record { state = with_state state (committed r.waiting r.state); waiting = None }

-- the state at the end of lines
abbrev pub state_at_end : Reading → State
state_at_end r = committed r.waiting r.state

-- the state after lines, read off the rules and the lines alone
abbrev pub state_after : Rules → List Line → State
state_after rules lines = state_at_end (fold read_line (unread rules) lines)

-- the state after later replies, one after another
abbrev pub all_later : List Told → State → State
all_later tolds s = fold (λ s told. recorded (later told) s) s tolds

-- none of the replies is of this unique
abbrev pub AllOthers : ℕ → List Told → Type 0
AllOthers unique tolds = AllByRecursion (λ (told : Told). told.unique ≢ unique) tolds
