-- What the last lines of a history say of the order of a unique.
use Rattle.std.specs.Prelude.{ℕ, ◌+◌, ◌-◌, ◌==◌, Bool, true, false, List, length, drop, fold, if◌then◌else◌}
use Rattle.std.specs.List.{filter}
use Rattle.fl_history.specs.declared.history.Line.{Line}
use Rattle.fl_history.specs.declared.history.Line.TheVariants as line
use Rattle.fl_history.specs.declared.recent.Recalled.{Recalled}
use Rattle.fl_history.specs.declared.recent.Recalled.TheVariants as recall

-- the line is an order or a reply, and none of a head
abbrev pub is_spoken : Line → Bool
is_spoken (line.State state) = false
is_spoken _ = true

-- the orders and replies of lines, without the lines of heads
abbrev pub spoken : List Line → List Line
spoken lines = filter is_spoken lines

-- the last 65,536 orders and replies, or all if there are fewer
abbrev pub recent : List Line → List Line
recent lines = drop (length (spoken lines) - 65536) (spoken lines)

-- One line more asks for it. A reply before that is to an order of an earlier connection, which had the same unique.
abbrev pub with_ask : Recalled → Recalled
with_ask (recall.Asked count) = recall.Asked (count + 1)
with_ask (recall.Told told) = recall.Asked 1

-- what lines say of the order of this unique, with one line more
abbrev pub with_line : ℕ → Recalled → Line → Recalled
with_line unique before (line.Asked worker order) = if order.unique == unique then with_ask before else before
with_line unique before (line.Told told) = if told.unique == unique then recall.Told told else before
with_line unique before (line.State state) = before

-- What lines say of the order of this unique: its last reply, or how many lines ask for it behind the last reply to an
-- order that had its unique before.
abbrev pub recalled : ℕ → List Line → Recalled
recalled unique lines = fold (with_line unique) (recall.Asked 0) lines
