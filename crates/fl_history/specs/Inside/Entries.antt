-- What is kept of a line, to recall what lines say of a unique.
use Rattle.std.specs.Prelude.{ℕ, ◌-◌, ◌==◌, if◌then◌else◌, List, Option, None, Some, drop, length}
use Rattle.std.specs.List.{filter_map}
use Rattle.fl_history.specs.Recent.{with_ask}
use Rattle.fl_history.specs.declared.history.Line.{Line}
use Rattle.fl_history.specs.declared.history.Line.TheVariants as line
use Rattle.fl_history.specs.declared.recent.Entry.{Entry}
use Rattle.fl_history.specs.declared.recent.Entry.TheVariants as entry
use Rattle.fl_history.specs.declared.recent.Recalled.{Recalled}
use Rattle.fl_history.specs.declared.recent.Recalled.TheVariants as recall

-- what is kept of a line; nothing of one of a head
abbrev pub entry_of : Line → Option Entry
entry_of (line.Asked worker order) = Some (entry.Asked order.unique)
entry_of (line.Told told) = Some (entry.Told told)
entry_of (line.State state) = None

-- what is kept of lines
abbrev pub entries_of : List Line → List Entry
entries_of lines = filter_map entry_of lines

-- the last of these, as many as are kept of lines
abbrev pub last_kept : List Entry → List Entry
last_kept entries = drop (length entries - 65536) entries

-- what lines say of the order of this unique, with one of which this is kept
abbrev pub recalled_by : ℕ → Recalled → Entry → Recalled
recalled_by unique before (entry.Asked asked) = if asked == unique then with_ask before else before
recalled_by unique before (entry.Told told) = if told.unique == unique then recall.Told told else before

-- how many asks these are
abbrev pub asks_of : Recalled → ℕ
asks_of (recall.Asked count) = count
asks_of (recall.Told told) = 0
