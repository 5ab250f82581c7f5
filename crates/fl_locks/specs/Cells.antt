-- What stands in each column of the table of locks.
use Rattle.std.specs.Prelude.{ℕ, ◌==◌, Bool, true, false, if◌then◌else◌, List, [], ◌∷◌, ◌++◌, map, codes}
use Rattle.std.specs.Prelude.{Option, Some, None}
use Rattle.std.specs.List.{join_with_byte}
use Rattle.std.specs.Fmt.{decimal}
use Rattle.fl_locks.specs.declared.row.Blocker.{Blocker}
use Rattle.fl_locks.specs.declared.row.LockRow.{LockRow}
use Rattle.fl_locks.specs.Names.{name_text}
use Rattle.fl_locks.specs.Words.{class_word, kind_word}
use Rattle.fl_locks.specs.declared.cell.Column.{Column}
use Rattle.fl_locks.specs.declared.cell.Column.TheVariants as column

-- the last byte that is locked, or EOF for the last one that there can be, 2^63 - 1
abbrev pub end_text : ℕ → List ℕ
end_text end = if end == 9223372036854775807 then codes "EOF" else decimal end

-- a star behind the mode of a request that waits
abbrev pub star : Option ℕ → List ℕ
star None = []
star (Some unique) = codes "*"

-- the unique of a request that waits, a dash for a lock that is held
abbrev pub unique_text : Option ℕ → List ℕ
unique_text None = codes "-"
unique_text (Some unique) = decimal unique

-- the pids of those in the way, with commas between them, or a dash if there are none
abbrev pub pids_text : List Blocker → List ℕ
pids_text [] = codes "-"
pids_text (blocker ∷ more) = join_with_byte 44 (map (λ b. decimal b.pid) (blocker ∷ more))

-- the name that the file was made under; ` (deleted)` behind it says that the file has it no more
abbrev pub file_text : LockRow → List ℕ
file_text row = name_text row.name ++ (if row.linked then [] else codes " (deleted)")

-- the word at the top of a column
abbrev pub heading : Column → List ℕ
heading column.Type = codes "TYPE"
heading column.Mode = codes "MODE"
heading column.Start = codes "START"
heading column.End = codes "END"
heading column.Pid = codes "PID"
heading column.Owner = codes "OWNER"
heading column.Unique = codes "UNIQUE"
heading column.Blocker = codes "BLOCKER"
heading column.File = codes "FILE"

-- what a row has in a column
abbrev pub cell_text : Column → LockRow → List ℕ
cell_text column.Type row = class_word row.key.class
cell_text column.Mode row = kind_word row.mark.kind ++ star row.unique
cell_text column.Start row = decimal row.start
cell_text column.End row = end_text row.end
cell_text column.Pid row = decimal row.mark.pid
cell_text column.Owner row = decimal row.key.owner
cell_text column.Unique row = unique_text row.unique
cell_text column.Blocker row = pids_text row.blockers
cell_text column.File row = file_text row

-- a column of numbers stands right-aligned, any other left-aligned
abbrev pub is_right : Column → Bool
is_right column.Start = true
is_right column.End = true
is_right column.Pid = true
is_right column.Owner = true
is_right column.Unique = true
is_right other = false
