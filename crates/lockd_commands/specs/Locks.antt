-- The list of locks after the lines of a trace.
pub mod Inside
use Rattle.std.specs.Prelude.{◌≡◌, ℕ, Bool, true, false, List, [], ◌∷◌, ◌++◌, codes, Option, Some, None}
use Rattle.std.specs.Borrow.{Bor}
use Rattle.std.specs.Str.{bytes_eq}
use Rattle.std.specs.List.{filter}
use Rattle.std.specs.Fmt.{decimal}
use Rattle.std.specs.Io.KnownBytes.{Appends}
use Rattle.fl_core.specs.State.{Snapshot}
use Rattle.fl_judge.specs.Verdicts.{DiffersAt}
use Rattle.fl_history.specs.declared.history.Line.{Line}
use Rattle.fl_audit.specs.First.{AreFirstLines, IsSoOfAll}
use Rattle.fl_judge.specs.Present.{HasPresent, IsPresent}
use Rattle.fl_locks.specs.Json.{json_text}
use Rattle.fl_locks.specs.LockRows.{linked_name, rows_of}
use Rattle.fl_locks.specs.Table.{table_text}
use Rattle.fl_locks.specs.declared.row.LockRow.{LockRow}
use Rattle.fl_waiting.specs.declared.rules.Rules.{Rules}
use Rattle.lockd_commands.specs.declared.locks.LocksOptions.{LocksOptions}
use Rattle.lockd_faults.specs.Faults.{IsBegun}

-- a file that may have a name has this one
abbrev pub is_called : List ℕ → Option (List ℕ) → Bool
is_called name None = false
is_called name (Some own) = bytes_eq own name

-- the rows of the file that has this name, or all rows if none is said
abbrev pub of_file : Option (Bor (List ℕ)) → List LockRow → List LockRow
of_file None rows = rows
of_file (Some name) rows = filter (λ row. is_called name.now (linked_name row)) rows

-- rows as a line of JSON, or as a table
abbrev pub rows_text : Bool → List LockRow → List ℕ
rows_text true rows = json_text rows
rows_text false rows = table_text rows

-- The first lines of all that was left to read, as many as are asked for, begin a legal history under these rules, and
-- this text lists the locks of what is there after them.
pub record AreListed (rules : Rules) (options : LocksOptions) (left : Option (List ℕ)) (text : List ℕ) : Type 0 where
  pub lines : List Line
  pub read : IsSoOfAll left (λ bytes. AreFirstLines options.at bytes lines)
  pub present : Snapshot
  pub after : IsPresent rules lines present
  pub listed : text ≡ rows_text options.json (of_file options.file (rows_of present))

-- they begin none, or end inside a head: this line is the first that breaks the rules, and this text says so
pub record AreDifferent (rules : Rules) (options : LocksOptions) (left : Option (List ℕ)) (text : List ℕ) : Type 0
  where
    pub lines : List Line
    pub read : IsSoOfAll left (λ bytes. AreFirstLines options.at bytes lines)
    pub none : HasPresent rules lines → ⊥
    pub line : ℕ
    pub differs : DiffersAt rules lines line
    pub said : text ≡ codes "differs " ++ (decimal line ++ 10 ∷ [])

-- the list was written
pub record IsListed (rules : Rules) (options : LocksOptions) (left old new : Option (List ℕ)) : Type 0 where
  pub text : List ℕ
  pub are : AreListed rules options left text
  pub written : Appends old new text

-- a beginning of the list was written
pub record IsListedInPart (rules : Rules) (options : LocksOptions) (left old new : Option (List ℕ)) : Type 0 where
  pub text : List ℕ
  pub are : AreListed rules options left text
  pub begun : IsBegun text old new

-- it was said, at least in part, that the lines begin no legal history
pub record IsToldDifferent (rules : Rules) (options : LocksOptions) (left old new : Option (List ℕ)) : Type 0 where
  pub text : List ℕ
  pub are : AreDifferent rules options left text
  pub begun : IsBegun text old new
