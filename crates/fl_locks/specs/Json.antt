-- The list of locks as a line of JSON (RFC 8259), without spaces.
use Rattle.std.specs.Prelude.{ℕ, Bool, if◌then◌else◌, List, [], ◌∷◌, ◌++◌, map, Option, Some, None, is_some, codes}
use Rattle.std.specs.List.{flat_map, join_with_byte}
use Rattle.std.specs.Fmt.{decimal}
use Rattle.fl_locks.specs.declared.row.Blocker.{Blocker}
use Rattle.fl_locks.specs.declared.row.LockRow.{LockRow}
use Rattle.fl_locks.specs.LockRows.{linked_name}
use Rattle.fl_locks.specs.Names.{hex_byte}
use Rattle.fl_locks.specs.Words.{class_word, kind_word}

-- a string; what stands in one here needs no escape
abbrev pub quoted : List ℕ → List ℕ
quoted text = 34 ∷ text ++ 34 ∷ []

-- a member of an object: its key, a colon and its value
abbrev pub member : List ℕ → List ℕ → List ℕ
member key value = quoted key ++ 58 ∷ value

-- members or values with commas between them
abbrev pub commas : List (List ℕ) → List ℕ
commas texts = join_with_byte 44 texts

-- an object of these members
abbrev pub object : List (List ℕ) → List ℕ
object members = 123 ∷ commas members ++ 125 ∷ []

-- an array of these values
abbrev pub array : List (List ℕ) → List ℕ
array values = 91 ∷ commas values ++ 93 ∷ []

-- true or false
abbrev pub bool_json : Bool → List ℕ
bool_json flag = if flag then codes "true" else codes "false"

-- the unique of a request that waits, null for a lock that is held
abbrev pub unique_json : Option ℕ → List ℕ
unique_json None = codes "null"
unique_json (Some unique) = decimal unique

-- a name in lower-case hex, null for a file that has none
abbrev pub name_json : Option (List ℕ) → List ℕ
name_json None = codes "null"
name_json (Some bytes) = quoted (flat_map hex_byte bytes)

-- one who is in the way
abbrev pub blocker_json : Blocker → List ℕ
blocker_json b = object (member (codes "owner") (decimal b.owner) ∷ member (codes "pid") (decimal b.pid) ∷ [])

-- which lock it is, and whether it waits
unfoldable pub lock_members : LockRow → List ℕ
lock_members row =
    commas (member (codes "type") (quoted (class_word row.key.class)) ∷
    member (codes "mode") (quoted (kind_word row.mark.kind)) ∷
    member (codes "waits") (bool_json (is_some row.unique)) ∷ [])

-- which bytes it is on, and whose it is
unfoldable pub range_members : LockRow → List ℕ
range_members row =
    commas (member (codes "start") (decimal row.start) ∷ member (codes "end") (decimal row.end) ∷
    member (codes "pid") (decimal row.mark.pid) ∷ member (codes "owner") (decimal row.key.owner) ∷ [])

-- which request it is, if it waits, and who is in its way
unfoldable pub waiting_members : LockRow → List ℕ
waiting_members row =
    commas (member (codes "unique") (unique_json row.unique) ∷
    member (codes "blockers") (array (map blocker_json row.blockers)) ∷ [])

-- on which file: its node, and the name that it has
unfoldable pub file_members : LockRow → List ℕ
file_members row =
    commas (member (codes "node") (decimal row.key.node) ∷ member (codes "name") (name_json (linked_name row)) ∷ [])

-- a lock that is held, or a request that waits
abbrev pub row_json : LockRow → List ℕ
row_json row = object (lock_members row ∷ range_members row ∷ waiting_members row ∷ file_members row ∷ [])

-- all rows, and a newline
abbrev pub json_text : List LockRow → List ℕ
json_text rows = array (map row_json rows) ++ 10 ∷ []
