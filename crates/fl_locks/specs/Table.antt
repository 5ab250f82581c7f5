-- The table of locks: a line of headings, then a line for each row.
use Rattle.std.specs.Prelude.{ℕ, ◌-◌, max, Bool, true, false, List, [], ◌∷◌, ◌++◌, length, map, replicate}
use Rattle.std.specs.List.{flat_map}
use Rattle.fl_locks.specs.declared.row.LockRow.{LockRow}
use Rattle.fl_locks.specs.Cells.{heading, cell_text, is_right}
use Rattle.fl_locks.specs.declared.cell.Column.{Column}
use Rattle.fl_locks.specs.declared.cell.Column.TheVariants as column
use Rattle.fl_locks.specs.declared.table.SizedColumn.{SizedColumn}

-- the length of the longest of some texts
abbrev pub longest : List (List ℕ) → ℕ
longest [] = 0
longest (text ∷ texts) = max (length text) (longest texts)

-- a column is as wide as its heading and its widest cell
abbrev pub width_of : List LockRow → Column → ℕ
width_of rows column = longest (heading column ∷ map (cell_text column) rows)

-- all columns but the last, which is the file
unfoldable pub inner_columns : List Column
inner_columns =
    column.Type ∷ column.Mode ∷ column.Start ∷ column.End ∷ column.Pid ∷ column.Owner ∷ column.Unique ∷ column.Blocker
    ∷ []

-- these columns with their widths
abbrev pub sized_columns : List LockRow → List SizedColumn
sized_columns rows = map (λ column. record { column = column; width = width_of rows column }) inner_columns

-- a text in so much room, at the right of it or else at the left
abbrev pub aligned : Bool → ℕ → List ℕ → List ℕ
aligned true width text = replicate (width - length text) 32 ++ text
aligned false width text = text ++ replicate (width - length text) 32

-- a cell as wide as its column, and the space behind it
abbrev pub inner_text : (Column → List ℕ) → SizedColumn → List ℕ
inner_text text sized = aligned (is_right sized.column) sized.width (text sized.column) ++ 32 ∷ []

-- a line: a text for each column, and a newline at the end
abbrev pub line_text : List SizedColumn → (Column → List ℕ) → List ℕ
line_text columns text = flat_map (inner_text text) columns ++ (text column.File ++ 10 ∷ [])

-- the whole table
abbrev pub table_text : List LockRow → List ℕ
table_text rows =
    line_text (sized_columns rows) heading
    ++ flat_map (λ row. line_text (sized_columns rows) (λ column. cell_text column row)) rows
