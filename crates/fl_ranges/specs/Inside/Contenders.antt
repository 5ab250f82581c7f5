-- Which rows a walk for conflicts goes along: those of one class and node, which stand one after another.
use Rattle.std.specs.Prelude.{ℕ, Bool, ◌&&◌, ◌||◌, ◌==◌, nat_lt, Option, Some, None, List, [], ◌∷◌, if◌then◌else◌}
use Rattle.fl_spans.specs.declared.span.Span.{Span}
use Rattle.fl_marks.specs.declared.lock.Key.{Key}
use Rattle.fl_marks.specs.declared.lock.Kind.{Kind}
use Rattle.fl_marks.specs.declared.lock.Mark.{Mark}
use Rattle.fl_marks.specs.Marking.{class_number}
use Rattle.fl_marks.specs.Blocker.{of_owner}
use Rattle.fl_ranges.specs.Inside.RunList.{run_conflicts}
use Rattle.fl_ranges.specs.Inside.LockRows.{LockRow}
use Rattle.fl_ranges.specs.Layout.{run_of}

-- two keys of one class and node
abbrev pub are_kin : Key → Key → Bool
are_kin a b = (class_number a.class == class_number b.class) && (a.node == b.node)

-- the first of two keys is of a lower node, or of the same node and a lower class
abbrev pub is_earlier : Key → Key → Bool
is_earlier a b = nat_lt a.node b.node || ((a.node == b.node) && nat_lt (class_number a.class) (class_number b.class))

-- the rows from the first that isn't earlier than the key
abbrev pub rows_from : Key → List LockRow → List LockRow
rows_from key [] = []
rows_from key (r ∷ rs) = if is_earlier r.key key then rows_from key rs else r ∷ rs

-- the rows of the key's class and node, up to the first of another one
abbrev pub class_rows : Key → List LockRow → List LockRow
class_rows key [] = []
class_rows key (r ∷ rs) = if are_kin key r.key then r ∷ class_rows key rs else []

-- the owner of a row's key, if that is of the key's class and node
abbrev pub kin_owner : Key → Option Key → Option ℕ
kin_owner key None = None
kin_owner key (Some other) = if are_kin key other then Some other.owner else None

-- a span of this owner, of the key's class and node, conflicts with a lock of this kind, by the key, from start to end
abbrev pub span_conflicts : Key → ℕ → ℕ → ℕ → Kind → Span Mark → Bool
span_conflicts key owner start end kind s = run_conflicts key start end kind (run_of (of_owner key owner) s)
