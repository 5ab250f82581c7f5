-- How locks stand in rows: one row of spans for each key that has a mark.
use Rattle.std.specs.Prelude.{◌≡◌, ◌≢◌, ℕ, ◌≤◌, Bool, true, List, [], ◌∷◌, map, if◌then◌else◌}
use Rattle.std.specs.List.{list_any, prefix_len, AllByRecursion}
use Rattle.std.specs.Ordering.{nat_cmp, ordering_then, is_lt, eq_by_cmp}
use Rattle.std.specs.declared.cmp.Ordering.{Ordering}
use Rattle.fl_spans.specs.Rows.{Row, RowChains, rows, chain_count, limit_of, run_count}
use Rattle.fl_spans.specs.declared.span.Span.{Span}
use Rattle.fl_spans.specs.Spans.{AreSpans}
use Rattle.fl_marks.specs.declared.lock.Key.{Key}
use Rattle.fl_marks.specs.declared.lock.Mark.{Mark}
use Rattle.fl_marks.specs.Marking.{class_number, key_cmp, Marking, marking_of}
use Rattle.fl_ranges.specs.Placing.{home}
use Rattle.fl_ranges.specs.Layout.{table_runs}
use Rattle.fl_ranges.specs.Setting.{meant}

-- a key with the spans of its marks
abbrev pub LockRow : Type 0
LockRow = Row Key (Span Mark)

-- what contracts see of all rows
abbrev pub LockRows : Type 0
LockRows = RowChains Key (Span Mark)

-- the marks that all runs give
abbrev pub row_marks : LockRows → Marking
row_marks v = marking_of (map meant (table_runs v))

-- keys by node, then class, then owner
abbrev pub place_cmp : Key → Key → Ordering
place_cmp a b =
    ordering_then
    (ordering_then (nat_cmp a.node b.node) (nat_cmp (class_number a.class) (class_number b.class)))
    (nat_cmp a.owner b.owner)

-- the row of the first of two keys stands before that of the other
abbrev pub key_precedes : Key → Key → Bool
key_precedes a b = is_lt (place_cmp a b)

-- each row stands before all later ones
abbrev pub AreInOrder : List LockRow → Type 0
AreInOrder [] = Unit {0}
AreInOrder (r ∷ rs) = AllByRecursion (λ x. key_precedes r.key x.key ≡ true) rs × AreInOrder rs

-- the spans of the key's row, and none if no row is the key's
abbrev pub spans_of : Key → List LockRow → List (Span Mark)
spans_of key [] = []
spans_of key (r ∷ rs) = if eq_by_cmp key_cmp r.key key then r.runs else spans_of key rs

-- how many rows stand before the place of the key's
abbrev pub row_index : Key → List LockRow → ℕ
row_index key rs = prefix_len (λ r. key_precedes r.key key) rs

-- some row is the key's
abbrev pub has_row : Key → List LockRow → Bool
has_row key rs = list_any (λ r. eq_by_cmp key_cmp r.key key) rs

-- a row of the key with these spans before others; none if there are no spans
abbrev pub row_before : Key → List (Span Mark) → List LockRow → List LockRow
row_before key [] rs = rs
row_before key (s ∷ ss) rs = record { key = key; runs = s ∷ ss } ∷ rs

-- rows in order, once the key's has these spans; it goes if these are none
abbrev pub given_spans : Key → List (Span Mark) → List LockRow → List LockRow
given_spans key ss [] = row_before key ss []
given_spans key ss (r ∷ rs) =
    if key_precedes r.key key then r ∷ given_spans key ss rs else
    if eq_by_cmp key_cmp r.key key then row_before key ss rs else row_before key ss (r ∷ rs)

-- the node of each row's key has this one of so many chains
abbrev pub AreOnChain : ℕ → ℕ → List LockRow → Type 0
AreOnChain chains c rs = AllByRecursion (λ r. home chains r.key.node ≡ c) rs

-- the rows of one of so many chains: each on its node's, in order, and each with spans, at least one
pub record AreLockRows (chains c : ℕ) (rs : List LockRow) : Type 0 where
  pub at_home : AreOnChain chains c rs
  pub in_order : AreInOrder rs
  pub spans : AllByRecursion (λ r. AreSpans r.runs) rs
  pub used : AllByRecursion (λ r. r.runs ≢ []) rs

-- so many chains of such rows, at least one, and room for as many runs as the limit, of which there are no more
pub record IsLockTable (v : LockRows) (limit chains : ℕ) : Type 0 where
  pub count : chain_count v ≡ chains
  pub some : 1 ≤ chains
  pub room : limit_of v ≡ limit
  pub small : limit ≤ 65536
  pub few : run_count v ≤ limit
  pub kept : (c : ℕ) → AreLockRows chains c (rows v c)
