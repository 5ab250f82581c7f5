-- What contracts see of rows: for each chain a list of rows, each a key with its runs.
use Rattle.std.specs.Prelude.{◌≡◌, ℕ, zero, suc, ◌+◌, ◌-◌, ◌≤◌, ◌<◌, List, [], ◌∷◌, ◌++◌, map, length}
use Rattle.std.specs.Prelude.{take, drop, sum_by, Option, Some}
use Rattle.std.specs.Prelude.{None, slice_index_or}
use Rattle.fl_arena.specs.Chains.{Entry, Chains, entries, items, IsLinked}
use Rattle.fl_arena.specs.Cursors.{cursor_at}
use Rattle.fl_arena.specs.declared.cursors.Cursor.{Cursor}
use Rattle.fl_spans.specs.declared.rows.Head.{Head}
use Rattle.fl_spans.specs.declared.rows.Pieces.{Pieces}

-- a key with its runs, in order
pub record Row (K R : Type 0) : Type 0 where
  pub key : K
  pub runs : List R

-- the heads of the rows, of which those on the last chain have none, and the runs on the chains that heads name
pub record RowChains (K R : Type 0) : Type 0 where
  pub heads : Chains (Head K)
  pub runs : Chains R

module _ {K : Type 0} where
  -- the number of the chain that has the runs of a row
  abbrev pub number_at : List (Entry (Head K)) → ℕ → ℕ
  number_at [] i = 0
  number_at (e ∷ es) zero = e.item.runs
  number_at (e ∷ es) (suc i) = number_at es i

module _ {K R : Type 0} where
  -- the row of a head
  abbrev pub row_of : Chains R → Head K → Row K R
  row_of runs head = record { key = head.key; runs = items runs head.runs }

  -- the rows of each chain, in order
  abbrev pub row_lists : RowChains K R → List (List (Row K R))
  row_lists v = map (λ es. map (λ e. row_of v.runs e.item) es) (take (length v.heads.chains - 1) v.heads.chains)

  -- how many chains of rows there are
  abbrev pub chain_count : RowChains K R → ℕ
  chain_count v = length (row_lists v)

  -- the rows of a chain
  abbrev pub rows : RowChains K R → ℕ → List (Row K R)
  rows v c = slice_index_or (row_lists v) c []

  -- how many runs there is room for
  abbrev pub limit_of : RowChains K R → ℕ
  limit_of v = v.runs.slots

  -- how many runs there are
  abbrev pub run_count : RowChains K R → ℕ
  run_count v = sum_by (λ rs. sum_by (λ r. length r.runs) rs) (row_lists v)

  -- the keys of rows
  abbrev pub keys : List (Row K R) → List K
  keys rs = map (λ r. r.key) rs

  -- the runs of the row at an index
  abbrev pub runs_at : List (Row K R) → ℕ → List R
  runs_at [] i = []
  runs_at (r ∷ rs) zero = r.runs
  runs_at (r ∷ rs) (suc i) = runs_at rs i

  -- the rows once the one at an index has this key
  abbrev pub with_key : List (Row K R) → ℕ → K → List (Row K R)
  with_key [] i key = []
  with_key (r ∷ rs) zero key = record r { key = key } ∷ rs
  with_key (r ∷ rs) (suc i) key = r ∷ with_key rs i key

  -- the rows once the one at an index has these runs; it goes if these are none
  abbrev pub with_runs : List (Row K R) → ℕ → List R → List (Row K R)
  with_runs [] i runs = []
  with_runs (r ∷ rs) zero [] = rs
  with_runs (r ∷ rs) zero (x ∷ xs) = record r { runs = x ∷ xs } ∷ rs
  with_runs (r ∷ rs) (suc i) runs = r ∷ with_runs rs i runs

  -- the cursor at a row of a chain, or at the chain's end
  abbrev pub row_cursor : RowChains K R → ℕ → ℕ → Cursor
  row_cursor v c i = cursor_at v.heads c i

  -- the cursor at a run of a row of a chain, or at the row's end
  abbrev pub run_cursor : RowChains K R → ℕ → ℕ → ℕ → Cursor
  run_cursor v c i j = cursor_at v.runs (number_at (entries v.heads c) i) j

  -- there are as many chains of rows, and there is room for as many runs
  pub record HasRoomOf (old new : RowChains K R) : Type 0 where
    pub chains : chain_count new ≡ chain_count old
    pub limit : limit_of new ≡ limit_of old

  -- the cursor stands at a row, or at the end of the rows, of the chain that it names
  pub record IsRow (v : RowChains K R) (row : Cursor) : Type 0 where
    pub chain : row.chain < chain_count v
    pub at : row ≡ row_cursor v row.chain row.index
    pub within : row.index ≤ length (rows v row.chain)

  -- in both arenas no slot is linked twice, and none is free while it is linked
  pub record AreLinked (v : RowChains K R) : Type 0 where
    pub heads : IsLinked v.heads
    pub runs : IsLinked v.runs

module _ {R : Type 0} where
  -- a list of the item that there is, or of none
  abbrev pub listed : Option R → List R
  listed None = []
  listed (Some x) = x ∷ []

  -- what is put in, in order
  abbrev pub pieces_of : Pieces R → List R
  pieces_of p = listed p.before ++ (listed p.new ++ listed p.after)

  -- the runs once so many from an index on have been taken out, and others put in there
  abbrev pub spliced : List R → ℕ → ℕ → List R → List R
  spliced runs j taken new = take j runs ++ (new ++ drop (j + taken) runs)
