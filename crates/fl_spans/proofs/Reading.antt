-- What the calls that only read find.
use Rattle.std.proofs.Common.{◌≡◌, ℕ, zero, suc, ◌+◌, ◌<◌, inl, inr, List, [], ◌∷◌, length, map, Option, Some, None}
use Rattle.std.proofs.Common.{◌-◌, IsSome, unwrap_or, slice_get, refl, sym, ap, ◌∙◌, subst, arith}
use Rattle.std.specs.Option.{option_map}
use Rattle.std.proofs.lemmas.Bool.{cases_lt}
use Rattle.std.proofs.lemmas.List.{length-map, get_or_past}
use Rattle.std.proofs.lemmas.List.Sums.{sum_by-set}
use Rattle.std.proofs.lemmas.Option.{none-some, slice_get-map}
use Rattle.fl_arena.specs.Chains.{Entry, Chains, entries, items, slot_at, item_count, free_count}
use Rattle.fl_arena.specs.Cursors.{cursor_at}
use Rattle.fl_arena.specs.declared.cursors.Cursor.{Cursor}
use Rattle.fl_spans.specs.declared.rows.Head.{Head}
use Rattle.fl_spans.specs.Rows.{RowChains, chain_count, rows, run_count, limit_of, keys, runs_at, number_at, run_cursor}
use Rattle.fl_spans.specs.Rows.{IsRow}
use Rattle.fl_spans.specs.Inside.Kept.{AreRows}
use Rattle.fl_spans.proofs.Values.{row_at, rows_are, chains_counted, runs_there, number_there, counted}

some_there : {X Y : Type 0} (f : X → Y) (xs : List X) (i : ℕ) (y : Y) → slice_get (map f xs) i ≡ Some y → (x : X) × (slice_get xs i ≡ Some x) × (f x ≡ y)
some_there f [] i y found = absurd (none-some y found)
some_there f (x ∷ xs) zero y found = (x, refl, cc)
some_there f (x ∷ xs) (suc i) y found = some_there f xs i y found

pub some_slot : (o : Option ℕ) → IsSome o → o ≡ Some (unwrap_or o 0)
some_slot None none = absurd (cc none)
some_slot (Some s) some = refl

pub some_entry : {X : Type 0} (xs : List X) (i : ℕ) → i < length xs → (x : X) × (slice_get xs i ≡ Some x)
some_entry [] i within = absurd (omega (arith, within))
some_entry (x ∷ xs) zero within = (x, refl)
some_entry (x ∷ xs) (suc i) within = some_entry xs i (omega (arith, within))

module _ {T : Type 0} where
  -- the entry of an item
  pub entry_there : (a : Chains T) (c i : ℕ) (x : T) → slice_get (items a c) i ≡ Some x →
      (e : Entry T) × (slice_get (entries a c) i ≡ Some e) × (e.item ≡ x)
  entry_there a c i x found = some_there (λ (e : Entry T). e.item) (entries a c) i x found

  -- a slot is at an index below its chain's length, and below the number of all items
  pub index_within : (a : Chains T) (c i slot : ℕ) → slot_at a c i ≡ Some slot → i < length (entries a c)
  index_within a c i slot found = go (entries a c) i found
    where
      go : (es : List (Entry T)) (k : ℕ) → option_map (λ e. e.slot) (slice_get es k) ≡ Some slot → k < length es
      go [] k none = absurd (none-some slot none)
      go (e ∷ es) zero some = omega arith
      go (e ∷ es) (suc k) some = omega (arith, go es k some)

  pub index_counted : (a : Chains T) (c i slot : ℕ) → slot_at a c i ≡ Some slot → i < item_count a
  index_counted a c i slot found =
      let less = index_within a c i slot found in
      elim (cases_lt c (length a.chains)) [
        | inl within ↦ omega (arith, less, sum_by-set length a.chains c [] [] within)
        | inr past ↦ absurd (omega (arith, less, ap length (get_or_past a.chains c [] past)))
      ]

module _ {K R : Type 0} (heads : Chains (Head K)) (runs : Chains R) (v : RowChains K R) (view : record { heads = heads; runs = runs } ≡ v) where
  -- a cursor at a row stands at its head
  pub at_head : (row : Cursor) → IsRow v row → row ≡ cursor_at heads row.chain row.index
  at_head row h = h.at ∙ ap (λ w. cursor_at w.heads row.chain row.index) (sym view)

  pub key_told : (row : Cursor) (h : Head K) → IsRow v row → slice_get (items heads row.chain) row.index ≡ Some h →
      Some h.key ≡ slice_get (keys (rows v row.chain)) row.index
  key_told row h is found =
      let there = entry_there heads row.chain row.index h found in
      let es = entries v.heads row.chain in
      let read : slice_get es row.index ≡ Some there.0 = ap (λ w. slice_get (entries w.heads row.chain) row.index) (sym view) ∙ there.1 in
      sym (ap (λ rs. slice_get (keys rs) row.index) (rows_are v row.chain is.chain)
      ∙ slice_get-map (λ r. r.key) (map (row_at v.runs) es) row.index
      ∙ ap (option_map (λ r. r.key)) (slice_get-map (row_at v.runs) es row.index)
      ∙ ap (λ o. option_map (λ r. r.key) (option_map (row_at v.runs) o)) read
      ∙ ap (λ x. Some x.key) there.2)

  -- the chain of the runs of a row
  pub number_is : (row : Cursor) (h : Head K) → slice_get (items heads row.chain) row.index ≡ Some h →
      number_at (entries v.heads row.chain) row.index ≡ h.runs
  number_is row h found =
      let there = entry_there heads row.chain row.index h found in
      number_there (entries v.heads row.chain) row.index there.0 (ap (λ w. slice_get (entries w.heads row.chain) row.index) (sym view) ∙ there.1)
      ∙ ap (λ x. x.runs) there.2

  pub first_told : (row at : Cursor) (h : Head K) (number : ℕ) → slice_get (items heads row.chain) row.index ≡ Some h → number ≡ h.runs →
      at ≡ cursor_at runs number 0 → at ≡ run_cursor v row.chain row.index 0
  first_told row at h number found is first =
      first
      ∙ ap (λ k. cursor_at runs k 0) (is ∙ sym (number_is row h found))
      ∙ ap (λ w. cursor_at w.runs (number_at (entries v.heads row.chain) row.index) 0) view

  pub last_told : (row at : Cursor) (h : Head K) (number : ℕ) → IsRow v row → slice_get (items heads row.chain) row.index ≡ Some h →
      number ≡ h.runs → at ≡ cursor_at runs number (length (entries runs number) - 1) →
      at ≡ run_cursor v row.chain row.index (length (runs_at (rows v row.chain) row.index) - 1)
  last_told row at h number is found named last =
      let es = entries v.heads row.chain in
      let there = entry_there heads row.chain row.index h found in
      let read : slice_get es row.index ≡ Some there.0 = ap (λ w. slice_get (entries w.heads row.chain) row.index) (sym view) ∙ there.1 in
      let own : number ≡ number_at es row.index = named ∙ sym (number_is row h found) in
      let its : runs_at (rows v row.chain) row.index ≡ items v.runs (number_at es row.index) =
      ap (λ rs. runs_at rs row.index) (rows_are v row.chain is.chain) ∙ runs_there v.runs es row.index there.0 read in
      let long : length (runs_at (rows v row.chain) row.index) ≡ length (entries v.runs (number_at es row.index)) =
      ap length its ∙ length-map (entries v.runs (number_at es row.index)) (λ (e : Entry R). e.item) in
      last
      ∙ ap (λ k. cursor_at runs k (length (entries runs k) - 1)) own
      ∙ ap (λ w. cursor_at w.runs (number_at es row.index) (length (entries w.runs (number_at es row.index)) - 1)) view
      ∙ ap (λ n. run_cursor v row.chain row.index (n - 1)) (sym long)

  pub run_told : (run : Cursor) (o : Option R) → ((c i : ℕ) → run ≡ cursor_at runs c i → o ≡ slice_get (items runs c) i) → (c i j : ℕ) → c < chain_count v →
      i < length (rows v c) → run ≡ run_cursor v c i j → o ≡ slice_get (runs_at (rows v c) i) j
  run_told run o told c i j in_chains within at =
      let es = entries v.heads c in
      let long : length (rows v c) ≡ length es = ap length (rows_are v c in_chains) ∙ length-map es (row_at v.runs) in
      let there = some_entry es i (omega (arith, long, within)) in
      told (number_at es i) j (at ∙ ap (λ w. cursor_at w.runs (number_at es i) j) (sym view))
      ∙ ap (λ w. slice_get (items w.runs (number_at es i)) j) view
      ∙ ap (λ xs. slice_get xs j) (sym (ap (λ rs. runs_at rs i) (rows_are v c in_chains) ∙ runs_there v.runs es i there.0 there.1))

  pub chains_told : (n : ℕ) → AreRows heads runs n → n ≡ chain_count v
  chains_told n h =
      let long = h.kept.chains in
      subst (λ w. n ≡ chain_count w) view (omega (arith, long, chains_counted (record { heads = heads; runs = runs })))

  pub free_told : (n free : ℕ) → AreRows heads runs n → item_count runs + free ≡ runs.slots → run_count v + free ≡ limit_of v
  free_told n free h total =
      subst (λ w. run_count w + free ≡ limit_of w) view (ap (λ k. k + free) (counted heads runs n h) ∙ total)

  pub head_placed : (c i slot : ℕ) → slot_at heads c i ≡ Some slot → c < chain_count v → i < length (rows v c)
  head_placed c i slot found in_chains =
      let long : length (rows v c) ≡ length (entries v.heads c) = ap length (rows_are v c in_chains) ∙ length-map (entries v.heads c) (row_at v.runs) in
      let same : length (entries heads c) ≡ length (entries v.heads c) = ap (λ w. length (entries w.heads c)) view in
      omega (arith, index_within heads c i slot found, long, same)

  -- a cursor with a slot stands at a row
  pub row_there : (row : Cursor) → IsRow v row → IsSome row.slot → row.index < length (rows v row.chain)
  row_there row is some = head_placed row.chain row.index (unwrap_or row.slot 0) (sym (ap (λ x. x.slot) (at_head row is)) ∙ some_slot row.slot some) is.chain

  pub run_placed : (n c i slot : ℕ) → AreRows heads runs n → slot_at runs c i ≡ Some slot → i < run_count v
  run_placed n c i slot h found =
      subst (λ w. i < run_count w) view (omega (arith, index_counted runs c i slot found, counted heads runs n h))

  pub run_free : (n : ℕ) → AreRows heads runs n → 0 < free_count runs → run_count v < limit_of v
  run_free n h some = subst (λ w. run_count w < limit_of w) view (omega (arith, some, counted heads runs n h))
