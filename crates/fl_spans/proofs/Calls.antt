-- Each call that changes rows, from what it read to what it wrote.
use Rattle.std.proofs.Common.{◌≡◌, ◌≢◌, ℕ, zero, suc, ◌+◌, ◌-◌, ◌<◌, ◌≤◌, List, [], ◌∷◌, ◌++◌, length, set, map, take}
use Rattle.std.proofs.Common.{drop, get_or, sum_by, Some, None}
use Rattle.std.proofs.Common.{is_some, IsSome, true, slice_get, refl, sym, ap, ◌∙◌, subst, inl, inr, arith, cond, ◌==◌}
use Rattle.std.proofs.Common.{unwrap_or}
use Rattle.std.specs.List.{insert, remove, AllByRecursion}
use Rattle.std.specs.Option.{option_map}
use Rattle.std.proofs.lemmas.Bool.{cases_eq, cases_lt}
use Rattle.std.proofs.lemmas.List.{length-map, length-set, get_or-set_same, get_or-set_other}
use Rattle.std.proofs.lemmas.List.Edits.{length-remove, length-insert}
use Rattle.std.proofs.lemmas.List.Sums.{sum_by-set}
use Rattle.std.proofs.lemmas.Option.{none-some, slice_get_within, slice_get_past, get_or_from_slice_get}
use Rattle.fl_arena.specs.Chains.{Entry, Chains, entries, items, slot_at, item_count, with_entries, HasSizeOf}
use Rattle.fl_arena.specs.Cursors.{cursor_at, index_of, with_item, without, Shifts}
use Rattle.fl_arena.specs.declared.cursors.Cursor.{Cursor}
use Rattle.fl_spans.specs.declared.rows.Head.{Head}
use Rattle.fl_spans.specs.Rows.{Row, row_cursor, limit_of, row_lists, rows, runs_at, with_runs, IsRow, run_cursor}
use Rattle.fl_spans.specs.Rows.{RowChains, with_key, number_at, HasRoomOf}
use Rattle.fl_spans.specs.Inside.Kept.{has_number, runs_of, AreRows}
use Rattle.fl_spans.proofs.Lists.{each_at}
use Rattle.fl_spans.proofs.Weights.{moved_over, count_changed}
use Rattle.fl_spans.proofs.Kept.{chain_within}
use Rattle.fl_spans.proofs.Values.{row_at, rows_at, rows_are, rows_set, chains_counted, none_unused, number_there}
use Rattle.fl_spans.proofs.Values.{runs_there, set_runs, with_some, with_none, remove_set}
use Rattle.fl_spans.proofs.Reading.{some_entry, entry_there}
use Rattle.fl_spans.proofs.RowChanges.{row_added, rows_added}

module _ {T : Type 0} where
  -- the cursor at an index stands at that index
  pub index_at : (a : Chains T) (c i : ℕ) → i ≤ length (entries a c) → index_of a (cursor_at a c i) ≡ i
  index_at a c i within =
      elim (cases_lt i (length (entries a c))) [
        | inl less ↦
            let there = some_entry (entries a c) i less in
            rw (ap (option_map (λ (e : Entry T). e.slot)) there.1) refl
        | inr past ↦
            rw (ap (option_map (λ (e : Entry T). e.slot)) (slice_get_past (entries a c) i past)) (omega (arith, within, past))
      ]

  -- the chains after a shift
  pub shifted_is : (old new : Chains T) (from to : Cursor) (d k : ℕ) (s : Shifts old new from to) → to ≡ cursor_at old d k → k ≤ length (entries old d) →
      new ≡ moved_over old from.chain from.index d k s.moved
  shifted_is old new from to d k s at within =
      let chain : to.chain ≡ d = ap (λ (x : Cursor). x.chain) at in
      let index : index_of old to ≡ k = ap (index_of old) at ∙ index_at old d k within in
      s.chains ∙ (λ t. with_entries (without old from.chain from.index) (chain t) (insert (entries old (chain t)) (index t) s.moved))

  -- a chain without items has no entries
  pub no_entries : (a : Chains T) (c : ℕ) → items a c ≡ [] → entries a c ≡ []
  no_entries a c none = go (entries a c) none
    where
      go : (es : List (Entry T)) → map (λ e. e.item) es ≡ [] → es ≡ []
      go [] is = refl
      go (e ∷ es) is = absurd (cc is)

  pub has_first : (a : Chains T) (c : ℕ) → is_some (slot_at a c 0) ≡ true → entries a c ≢ []
  has_first a c some none = cc (sym some ∙ ap (λ (es : List (Entry T)). is_some (option_map (λ (e : Entry T). e.slot) (slice_get es 0))) none)

  pub some_entries : (a : Chains T) (c : ℕ) (x : T) (xs : List T) → items a c ≡ x ∷ xs → entries a c ≢ []
  some_entries a c x xs is none = absurd (cc (sym is ∙ ap (map (λ (e : Entry T). e.item)) none))

module _ {X : Type 0} where
  long_cut : (xs : List X) (i k : ℕ) → i ≤ k → k ≤ length xs → length (take i xs ++ drop k xs) + k ≡ length xs + i
  long_cut xs zero k less within = go xs k within
    where
      go : (ys : List X) (j : ℕ) → j ≤ length ys → length (drop j ys) + j ≡ length ys + 0
      go ys zero fits = omega arith
      go [] (suc j) fits = absurd (omega (arith, fits))
      go (y ∷ ys) (suc j) fits = omega (arith, go ys j (omega (arith, fits)))
  long_cut xs (suc i) zero less within = absurd (omega (arith, less))
  long_cut [] (suc i) (suc k) less within = absurd (omega (arith, within))
  long_cut (x ∷ xs) (suc i) (suc k) less within = omega (arith, long_cut xs i k (omega (arith, less)) (omega (arith, within)))

  pub take_cut : (xs zs : List X) (j : ℕ) → j ≤ length xs → take j (take j xs ++ zs) ≡ take j xs
  take_cut xs zs zero fits = refl
  take_cut [] zs (suc j) fits = absurd (omega (arith, fits))
  take_cut (x ∷ xs) zs (suc j) fits = ap (λ l. x ∷ l) (take_cut xs zs j (omega (arith, fits)))

  pub drop_cut : (xs zs : List X) (j : ℕ) → j ≤ length xs → drop j (take j xs ++ zs) ≡ zs
  drop_cut xs zs zero fits = refl
  drop_cut [] zs (suc j) fits = absurd (omega (arith, fits))
  drop_cut (x ∷ xs) zs (suc j) fits = drop_cut xs zs j (omega (arith, fits))

  pub long_take : (xs zs : List X) (j : ℕ) → j ≤ length xs → j ≤ length (take j xs ++ zs)
  long_take xs zs zero fits = omega arith
  long_take [] zs (suc j) fits = absurd (omega (arith, fits))
  long_take (x ∷ xs) zs (suc j) fits = omega (arith, long_take xs zs j (omega (arith, fits)))

-- so many fewer items
pub fewer : {T : Type 0} (old new : Chains T) (c i t : ℕ) → c < length old.chains → HasSizeOf old new → ((d : ℕ) → d ≢ c → entries new d ≡ entries old d) →
    items new c ≡ take i (items old c) ++ drop (i + t) (items old c) → i + t ≤ length (items old c) → item_count new + t ≡ item_count old
fewer {T} old new c i t in_c size others is fits =
    let item : Entry T → T = λ e. e.item in
    omega (
      arith,
      count_changed old new c in_c size others,
      long_cut (items old c) i (i + t) (omega arith) fits,
      ap length is,
      length-map (entries old c) item,
      length-map (entries new c) item,
    )

module _ {K R : Type 0} (heads : Chains (Head K)) (runs : Chains R) (n : ℕ) (h : AreRows heads runs n) where
  -- a row stands before the chain of unused heads
  pub row_before : (row : Cursor) → IsRow (record { heads = heads; runs = runs }) row → row.chain < n
  row_before row is =
      let count = chains_counted (record { heads = heads; runs = runs }) in
      omega (arith, is.chain, count, h.kept.chains)

  pub row_fits : (row : Cursor) → IsRow (record { heads = heads; runs = runs }) row → row.index ≤ length (entries heads row.chain)
  row_fits row is =
      omega (
        arith,
        is.within,
        ap length (rows_are (record { heads = heads; runs = runs }) row.chain is.chain),
        length-map (entries heads row.chain) (row_at {K = K} runs),
      )

take_set : {X : Type 0} (xs : List X) (n : ℕ) (y : X) → take n (set xs n y) ≡ take n xs
take_set xs zero y = refl
take_set [] (suc n) y = refl
take_set (x ∷ xs) (suc n) y = ap (λ l. x ∷ l) (take_set xs n y)

module _ {K : Type 0} where
  set_weight : (f : List (Entry (Head K)) → ℕ) (heads : Chains (Head K)) (n : ℕ) (es : List (Entry (Head K))) → n < length heads.chains →
      f es ≡ f (entries heads n) → sum_by f (with_entries heads n es).chains ≡ sum_by f heads.chains
  set_weight f heads n es within same = omega (arith, sum_by-set f heads.chains n es [] within, same)

  list_weight : (w : Entry (Head K) → ℕ) (es : List (Entry (Head K))) (i : ℕ) (e f : Entry (Head K)) → slice_get es i ≡ Some e → w f ≡ w e →
      sum_by w (set es i f) ≡ sum_by w es
  list_weight w es i e f found same =
      omega (arith, sum_by-set w es i f e (slice_get_within es i e found), ap w (get_or_from_slice_get es i e e found), same)

  each_set : (P : Entry (Head K) → Type 0) (es : List (Entry (Head K))) (i : ℕ) (f : Entry (Head K)) → AllByRecursion P es → P f →
      AllByRecursion P (set es i f)
  each_set P [] i f each it = tt
  each_set P (e ∷ es) zero f each it = (it, each.1)
  each_set P (e ∷ es) (suc i) f each it = (each.0, each_set P es i f each.1 it)

-- a head gets another key
module _ {K R : Type 0} (heads : Chains (Head K)) (runs : Chains R) (n c i : ℕ) (e f : Entry (Head K)) (h : AreRows heads runs n)
    (found : slice_get (entries heads c) i ≡ Some e) (same : f.item.runs ≡ e.item.runs) where
  set_here : entries (with_entries heads c (set (entries heads c) i f)) c ≡ set (entries heads c) i f
  set_here = get_or-set_same heads.chains c (set (entries heads c) i f) [] (chain_within heads c i e found)

  set_there : (b : ℕ) → b ≢ c → entries (with_entries heads c (set (entries heads c) i f)) b ≡ entries heads b
  set_there b apart = get_or-set_other heads.chains c b (set (entries heads c) i f) [] apart

  pub new_head : slice_get (entries (with_entries heads c (set (entries heads c) i f)) c) i ≡ Some f
  new_head = ap (λ es. slice_get es i) set_here ∙ at_index (entries heads c) i found
    where
      at_index : (es : List (Entry (Head K))) (k : ℕ) → slice_get es k ≡ Some e → slice_get (set es k f) k ≡ Some f
      at_index [] k none = absurd (none-some e none)
      at_index (x ∷ es) zero some = refl
      at_index (x ∷ es) (suc k) some = at_index es k some

  -- what depends on a head's number alone holds as before
  at_each : (P : ℕ → Type 0) (b : ℕ) → AllByRecursion (λ x. P x.item.runs) (entries heads b) →
      AllByRecursion (λ x. P x.item.runs) (entries (with_entries heads c (set (entries heads c) i f)) b)
  at_each P b each =
      elim (cases_eq b c) [
        | inl here ↦
            let was : AllByRecursion (λ x. P x.item.runs) (entries heads c) = subst (λ k. AllByRecursion (λ x. P x.item.runs) (entries heads k)) here each in
            rw here (rw set_here (each_set (λ x. P x.item.runs) (entries heads c) i f was
            (rw same (each_at (λ x. P x.item.runs) (entries heads c) i e was found))))
        | inr there ↦ rw (set_there b there) each
      ]

  pub key_kept : AreRows (with_entries heads c (set (entries heads c) i f)) runs n
  key_kept =
      let in_c = chain_within heads c i e found in
      record {
        kept = record {
          chains = length-set heads.chains c (set (entries heads c) i f) ∙ h.kept.chains;
          few_chains = h.kept.few_chains;
          count = set_weight length heads c (set (entries heads c) i f) in_c (length-set (entries heads c) i f) ∙ h.kept.count;
          slots = h.kept.slots;
          numbers = h.kept.numbers;
          small = h.kept.small;
          once = λ k less.
              set_weight (λ es. sum_by (has_number k) es) heads c (set (entries heads c) i f) in_c
              (list_weight (has_number k) (entries heads c) i e f found (ap (λ m. cond (m == k) 1 0) same))
              ∙ h.kept.once k less;
          named = λ b. at_each (λ m. m < runs.slots) b (h.kept.named b);
          all =
              set_weight (λ es. sum_by (runs_of runs) es) heads c (set (entries heads c) i f) in_c
              (list_weight (runs_of runs) (entries heads c) i e f found (ap (λ m. length (entries runs m)) same))
              ∙ h.kept.all;
        };
        used = λ b less. at_each (λ m. entries runs m ≢ []) b (h.used b less);
        spare = at_each (λ m. entries runs m ≡ []) n h.spare;
      }

  -- an unused head's key is seen by nobody
  same_rows : c ≡ n → row_lists (record { heads = with_entries heads c (set (entries heads c) i f); runs = runs })
      ≡ row_lists (record { heads = heads; runs = runs })
  same_rows last =
      let first : length (set heads.chains c (set (entries heads c) i f)) - 1 ≡ c =
      omega (arith, length-set heads.chains c (set (entries heads c) i f), h.kept.chains, last) in
      let second : c ≡ length heads.chains - 1 = omega (arith, h.kept.chains, last) in
      ap (λ k. map (λ es. map (row_at runs) es) (take k (set heads.chains c (set (entries heads c) i f)))) first
      ∙ ap (map (λ es. map (row_at runs) es)) (take_set heads.chains c (set (entries heads c) i f))
      ∙ ap (λ k. map (λ es. map (row_at runs) es) (take k heads.chains)) second

  -- and a row's key is its head's
  pub key_rows : c < n → row_lists (record { heads = with_entries heads c (set (entries heads c) i f); runs = runs })
      ≡ set (row_lists (record { heads = heads; runs = runs })) c (with_key (rows (record { heads = heads; runs = runs }) c) i f.item.key)
  key_rows less =
      let count : length heads.chains - 1 ≡ n = omega (arith, h.kept.chains) in
      rows_set (record { heads = heads; runs = runs }) (record { heads = with_entries heads c (set (entries heads c) i f); runs = runs }) n c _ h.kept.chains
      (length-set heads.chains c (set (entries heads c) i f) ∙ h.kept.chains) less
      (λ b apart _. ap (map (row_at runs)) (set_there b apart))
      (ap (map (row_at runs)) set_here
      ∙ keyed (entries heads c) i found
      ∙ ap (λ rs. with_key rs i f.item.key) (sym (rows_at (record { heads = heads; runs = runs }) c (omega (arith, less, count)))))
    where
      keyed : (es : List (Entry (Head K))) (k : ℕ) → slice_get es k ≡ Some e → map (row_at runs) (set es k f) ≡ with_key (map (row_at runs) es) k f.item.key
      keyed [] k none = absurd (none-some e none)
      keyed (x ∷ es) zero some =
          let is : x ≡ e = cc in
          let number : f.item.runs ≡ x.item.runs = same ∙ ap (λ y. y.item.runs) (sym is) in
          λ t. record { key = f.item.key; runs = items runs (number t) } ∷ map (row_at runs) es
      keyed (x ∷ es) (suc k) some = ap (λ l. row_at runs x ∷ l) (keyed es k some)

  -- the numbers are as before
  pub numbers_kept : (b k : ℕ) → number_at (entries (with_entries heads c (set (entries heads c) i f)) b) k ≡ number_at (entries heads b) k
  numbers_kept b k =
      elim (cases_eq b c) [
        | inl here ↦ rw here (ap (λ es. number_at es k) set_here ∙ at_number (entries heads c) i k found)
        | inr there ↦ ap (λ es. number_at es k) (set_there b there)
      ]
    where
      at_number : (es : List (Entry (Head K))) (m k : ℕ) → slice_get es m ≡ Some e → number_at (set es m f) k ≡ number_at es k
      at_number [] m k none = absurd (none-some e none)
      at_number (x ∷ es) zero zero some = let is : x ≡ e = cc in same ∙ ap (λ y. y.item.runs) (sym is)
      at_number (x ∷ es) zero (suc k) some = refl
      at_number (x ∷ es) (suc m) zero some = refl
      at_number (x ∷ es) (suc m) (suc k) some = at_number es m k some

-- what the first unused head names
module _ {K R : Type 0} (heads : Chains (Head K)) (old : Chains R) (n : ℕ) (head : Head K) (h : AreRows heads old n)
    (first : slice_get (items heads n) 0 ≡ Some head) where
  pub none_held_yet : items old head.runs ≡ []
  none_held_yet =
      let there = entry_there heads n 0 head first in
      let none = each_at (λ x. entries old x.item.runs ≡ []) (entries heads n) 0 there.0 h.spare there.1 in
      ap (map (λ (x : Entry R). x.item)) (subst (λ (x : Head K). entries old x.runs ≡ []) there.2 none)

  pub named_well : head.runs < length old.chains
  named_well =
      let there = entry_there heads n 0 head first in
      let less : there.0.item.runs < old.slots = each_at (λ x. x.item.runs < old.slots) (entries heads n) 0 there.0 (h.kept.named n) there.1 in
      let its = ap (λ (x : Head K). x.runs) there.2 in
      omega (arith, less, its, h.kept.numbers)

-- a row is put in, with the first unused head
module _ {K R : Type 0} (heads one : Chains (Head K)) (old : Chains R) (n : ℕ) (row : Cursor) (head : Head K) (key : K)
    (h : AreRows heads old n) (first : slice_get (items heads n) 0 ≡ Some head)
    (set_is : one ≡ with_item heads (cursor_at heads n 0) (record { key = key; runs = head.runs })) (is : IsRow (record { heads = heads; runs = old }) row)
  where
    abbrev e : Entry (Head K)
    e = (entry_there heads n 0 head first).0

    found : slice_get (entries heads n) 0 ≡ Some e
    found = (entry_there heads n 0 head first).1

    item_is : e.item ≡ head
    item_is = (entry_there heads n 0 head first).2

    abbrev f : Entry (Head K)
    f = record { slot = unwrap_or (cursor_at heads n 0).slot 0; item = record { key = key; runs = head.runs } }

    same : f.item.runs ≡ e.item.runs
    same = ap (λ (x : Head K). x.runs) (sym item_is)

    less : row.chain < n
    less = row_before heads old n h row is

    ready : AreRows one old n
    ready = subst (λ a. AreRows a old n) (sym set_is) (key_kept heads old n n 0 e f h found same)

    there : slice_get (entries one n) 0 ≡ Some f
    there = ap (λ a. slice_get (entries a n) 0) set_is ∙ new_head heads old n n 0 e f h found same

    others_same : entries one row.chain ≡ entries heads row.chain
    others_same = ap (λ a. entries a row.chain) set_is ∙ set_there heads old n n 0 e f h found same row.chain (λ x. omega (arith, less, x))

    row_still : row ≡ cursor_at one row.chain row.index
    row_still = is.at ∙ ap (λ (es : List (Entry (Head K))). record {
      chain = row.chain;
      index = row.index;
      slot = option_map (λ (x : Entry (Head K)). x.slot) (slice_get es row.index);
    }) (sym others_same)

    fits : row.index ≤ length (entries one row.chain)
    fits = rw others_same (row_fits heads old n h row is)

    -- the unused head is still at its place
    pub spare_in_place : (slot : ℕ) → (cursor_at heads n 0).slot ≡ Some slot → slot_at one n 0 ≡ Some slot
    spare_in_place slot named = ap (option_map (λ (x : Entry (Head K)). x.slot)) there ∙ ap (λ o. Some (unwrap_or o 0)) named

    pub index_still : index_of one row ≡ row.index
    index_still = ap (index_of one) row_still ∙ index_at one row.chain row.index fits

    module _ (two : Chains (Head K)) (new : Chains R) (run : R) (s : Shifts one two (cursor_at heads n 0) row) (size : HasSizeOf old new)
        (others : (d : ℕ) → d ≢ head.runs → entries new d ≡ entries old d) (put : items new head.runs ≡ run ∷ []) where
      moved_is : s.moved ≡ f
      moved_is = let both = sym s.was_there ∙ there in cc

      two_is : two ≡ moved_over one n 0 row.chain row.index f
      two_is = shifted_is one two (cursor_at heads n 0) row row.chain row.index s row_still fits ∙ ap (moved_over one n 0 row.chain row.index) moved_is

      has_run : entries new f.item.runs ≢ []
      has_run = some_entries new f.item.runs run [] put

      pub row_kept_in : AreRows two new n
      row_kept_in =
          subst (λ a. AreRows a new n) (sym two_is)
          (row_added one old new n row.chain row.index f f ready there size others refl less fits has_run)

      pub rows_kept_in : row_lists (record { heads = two; runs = new })
          ≡ set (row_lists (record { heads = heads; runs = old })) row.chain
          (insert (rows (record { heads = heads; runs = old }) row.chain) row.index (record { key = key; runs = run ∷ [] }))
      rows_kept_in =
          let lists : row_lists (record { heads = one; runs = old }) ≡ row_lists (record { heads = heads; runs = old }) =
          ap (λ a. row_lists (record { heads = a; runs = old })) set_is ∙ same_rows heads old n n 0 e f h found same refl in
          ap (λ a. row_lists (record { heads = a; runs = new })) two_is
          ∙ rows_added one old new n row.chain row.index f f ready there size others refl less fits has_run
          ∙ ap (λ ls. set ls row.chain (insert (get_or ls row.chain []) row.index (record { key = key; runs = items new head.runs }))) lists
          ∙ ap (λ rs. set (row_lists (record { heads = heads; runs = old })) row.chain
          (insert (rows (record { heads = heads; runs = old }) row.chain) row.index (record { key = key; runs = rs }))) put

module _ {K R : Type 0} (heads : Chains (Head K)) (old : Chains R) (n : ℕ) (h : AreRows heads old n) where
  -- while a slot is free, a head is unused
  pub head_left : (free : ℕ) → slice_get (items heads n) 0 ≡ None → item_count old + free ≡ old.slots → free ≡ 0
  head_left free none total =
      let empty = no_entries heads n (no_first (items heads n) none) in
      omega (arith, total, none_unused heads old n h empty)
    where
      no_first : (xs : List (Head K)) → slice_get xs 0 ≡ None → xs ≡ []
      no_first [] is = refl
      no_first (x ∷ xs) is = absurd (none-some x (sym is))

  -- ---- a splice

  pub record IsSplice (row at : Cursor) : Type 0 where
    pub e : Entry (Head K)
    pub found : slice_get (entries heads row.chain) row.index ≡ Some e
    pub number : at.chain ≡ e.item.runs
    pub in_chains : at.chain < length old.chains
    pub less : row.chain < n
    pub listed : runs_at (rows (record { heads = heads; runs = old }) row.chain) row.index ≡ items old at.chain

  pub is_splice : (row at : Cursor) → IsRow (record { heads = heads; runs = old }) row → IsSome row.slot →
      at ≡ run_cursor (record { heads = heads; runs = old }) row.chain row.index at.index → IsSplice row at
  is_splice row at is some stands =
      let there = entry_at (entries heads row.chain) row.index (subst (λ (x : Cursor). IsSome x.slot) is.at some) in
      let number = ap (λ (x : Cursor). x.chain) stands ∙ number_there (entries heads row.chain) row.index there.0 there.1 in
      let less = each_at (λ x. x.item.runs < old.slots) (entries heads row.chain) row.index there.0 (h.kept.named row.chain) there.1 in
      record {
        e = there.0;
        found = there.1;
        number = number;
        in_chains = omega (arith, less, number, h.kept.numbers);
        less = row_before heads old n h row is;
        listed =
            ap (λ rs. runs_at rs row.index) (rows_are (record { heads = heads; runs = old }) row.chain is.chain)
            ∙ runs_there old (entries heads row.chain) row.index there.0 there.1
            ∙ ap (items old) (sym (ap (λ (x : Cursor). x.chain) stands));
      }
    where
      entry_at : (es : List (Entry (Head K))) (i : ℕ) → IsSome (option_map (λ (x : Entry (Head K)). x.slot) (slice_get es i)) →
          (x : Entry (Head K)) × (slice_get es i ≡ Some x)
      entry_at [] i none = absurd (cc none)
      entry_at (x ∷ es) zero some = (x, refl)
      entry_at (x ∷ es) (suc i) some = entry_at es i some

  pub with_these : (rs : List (Row K R)) (i : ℕ) (xs : List R) → xs ≢ [] → set_runs rs i xs ≡ with_runs rs i xs
  with_these rs i [] some = absurd (some refl)
  with_these rs i (x ∷ xs) some = with_some rs i x xs

  pub without_any : (rs : List (Row K R)) (i : ℕ) → remove rs i ≡ with_runs rs i []
  without_any rs i = sym (remove_set rs i []) ∙ with_none rs i

-- what a change of one chain's rows leaves of their number
pub has_room : {K R : Type 0} (v w : RowChains K R) (c : ℕ) (z : List (Row K R)) → row_lists w ≡ set (row_lists v) c z → limit_of w ≡ limit_of v → HasRoomOf v w
has_room v w c z is limit = record { chains = ap length is ∙ length-set (row_lists v) c z; limit = limit }

module _ {K R : Type 0} where
  long_removed : (rs : List (Row K R)) (i : ℕ) → i < length rs → i ≤ length (remove rs i)
  long_removed rs i within = omega (arith, within, length-remove rs i within)

  long_with : (rs : List (Row K R)) (i : ℕ) (xs : List R) → i < length rs → i ≤ length (with_runs rs i xs)
  long_with [] i xs within = absurd (omega (arith, within))
  long_with (r ∷ rs) zero xs within = omega arith
  long_with (r ∷ rs) (suc i) xs within = omega (arith, long_with rs i xs (omega (arith, within)))

  -- a cursor at a row stands there, or at the end, once rows of its chain have changed
  stands_on : (v w : RowChains K R) (old new : Cursor) (z : List (Row K R)) → IsRow v old → row_lists w ≡ set (row_lists v) old.chain z →
      new ≡ row_cursor w old.chain old.index → old.index ≤ length z → IsRow w new
  stands_on v w old new z h is at fits =
      subst (IsRow w) (sym at) (record {
        chain = omega (arith, h.chain, ap length is, length-set (row_lists v) old.chain z);
        at = refl;
        within = rw (ap (λ ls. get_or ls old.chain []) is ∙ get_or-set_same (row_lists v) old.chain z [] h.chain) fits;
      })

  -- a cursor that has a slot is at a row
  row_within : (v : RowChains K R) (row : Cursor) → IsRow v row → IsSome row.slot → row.index < length (rows v row.chain)
  row_within v row h some =
      let long : length (rows v row.chain) ≡ length (entries v.heads row.chain) =
      ap length (rows_are v row.chain h.chain) ∙ length-map (entries v.heads row.chain) (row_at v.runs) in
      omega (arith, long, go (entries v.heads row.chain) row.index (subst (λ (x : Cursor). IsSome x.slot) h.at some))
    where
      go : (es : List (Entry (Head K))) (i : ℕ) → IsSome (option_map (λ (x : Entry (Head K)). x.slot) (slice_get es i)) → i < length es
      go [] i none = absurd (cc none)
      go (e ∷ es) zero it = omega arith
      go (e ∷ es) (suc i) it = omega (arith, go es i it)

  pub stands_removed : (v w : RowChains K R) (old new : Cursor) → IsRow v old → IsSome old.slot →
      row_lists w ≡ set (row_lists v) old.chain (remove (rows v old.chain) old.index) → new ≡ row_cursor w old.chain old.index → IsRow w new
  stands_removed v w old new h some is at =
      stands_on v w old new _ h is at (long_removed (rows v old.chain) old.index (row_within v old h some))

  pub stands_with : (v w : RowChains K R) (old new : Cursor) (xs : List R) → IsRow v old → IsSome old.slot →
      row_lists w ≡ set (row_lists v) old.chain (with_runs (rows v old.chain) old.index xs) → new ≡ row_cursor w old.chain old.index → IsRow w new
  stands_with v w old new xs h some is at =
      stands_on v w old new _ h is at (long_with (rows v old.chain) old.index xs (row_within v old h some))

  pub stands_inserted : (v w : RowChains K R) (old new : Cursor) (r : Row K R) → IsRow v old →
      row_lists w ≡ set (row_lists v) old.chain (insert (rows v old.chain) old.index r) → new ≡ row_cursor w old.chain old.index → IsRow w new
  stands_inserted v w old new r h is at =
      stands_on v w old new _ h is at (omega (arith, length-insert (rows v old.chain) old.index r h.within, h.within))
