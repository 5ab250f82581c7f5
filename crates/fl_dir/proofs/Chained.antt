-- Changes of one chain of an arena, as changes at a number.
use Rattle.std.proofs.Common.{◌≡◌, ◌≢◌, ℕ, zero, suc, ◌≤◌, Bool, true, false, cond, not, ◌==◌, nat_lt}
use Rattle.std.proofs.Common.{Option, Some, None, IsSome, is_some}
use Rattle.std.proofs.Common.{option_map, slice_get, slice_set, List, [], ◌∷◌, ◌++◌, length, refl, ap, sym, ◌∙◌, subst, arith}
use Rattle.std.specs.Prelude.{map as each}
use Rattle.std.proofs.lemmas.Bool.Decides.{nat_tests}
use Rattle.std.proofs.lemmas.List.{length-map}
use Rattle.std.proofs.lemmas.Option.{none-some, slice_get-map}
use Rattle.std.specs.List.{find, insert, position_or_len, remove}
use Rattle.std.specs.Ordering.{nat_cmp, eq_by_cmp}
use Rattle.std.specs.Cmp.{nat_cmp_total}
use Rattle.std.specs.FinMap as map
use Rattle.std.specs.FinMap.Entries as rising
use Rattle.std.proofs.lemmas.Bool.{eqb-true}
use Rattle.fl_arena.specs.Chains.{Entry, Chains, entries, items, HasSizeOf}
use Rattle.fl_arena.specs.Cursors.{cursor_at, item_of, with_item}
use Rattle.fl_arena.specs.declared.cursors.Cursor.{Cursor}
use Rattle.fl_dir.specs.Inside.Spread.{at, AreSorted, IsAltered}
use Rattle.fl_dir.proofs.Entries.{held, truth, found, set_put, remove_where, sorted_pushed, insert_put}
use Rattle.fl_dir.proofs.Spread.{some_of}

some_mapped : {A B : Type 0} (f : A → B) (o : Option A) → IsSome (option_map f o) → IsSome o
some_mapped f None h = h
some_mapped f (Some x) h = cc

mapped_some : {A B : Type 0} (f : A → B) (o : Option A) → IsSome o → IsSome (option_map f o)
mapped_some f None h = h
mapped_some f (Some x) h = cc

module _ {X : Type 0} where
  -- what is found under a number has that number
  found_number : (es : List (ℕ × X)) (n : ℕ) (e : ℕ × X) → find (λ (e : ℕ × X). e.0 == n) es ≡ Some e → e ≡ (n, e.1)
  found_number [] n e is = absurd (none-some e is)
  found_number (f ∷ es) n e is = go (f.0 == n) refl (found_number es n e) is
    where
      go : (b : Bool) → (f.0 == n) ≡ b → (find (λ (e : ℕ × X). e.0 == n) es ≡ Some e → e ≡ (n, e.1)) →
          cond b (Some f) (find (λ (e : ℕ × X). e.0 == n) es) ≡ Some e → e ≡ (n, e.1)
      go true same later h =
          let one : f ≡ e = cc h in
          let key : e.0 ≡ n = ap (λ (x : ℕ × X). x.0) (sym one) ∙ eqb-true f.0 n same in
          ap (λ (k : ℕ). (k, e.1)) key
      go false same later h = later h

  pub is_found : (a : Chains (ℕ × X)) (c n : ℕ) → IsSome (at a c n) → IsSome (find (λ (e : ℕ × X). e.0 == n) (items a c))
  is_found a c n some = some_mapped (λ (e : ℕ × X). e.1) _ (subst IsSome (found (items a c) n) some)

  -- a cursor at the entry of a number has its slot
  pub slot_there : (a : Chains (ℕ × X)) (cursor : Cursor) (c n : ℕ) → cursor ≡ cursor_at a c cursor.index
      → slice_get (items a c) cursor.index ≡ find (λ (e : ℕ × X). e.0 == n) (items a c) → IsSome (at a c n) → IsSome cursor.slot
  slot_there a cursor c n stands seen some =
      let item = some_mapped (λ (e : Entry (ℕ × X)). e.item) (slice_get (entries a c) cursor.index)
      (subst IsSome (sym seen ∙ slice_get-map (λ (e : Entry (ℕ × X)). e.item) (entries a c) cursor.index) (is_found a c n some)) in
      subst IsSome (sym (ap (λ (k : Cursor). k.slot) stands)) (mapped_some (λ (e : Entry (ℕ × X)). e.slot) _ item)

  -- a cursor at the entry of a number, as a search leaves it
  record IsAt (a : Chains (ℕ × X)) (cursor : Cursor) (c n : ℕ) : Type 0 where
    pub chain : cursor.chain ≡ c
    pub value : X
    pub there : slice_get (items a c) cursor.index ≡ Some (n, value)

  at_number : (a : Chains (ℕ × X)) (cursor : Cursor) (c n : ℕ) → cursor ≡ cursor_at a c cursor.index
      → slice_get (items a c) cursor.index ≡ find (λ (e : ℕ × X). e.0 == n) (items a c) → IsSome (at a c n) → IsAt a cursor c n
  at_number a cursor c n stands seen some =
      let e = some_of (find (λ (e : ℕ × X). e.0 == n) (items a c)) (is_found a c n some) in
      record { chain = ap (λ (k : Cursor). k.chain) stands; value = e.0.1; there = seen ∙ e.1 ∙ ap Some (found_number (items a c) n e.0 e.1) }

  insert_end : (xs : List (ℕ × X)) (n : ℕ) (y : ℕ × X) → n ≡ length xs → insert xs n y ≡ xs ++ y ∷ []
  insert_end [] zero y is = refl
  insert_end [] (suc n) y is = absurd (omega (arith, is))
  insert_end (x ∷ xs) zero y is = absurd (omega (arith, is))
  insert_end (x ∷ xs) (suc n) y is = ap (λ (l : List (ℕ × X)). x ∷ l) (insert_end xs n y (omega (arith, is)))

  pub insert_last : (a : Chains (ℕ × X)) (c : ℕ) (y : ℕ × X) → insert (items a c) (length (entries a c)) y ≡ items a c ++ y ∷ []
  insert_last a c y = insert_end (items a c) (length (entries a c)) y (sym (length-map (entries a c) (λ (e : Entry (ℕ × X)). e.item)))

  -- all chains are sorted if this one is, and the others are as they were
  all_sorted : (a b : Chains (ℕ × X)) (c : ℕ) → AreSorted a → map.is_sorted nat_cmp (items b c) ≡ true
      → ((d : ℕ) → d ≢ c → entries b d ≡ entries a d) → AreSorted b
  all_sorted a b c sorted here others d = go (d == c) refl
    where
      go : (t : Bool) → (d == c) ≡ t → map.is_sorted nat_cmp (items b d) ≡ true
      go true same = subst (λ n. map.is_sorted nat_cmp (items b n) ≡ true) (sym (eqb-true d c same)) here
      go false other =
          subst (λ es. map.is_sorted nat_cmp (each (λ e. e.item) es) ≡ true) (sym (others d (λ e. grind (arith, nat_tests)))) (sorted d)

  pub pushed : (a b : Chains (ℕ × X)) (c n : ℕ) (x : X) → AreSorted a → ((q : ℕ) → n ≤ q → at a c q ≡ None) → HasSizeOf a b
      → items b c ≡ items a c ++ (n, x) ∷ [] → ((d : ℕ) → d ≢ c → entries b d ≡ entries a d) → IsAltered a b c n (Some x)
  pushed a b c n x sorted above size is others = record {
    size = size;
    sorted = all_sorted a b c sorted (ap (map.is_sorted nat_cmp) is ∙ sorted_pushed (items a c) n x above (sorted c)) others;
    here = λ q. ap (rising.find nat_cmp q) is ∙ rising.find-append nat_cmp nat_cmp_total (items a c) n x q (above n (omega arith));
    others = others;
  }

  -- one more in its place
  pub put_in_place : (a b : Chains (ℕ × X)) (c n : ℕ) (x : X) → AreSorted a → at a c n ≡ None → HasSizeOf a b
      → items b c ≡ insert (items a c) (position_or_len (λ (e : ℕ × X). nat_lt n e.0) (items a c)) (n, x)
      → ((d : ℕ) → d ≢ c → entries b d ≡ entries a d) → IsAltered a b c n (Some x)
  put_in_place a b c n x sorted fresh size is others =
      let put = is ∙ insert_put (items a c) n x fresh in
      record {
        size = size;
        sorted = all_sorted a b c sorted
            (ap (map.is_sorted nat_cmp) put ∙ truth _ (rising.is_sorted-put nat_cmp nat_cmp_total n x (items a c) (held _ (sorted c)))) others;
        here = λ q. ap (rising.find nat_cmp q) put ∙ rising.find-put nat_cmp nat_cmp_total q n x (items a c);
        others = others;
      }

  replaced : (a b : Chains (ℕ × X)) (cursor : Cursor) (c n : ℕ) (x : X) → cursor ≡ cursor_at a c cursor.index
      → slice_get (items a c) cursor.index ≡ find (λ (e : ℕ × X). e.0 == n) (items a c) → IsSome (at a c n) → AreSorted a → HasSizeOf a b
      → items b cursor.chain ≡ slice_set (items a cursor.chain) cursor.index (n, x)
      → ((d : ℕ) → d ≢ cursor.chain → entries b d ≡ entries a d) → IsAltered a b c n (Some x)
  replaced a b cursor c n x stands seen some sorted size is others =
      let here = at_number a cursor c n stands seen some in
      let put : items b c ≡ rising.put nat_cmp n x (items a c) =
      ap (items b) (sym here.chain) ∙ is ∙ ap (λ (d : ℕ). slice_set (items a d) cursor.index (n, x)) here.chain
      ∙ set_put (items a c) cursor.index n x here.value (sorted c) here.there in
      let rest = λ (d : ℕ) (apart : d ≢ c). others d (λ e. apart (e ∙ here.chain)) in
      record {
        size = size;
        sorted = all_sorted a b c sorted (ap (map.is_sorted nat_cmp) put ∙ truth _ (rising.is_sorted-put nat_cmp nat_cmp_total n x (items a c) (held _ (sorted c)))) rest;
        here = λ q. ap (rising.find nat_cmp q) put ∙ rising.find-put nat_cmp nat_cmp_total q n x (items a c);
        others = rest;
      }

  -- the item that a search for a number leaves a cursor at has the number, and is what the chain has there
  pub own_item : (a : Chains (ℕ × X)) (cursor : Cursor) (c n : ℕ) (e : ℕ × X) → cursor ≡ cursor_at a c cursor.index
      → slice_get (items a c) cursor.index ≡ find (λ (e : ℕ × X). e.0 == n) (items a c) → IsSome (at a c n) → item_of a cursor ≡ Some e
      → (e.0 ≡ n) × (at a c n ≡ Some e.1)
  own_item a cursor c n e stands seen some is =
      let here = at_number a cursor c n stands seen some in
      let item : slice_get (items a c) cursor.index ≡ Some e =
      ap (λ (d : ℕ). slice_get (items a d) cursor.index) (sym here.chain)
      ∙ sym (chosen cursor.slot (slice_get (items a cursor.chain) cursor.index) (slot_there a cursor c n stands seen some)) ∙ is in
      let same : e ≡ (n, here.value) = let both = sym item ∙ here.there in cc in
      (ap (λ (x : ℕ × X). x.0) same, found (items a c) n ∙ ap (option_map (λ (x : ℕ × X). x.1)) (sym seen ∙ item))
    where
      chosen : {A : Type 0} (o : Option ℕ) (x : Option A) → IsSome o → cond (is_some o) x None ≡ x
      chosen None x h = absurd (cc h)
      chosen (Some s) x h = refl

  -- another value was left in that item
  pub left : (a : Chains (ℕ × X)) (cursor : Cursor) (c n : ℕ) (e : ℕ × X) (x : X) → cursor ≡ cursor_at a c cursor.index
      → slice_get (items a c) cursor.index ≡ find (λ (e : ℕ × X). e.0 == n) (items a c) → IsSome (at a c n) → AreSorted a → item_of a cursor ≡ Some e
      → HasSizeOf a (with_item a cursor (n, x))
      → items (with_item a cursor (n, x)) cursor.chain ≡ slice_set (items a cursor.chain) cursor.index (n, x)
      → ((d : ℕ) → d ≢ cursor.chain → entries (with_item a cursor (n, x)) d ≡ entries a d) → IsAltered a (with_item a cursor (e.0, x)) c n (Some x)
  left a cursor c n e x stands seen some sorted is size set others =
      subst (λ (k : ℕ). IsAltered a (with_item a cursor (k, x)) c n (Some x)) (sym (own_item a cursor c n e stands seen some is).0)
      (replaced a (with_item a cursor (n, x)) cursor c n x stands seen some sorted size set others)

  pub taken_out : (a b : Chains (ℕ × X)) (cursor : Cursor) (c n : ℕ) → cursor ≡ cursor_at a c cursor.index
      → slice_get (items a c) cursor.index ≡ find (λ (e : ℕ × X). e.0 == n) (items a c) → IsSome (at a c n) → AreSorted a → HasSizeOf a b
      → items b cursor.chain ≡ remove (items a cursor.chain) cursor.index
      → ((d : ℕ) → d ≢ cursor.chain → entries b d ≡ entries a d) → IsAltered a b c n None
  taken_out a b cursor c n stands seen some sorted size is others =
      let here = at_number a cursor c n stands seen some in
      let left : items b c ≡ rising.where_key nat_cmp (λ k. not (eq_by_cmp nat_cmp n k)) (items a c) =
      ap (items b) (sym here.chain) ∙ is ∙ ap (λ (d : ℕ). remove (items a d) cursor.index) here.chain
      ∙ remove_where (items a c) cursor.index n here.value (sorted c) here.there in
      let rest = λ (d : ℕ) (apart : d ≢ c). others d (λ e. apart (e ∙ here.chain)) in
      record {
        size = size;
        sorted = all_sorted a b c sorted
            (ap (map.is_sorted nat_cmp) left ∙ truth _ (rising.is_sorted-where_key nat_cmp (λ k. not (eq_by_cmp nat_cmp n k)) (items a c) (held _ (sorted c)))) rest;
        here = λ q.
            ap (rising.find nat_cmp q) left
            ∙ rising.find-where_key nat_cmp (λ k. not (eq_by_cmp nat_cmp n k)) q
            (λ x e. ap (λ k. not (eq_by_cmp nat_cmp n k)) (sym (map.nat_cmp-IsAntisymmetric q x e))) (items a c)
            ∙ either_way (eq_by_cmp nat_cmp n q) (eq_by_cmp nat_cmp q n) _ (turned n q);
        others = rest;
      }
    where
      either_way : (s t : Bool) (o : Option X) → s ≡ t → cond (not s) o None ≡ cond t None o
      either_way true true o e = refl
      either_way false false o e = refl
      either_way true false o e = absurd (cc e)
      either_way false true o e = absurd (cc e)

      turned : (s t : ℕ) → eq_by_cmp nat_cmp s t ≡ eq_by_cmp nat_cmp t s
      turned s t = grind (arith, nat_tests)
