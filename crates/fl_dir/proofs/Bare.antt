-- Nodes without their counts, and what a search of them finds.
use Rattle.std.proofs.Common.{◌≡◌, ℕ, Bool, true, false, cond, ◌&&◌, Option, Some, None, option_map, List, [], ◌∷◌, length}
use Rattle.std.proofs.Common.{T, refl, ap, sym, ◌∙◌, subst}
use Rattle.std.specs.Prelude.{map as each}
use Rattle.std.proofs.lemmas.List.{length-map}
use Rattle.std.proofs.lemmas.Option.{none-some}
use Rattle.std.specs.List.{find}
use Rattle.std.specs.Ordering.{nat_cmp, eq_by_cmp, is_lt}
use Rattle.std.specs.Cmp.{nat_cmp_total}
use Rattle.std.specs.FinMap as map
use Rattle.std.specs.FinMap.Entries as rising
use Rattle.fl_dir.specs.declared.node.Node.{Node}
use Rattle.fl_dir.specs.declared.nodes.Slot.{Slot}
use Rattle.fl_dir.specs.Changes.{set_at, changed_at}
use Rattle.fl_dir.specs.Arenas.{bare}
use Rattle.fl_dir.proofs.Entries.{truth, found_at}
use Rattle.fl_dir.proofs.Spread.{same_key}

-- the entries without their counts
abbrev pub plain : List (ℕ × Slot) → List (ℕ × Node)
plain es = each (λ e. (e.0, e.1.node)) es

below_plain : (k : ℕ) (es : List (ℕ × Slot)) → rising.below_all nat_cmp k (plain es) ≡ rising.below_all nat_cmp k es
below_plain k [] = refl
below_plain k (e ∷ es) = ap (λ b. is_lt (nat_cmp k e.0) && b) (below_plain k es)

sorted_plain : (es : List (ℕ × Slot)) → map.is_sorted nat_cmp (plain es) ≡ map.is_sorted nat_cmp es
sorted_plain [] = refl
sorted_plain (e ∷ es) = ap (λ b. b && map.is_sorted nat_cmp (plain es)) (below_plain e.0 es) ∙ ap (λ b. rising.below_all nat_cmp e.0 es && b) (sorted_plain es)

pub find_plain : (q : ℕ) (es : List (ℕ × Slot)) → rising.find nat_cmp q (plain es) ≡ option_map (λ s. s.node) (rising.find nat_cmp q es)
find_plain q [] = refl
find_plain q (e ∷ es) = go (eq_by_cmp nat_cmp q e.0) (find_plain q es)
  where
    go : (b : Bool) → rising.find nat_cmp q (plain es) ≡ option_map (λ s. s.node) (rising.find nat_cmp q es)
        → cond b (Some e.1.node) (rising.find nat_cmp q (plain es)) ≡ option_map (λ s. s.node) (cond b (Some e.1) (rising.find nat_cmp q es))
    go true rest = refl
    go false rest = rest

pub entries_bare : (m : map.FinMap nat_cmp Slot) → map.entries (bare m) ≡ plain (map.entries m)
entries_bare m = map.entries-from_sorted nat_cmp (plain (map.entries m)) (subst T (sym (sorted_plain (map.entries m))) (map.entries_sorted m))

pub len_bare : (m : map.FinMap nat_cmp Slot) → map.len (bare m) ≡ map.len m
len_bare m =
    map.len-entries (bare m) ∙ ap length (entries_bare m) ∙ length-map (map.entries m) (λ (e : ℕ × Slot). (e.0, e.1.node)) ∙ sym (map.len-entries m)

pub get_bare : (m : map.FinMap nat_cmp Slot) (q : ℕ) → map.get (bare m) q ≡ option_map (λ s. s.node) (map.get m q)
get_bare m q =
    map.get-entries (bare m) q ∙ ap (rising.find nat_cmp q) (entries_bare m) ∙ find_plain q (map.entries m)
    ∙ ap (option_map (λ (s : Slot). s.node)) (sym (map.get-entries m q))

pub bare_empty : bare map.empty ≡ map.empty
bare_empty = map.empty_of_len _ (len_bare map.empty ∙ map.len-empty nat_cmp Slot)

mapped : (b : Bool) (w o : Option Slot) → option_map (λ (s : Slot). s.node) (cond b w o) ≡ cond b (option_map (λ (s : Slot). s.node) w) (option_map (λ (s : Slot). s.node) o)
mapped true w o = refl
mapped false w o = refl

pub bare_insert : (m : map.FinMap nat_cmp Slot) (k : ℕ) (s : Slot) → bare (map.insert m k s) ≡ map.insert (bare m) k s.node
bare_insert m k s =
    map.same_map nat_cmp_total map.nat_cmp-IsAntisymmetric _ _
    (λ q. get_bare (map.insert m k s) q ∙ ap (option_map (λ (s : Slot). s.node)) (map.get-insert nat_cmp_total m k s q)
    ∙ mapped (eq_by_cmp nat_cmp q k) (Some s) (map.get m q)
    ∙ ap (cond (eq_by_cmp nat_cmp q k) (Some s.node)) (sym (get_bare m q))
    ∙ sym (map.get-insert nat_cmp_total (bare m) k s.node q))

pub bare_remove : (m : map.FinMap nat_cmp Slot) (k : ℕ) → bare (map.remove m k) ≡ map.remove (bare m) k
bare_remove m k =
    map.same_map nat_cmp_total map.nat_cmp-IsAntisymmetric _ _
    (λ q. get_bare (map.remove m k) q ∙ ap (option_map (λ (s : Slot). s.node)) (map.get-remove nat_cmp_total m k q)
    ∙ mapped (eq_by_cmp nat_cmp q k) None (map.get m q)
    ∙ ap (cond (eq_by_cmp nat_cmp q k) None) (sym (get_bare m q))
    ∙ sym (map.get-remove nat_cmp_total (bare m) k q))

-- a change of the slot's node is one of the node
pub bare_changed : (m : map.FinMap nat_cmp Slot) (k : ℕ) (s t : Slot) (change : Node → Node) → map.get m k ≡ Some s → t.node ≡ change s.node
    → bare (map.insert m k t) ≡ changed_at (bare m) k change
bare_changed m k s t change there same =
    bare_insert m k t ∙ ap (map.insert (bare m) k) same
    ∙ sym (ap (λ o. set_at (bare m) k (option_map change o)) (get_bare m k ∙ ap (option_map (λ (s : Slot). s.node)) there))

-- another count changes no node
pub bare_same : (m : map.FinMap nat_cmp Slot) (k : ℕ) (s t : Slot) → map.get m k ≡ Some s → t.node ≡ s.node → bare (map.insert m k t) ≡ bare m
bare_same m k s t there same =
    map.same_map nat_cmp_total map.nat_cmp-IsAntisymmetric _ _
    (λ q. get_bare (map.insert m k t) q ∙ ap (option_map (λ (s : Slot). s.node)) (map.get-insert nat_cmp_total m k t q)
    ∙ go q (eq_by_cmp nat_cmp q k) refl ∙ sym (get_bare m q))
  where
    go : (q : ℕ) (b : Bool) → eq_by_cmp nat_cmp q k ≡ b
        → option_map (λ (s : Slot). s.node) (cond b (Some t) (map.get m q)) ≡ option_map (λ (s : Slot). s.node) (map.get m q)
    go q true is = ap Some same ∙ sym (ap (option_map (λ (s : Slot). s.node)) (ap (map.get m) (same_key q k is) ∙ there))
    go q false is = refl

module _ {X : Type 0} where
  -- ---- what a search finds

  -- a search passes no entry by
  pub find_none : (p : (ℕ × X) → Bool) (es : List (ℕ × X)) (q : ℕ) (x : X) → find p es ≡ None → rising.find nat_cmp q es ≡ Some x → p (q, x) ≡ false
  find_none p [] q x none is = absurd (none-some x is)
  find_none p (e ∷ es) q x none is = go (p e) refl (eq_by_cmp nat_cmp q e.0) refl (find_none p es q x)
    where
      go : (b : Bool) → p e ≡ b → (t : Bool) → eq_by_cmp nat_cmp q e.0 ≡ t → (find p es ≡ None → rising.find nat_cmp q es ≡ Some x → p (q, x) ≡ false) →
          p (q, x) ≡ false
      go true passes t same later = absurd (none-some e (sym none ∙ ap (λ b. cond b (Some e) (find p es)) passes))
      go false fails true same later =
          let value : e.1 ≡ x = some_same (sym (ap (λ t. cond t (Some e.1) (rising.find nat_cmp q es)) same) ∙ is) in
          ap p (λ i. (same_key q e.0 same i, sym value i)) ∙ fails
        where
          some_same : Some e.1 ≡ Some x → e.1 ≡ x
          some_same h = cc
      go false fails false same later =
          later (sym (ap (λ b. cond b (Some e) (find p es)) fails) ∙ none) (sym (ap (λ t. cond t (Some e.1) (rising.find nat_cmp q es)) same) ∙ is)

  pub none_found : (p : (ℕ × X) → Bool) (m : map.FinMap nat_cmp X) (q : ℕ) (x : X) → find p (map.entries m) ≡ None → map.get m q ≡ Some x → p (q, x) ≡ false
  none_found p m q x none is = find_none p (map.entries m) q x none (sym (map.get-entries m q) ∙ is)

  -- what is found stands in the map
  pub found_there : (p : (ℕ × X) → Bool) (m : map.FinMap nat_cmp X) (e : ℕ × X) → find p (map.entries m) ≡ Some e → map.get m e.0 ≡ Some e.1
  found_there p m e is = map.get-entries m e.0 ∙ found_at p (map.entries m) e (truth _ (map.entries_sorted m)) is

  pub found_passes : (p : (ℕ × X) → Bool) (es : List (ℕ × X)) (e : ℕ × X) → find p es ≡ Some e → p e ≡ true
  found_passes p [] e is = absurd (none-some e is)
  found_passes p (f ∷ es) e is = go (p f) refl (found_passes p es e) is
    where
      go : (b : Bool) → p f ≡ b → (find p es ≡ Some e → p e ≡ true) → cond b (Some f) (find p es) ≡ Some e → p e ≡ true
      go true passes later h = let same : f ≡ e = cc h in ap p (sym same) ∙ passes
      go false fails later h = later h

  -- the search for a test that no entry passes
  pub find_nothing : (p : (ℕ × X) → Bool) (m : map.FinMap nat_cmp X) → ((q : ℕ) (x : X) → map.get m q ≡ Some x → p (q, x) ≡ false) → find p (map.entries m) ≡ None
  find_nothing p m fails = go (find p (map.entries m)) refl
    where
      go : (o : Option (ℕ × X)) → find p (map.entries m) ≡ o → find p (map.entries m) ≡ None
      go None is = is
      go (Some e) is =
          let clash : true ≡ false = sym (found_passes p (map.entries m) e is) ∙ fails e.0 e.1 (found_there p m e is) in absurd (cc clash)

  -- the search for a test that one entry passes, and no other
  pub find_one : (p : (ℕ × X) → Bool) (m : map.FinMap nat_cmp X) (k : ℕ) (y : X) → map.get m k ≡ Some y → p (k, y) ≡ true
      → ((q : ℕ) (x : X) → map.get m q ≡ Some x → p (q, x) ≡ true → q ≡ k) → find p (map.entries m) ≡ Some (k, y)
  find_one p m k y there passes alone = go (find p (map.entries m)) refl
    where
      go : (o : Option (ℕ × X)) → find p (map.entries m) ≡ o → find p (map.entries m) ≡ Some (k, y)
      go None is = let clash : true ≡ false = sym passes ∙ none_found p m k y is there in absurd (cc clash)
      go (Some e) is =
          let stands = found_there p m e is in
          let key : e.0 ≡ k = alone e.0 e.1 stands (found_passes p (map.entries m) e is) in
          let both : Some e.1 ≡ Some y = sym stands ∙ ap (map.get m) key ∙ there in
          is ∙ ap Some (λ i. (key i, some_same both i))
        where
          some_same : Some e.1 ≡ Some y → e.1 ≡ y
          some_same h = cc
