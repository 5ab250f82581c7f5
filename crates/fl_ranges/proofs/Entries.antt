-- Tests of a finite map's entries, by what the map has at keys.
use Rattle.std.proofs.Common.{◌≡◌, Bool, true, false, cond, ◌||◌, T, Some, List, [], ◌∷◌, refl, ap, sym, ◌∙◌, subst}
use Rattle.std.specs.List.{list_any}
use Rattle.std.specs.List as list
use Rattle.std.specs.declared.cmp.Ordering.{Ordering}
use Rattle.std.specs.declared.cmp.Ordering.TheVariants.{Less, Equal, Greater}
use Rattle.std.specs.Ordering.{eq_by_cmp, is_eq, is_lt, ordering_reverse}
use Rattle.std.specs.Cmp.{IsTotalOrder, tied_itself, alike_right, first_so, second_so, Equal-is}
use Rattle.std.specs.FinMap.{FinMap, get, find, entries, entries_sorted, get-entries, is_sorted, IsAntisymmetric}
use Rattle.std.specs.FinMap.Entries.{below_all}
use Rattle.std.proofs.lemmas.Bool.{or_left, or_right}

less_not_equal : (o : Ordering) → o ≡ Less → is_eq (ordering_reverse o) ≡ false
less_not_equal Less e = refl
less_not_equal Equal e = absurd (cc e)
less_not_equal Greater e = absurd (cc e)

pub less_differs : (o : Ordering) → o ≡ Less → is_eq o ≡ false
less_differs Less e = refl
less_differs Equal e = absurd (cc e)
less_differs Greater e = absurd (cc e)

pub is_Less : (o : Ordering) → is_lt o ≡ true → o ≡ Less
is_Less Less e = refl
is_Less Equal e = absurd (cc e)
is_Less Greater e = absurd (cc e)

pub truth : (b : Bool) → T b → b ≡ true
truth true t = refl
truth false t = absurd t

module _ {K X : Type 0} {R : K → K → Ordering} (o : IsTotalOrder R) where
  -- a key that is found in a list above x is above x
  pub found_above : (x q : K) (v : X) (es : List (K × X)) → below_all R x es ≡ true → find R q es ≡ Some v → R x q ≡ Less
  found_above x q v [] below found = absurd (cc found)
  found_above x q v (e ∷ es) below found = go (found_above x q v es (second_so (is_lt (R x e.0)) (below_all R x es) below)) (eq_by_cmp R q e.0) refl found
    where
      go : (find R q es ≡ Some v → R x q ≡ Less) → (b : Bool) → eq_by_cmp R q e.0 ≡ b → cond b (Some e.1) (find R q es) ≡ Some v → R x q ≡ Less
      go later true is h = alike_right o q e.0 x ((Equal-is (R q e.0)).0 is) ∙ is_Less (R x e.0) (first_so (is_lt (R x e.0)) (below_all R x es) below)
      go later false is h = later h

  -- an entry that passes a test, and is what the list has at its key
  record Passing (test : (K × X) → Bool) (es : List (K × X)) : Type 0 where
    pub key : K
    pub value : X
    pub found : find R key es ≡ Some value
    pub passes : test (key, value) ≡ true

  passing : (test : (K × X) → Bool) (es : List (K × X)) → is_sorted R es ≡ true → list_any test es ≡ true → Passing test es
  passing test [] sorted any = absurd (cc any)
  passing test (e ∷ es) sorted any = go (passing test es (second_so (below_all R e.0 es) (is_sorted R es) sorted)) (test e) refl any
    where
      go : (list_any test es ≡ true → Passing test es) → (b : Bool) → test e ≡ b → (b || list_any test es) ≡ true → Passing test (e ∷ es)
      go later true is h = record { key = e.0; value = e.1; found = ap (λ b. cond b (Some e.1) (find R e.0 es)) (ap is_eq (tied_itself o e.0)); passes = is }
      go later false is h =
          let rest = later h in
          let above = found_above e.0 rest.key rest.value es (first_so (below_all R e.0 es) (is_sorted R es) sorted) rest.found in
          let apart : eq_by_cmp R rest.key e.0 ≡ false = ap is_eq (o.antisymm rest.key e.0) ∙ less_not_equal (R e.0 rest.key) above in
          record { key = rest.key; value = rest.value; found = ap (λ b. cond b (Some e.1) (find R rest.key es)) apart ∙ rest.found; passes = rest.passes }

  -- a test that some entry of a map passes
  pub any_entry : (test : (K × X) → Bool) (m : FinMap R X) → list_any test (entries m) ≡ true → (k : K) × (v : X) × (get m k ≡ Some v) × (test (k, v) ≡ true)
  any_entry test m any =
      let p = passing test (entries m) (truth _ (entries_sorted m)) any in
      (p.key, p.value, get-entries m p.key ∙ p.found, p.passes)

  passes_of_found : IsAntisymmetric R → (test : (K × X) → Bool) (k : K) (v : X) (es : List (K × X)) → find R k es ≡ Some v → test (k, v) ≡ true →
      list_any test es ≡ true
  passes_of_found exact test k v [] found passes = absurd (cc found)
  passes_of_found exact test k v (e ∷ es) found passes = go (λ h. passes_of_found exact test k v es h passes) (eq_by_cmp R k e.0) refl found
    where
      go : (find R k es ≡ Some v → list_any test es ≡ true) → (b : Bool) → eq_by_cmp R k e.0 ≡ b → cond b (Some e.1) (find R k es) ≡ Some v →
          (test e || list_any test es) ≡ true
      go later true is h =
          let key : k ≡ e.0 = exact k e.0 ((Equal-is (R k e.0)).0 is) in
          let value : e.1 ≡ v = cc h in
          or_left _ _ (ap test (λ i. (sym key i, value i)) ∙ passes)
      go later false is h = or_right _ _ (later h)

  pub entry_passes : IsAntisymmetric R → (test : (K × X) → Bool) (m : FinMap R X) (k : K) (v : X) → get m k ≡ Some v → test (k, v) ≡ true →
      list_any test (entries m) ≡ true
  entry_passes exact test m k v found passes = passes_of_found exact test k v (entries m) (sym (get-entries m k) ∙ found) passes

  find_found : (test : (K × X) → Bool) (es : List (K × X)) (e : K × X) → is_sorted R es ≡ true → list.find test es ≡ Some e → find R e.0 es ≡ Some e.1
  find_found test [] e sorted is = absurd (cc is)
  find_found test (f ∷ es) e sorted is = go (find_found test es e (second_so (below_all R f.0 es) (is_sorted R es) sorted)) (test f) is
    where
      go : (list.find test es ≡ Some e → find R e.0 es ≡ Some e.1) → (b : Bool) → cond b (Some f) (list.find test es) ≡ Some e → find R e.0 (f ∷ es) ≡ Some e.1
      go later true h =
          let same : f ≡ e = cc h in
          subst (λ (g : K × X). find R g.0 (f ∷ es) ≡ Some g.1) same (ap (λ b. cond b (Some f.1) (find R f.0 es)) (ap is_eq (tied_itself o f.0)))
      go later false h =
          let rest = later h in
          let above = found_above f.0 e.0 e.1 es (first_so (below_all R f.0 es) (is_sorted R es) sorted) rest in
          let apart : eq_by_cmp R e.0 f.0 ≡ false = ap is_eq (o.antisymm e.0 f.0) ∙ less_not_equal (R f.0 e.0) above in
          ap (λ b. cond b (Some f.1) (find R e.0 es)) apart ∙ rest

  -- an entry that a search finds is what the map has at its key
  pub get_found : (test : (K × X) → Bool) (m : FinMap R X) (e : K × X) → list.find test (entries m) ≡ Some e → get m e.0 ≡ Some e.1
  get_found test m e is = get-entries m e.0 ∙ find_found test (entries m) e (truth _ (entries_sorted m)) is
