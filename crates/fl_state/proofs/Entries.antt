-- Entries that are put into a map one after another.
use Rattle.std.proofs.Common.{◌≡◌, ℕ, ◌+◌, ◌<◌, ◌≤◌, ◌&&◌, Bool, true, false, cond, not, nat_lt, is_some, Option, Some, None, List, [], ◌∷◌, ◌++◌, length}
use Rattle.std.proofs.Common.{length-append, refl, sym, ap, ◌∙◌, subst, arith, T}
use Rattle.std.proofs.lemmas.Bool.Decides.{nat_tests}
use Rattle.std.proofs.lemmas.Option.{none-some}
use Rattle.std.proofs.lemmas.Slice.Eq.{bytes_eq-Decides}
use Rattle.std.specs.Cmp.{nat_cmp_total, first_so, second_so}
use Rattle.std.specs.Str.{bytes_eq}
use Rattle.std.specs.List.{find, fold}
use Rattle.std.specs.Option.{option_or}
use Rattle.std.specs.Ordering.{nat_cmp, eq_by_cmp, is_lt}
use Rattle.std.specs.FinMap as map
use Rattle.std.specs.FinMap.Entries as rising
use Rattle.std.specs.FinMap.{FinMap}
use Rattle.fl_dir.specs.Directory.{Listing, linked, is_named}
use Rattle.fl_dir.specs.Listed.{AreApart, AreEntries, AreNamedOnce}
use Rattle.fl_dir.specs.Restored.{fits_node}
use Rattle.fl_dir.specs.declared.node.Node.{Node}

-- a map once these entries are put into it, one after another
abbrev pub put_all : {X : Type 0} → List (ℕ × X) → FinMap nat_cmp X → FinMap nat_cmp X
put_all es m = fold (λ m e. map.insert m e.0 e.1) m es

same_key : (q k : ℕ) → eq_by_cmp nat_cmp q k ≡ true → q ≡ k
same_key q k is = grind (arith, nat_tests)

pub own_key : (q : ℕ) → eq_by_cmp nat_cmp q q ≡ true
own_key q = grind (arith, nat_tests)

pub or_none : {A : Type 0} (o : Option A) → option_or o None ≡ o
or_none None = refl
or_none (Some x) = refl

neither : {A : Type 0} (o p : Option A) → option_or o p ≡ None → (o ≡ None) × (p ≡ None)
neither None p e = (refl, e)
neither (Some x) p e = absurd (none-some x (sym e))

below_none : {X : Type 0} (es : List (ℕ × X)) (k : ℕ) → rising.below_all nat_cmp k es ≡ true → map.find nat_cmp k es ≡ None
below_none [] k below = refl
below_none (e ∷ es) k below =
    ap (λ b. cond b (Some e.1) (map.find nat_cmp k es)) (apart k e.0 (first_so (is_lt (nat_cmp k e.0)) (rising.below_all nat_cmp k es) below))
    ∙ below_none es k (second_so (is_lt (nat_cmp k e.0)) (rising.below_all nat_cmp k es) below)
  where
    apart : (a b : ℕ) → is_lt (nat_cmp a b) ≡ true → eq_by_cmp nat_cmp a b ≡ false
    apart a b less = grind (arith, nat_tests)

module _ {X : Type 0} where
  pub get_put : (es : List (ℕ × X)) (m : FinMap nat_cmp X) (q : ℕ) → AreApart es → map.get (put_all es m) q ≡ option_or (map.find nat_cmp q es) (map.get m q)
  get_put [] m q apart = refl
  get_put (e ∷ es) m q apart =
      get_put es (map.insert m e.0 e.1) q apart.1 ∙ ap (option_or (map.find nat_cmp q es)) (map.get-insert nat_cmp_total m e.0 e.1 q)
      ∙ go (eq_by_cmp nat_cmp q e.0) refl
    where
      after : Bool → Option X
      after b = option_or (cond b (Some e.1) (map.find nat_cmp q es)) (map.get m q)

      go : (b : Bool) → eq_by_cmp nat_cmp q e.0 ≡ b → option_or (map.find nat_cmp q es) (cond b (Some e.1) (map.get m q)) ≡ after (eq_by_cmp nat_cmp q e.0)
      go true is = ap (λ o. option_or o (Some e.1)) (ap (λ k. map.find nat_cmp k es) (same_key q e.0 is) ∙ apart.0) ∙ sym (ap after is)
      go false is = sym (ap after is)

  pub is_put : (es : List (ℕ × X)) (m : FinMap nat_cmp X) → AreEntries es m → put_all es map.empty ≡ m
  is_put es m list =
      map.same_map nat_cmp_total map.nat_cmp-IsAntisymmetric _ _
      (λ q. get_put es map.empty q list.apart ∙ ap (option_or (map.find nat_cmp q es)) (map.get-empty nat_cmp q) ∙ or_none _ ∙ sym (list.are q))

  pub find_after : (es fs : List (ℕ × X)) (q : ℕ) → map.find nat_cmp q (es ++ fs) ≡ option_or (map.find nat_cmp q es) (map.find nat_cmp q fs)
  find_after [] fs q = refl
  find_after (e ∷ es) fs q = go (eq_by_cmp nat_cmp q e.0) (find_after es fs q)
    where
      go : (b : Bool) → map.find nat_cmp q (es ++ fs) ≡ option_or (map.find nat_cmp q es) (map.find nat_cmp q fs) →
          cond b (Some e.1) (map.find nat_cmp q (es ++ fs)) ≡ option_or (cond b (Some e.1) (map.find nat_cmp q es)) (map.find nat_cmp q fs)
      go true rest = refl
      go false rest = rest

  -- the number of an entry stands nowhere before it
  pub fresh : (front rest : List (ℕ × X)) (k : ℕ) (x : X) → AreApart (front ++ (k, x) ∷ rest) → map.find nat_cmp k front ≡ None
  fresh [] rest k x apart = refl
  fresh (e ∷ front) rest k x apart = go (eq_by_cmp nat_cmp k e.0) refl (fresh front rest k x apart.1)
    where
      go : (b : Bool) → eq_by_cmp nat_cmp k e.0 ≡ b → map.find nat_cmp k front ≡ None → map.find nat_cmp k (e ∷ front) ≡ None
      go true is later =
          let none = (neither _ _ (sym (find_after front ((k, x) ∷ rest) e.0) ∙ apart.0)).1 in
          let here : Some x ≡ None = sym (ap (λ b. cond b (Some x) (map.find nat_cmp e.0 rest)) (ap (λ q. eq_by_cmp nat_cmp q k) (sym (same_key k e.0 is)) ∙ own_key k)) ∙ none in
          absurd (none-some x (sym here))
      go false is later = ap (λ b. cond b (Some e.1) (map.find nat_cmp k front)) is ∙ later

  pub apart_front : (front rest : List (ℕ × X)) → AreApart (front ++ rest) → AreApart front
  apart_front [] rest apart = tt
  apart_front (e ∷ front) rest apart = ((neither _ _ (sym (find_after front rest e.0) ∙ apart.0)).0, apart_front front rest apart.1)

  pub len_put : (es : List (ℕ × X)) (m : FinMap nat_cmp X) → map.len (put_all es m) ≤ map.len m + length es
  len_put [] m = omega arith
  len_put (e ∷ es) m =
      let more = grown (map.contains_key m e.0) (map.len m) _ (map.len-insert nat_cmp_total m e.0 e.1) in
      let rest = len_put es (map.insert m e.0 e.1) in
      omega arith
    where
      grown : (b : Bool) (n k : ℕ) → k ≡ cond b n (n + 1) → k ≤ n + 1
      grown true n k is = omega (arith, is)
      grown false n k is = omega (arith, is)

pub lower : (a b : ℕ) → a < b → nat_lt a b ≡ true
lower a b h = grind (arith, nat_tests)

-- ---- a node fits those before it

-- what a search finds among entries that rise passes its test, and stands there
found_there : {X : Type 0} (p : (ℕ × X) → Bool) (es : List (ℕ × X)) (e : ℕ × X) → AreApart es → find p es ≡ Some e → (p e ≡ true) × (map.find nat_cmp e.0 es ≡ Some e.1)
found_there p [] e apart is = absurd (none-some e is)
found_there {X = X} p (f ∷ es) e apart is = go (p f) refl (found_there p es e apart.1) is
  where
    go : (b : Bool) → p f ≡ b → (find p es ≡ Some e → (p e ≡ true) × (map.find nat_cmp e.0 es ≡ Some e.1)) → cond b (Some f) (find p es) ≡ Some e
        → (p e ≡ true) × (map.find nat_cmp e.0 (f ∷ es) ≡ Some e.1)
    go true passes later h =
        let same : f ≡ e = cc h in
        subst (λ (x : ℕ × X). (p x ≡ true) × (map.find nat_cmp x.0 (f ∷ es) ≡ Some x.1)) same
        (passes, ap (λ b. cond b (Some f.1) (map.find nat_cmp f.0 es)) (own_key f.0))
    go false fails later h =
        let there = later h in
        (there.0, elsewhere (eq_by_cmp nat_cmp e.0 f.0) refl there.1)
      where
        elsewhere : (b : Bool) → eq_by_cmp nat_cmp e.0 f.0 ≡ b → map.find nat_cmp e.0 es ≡ Some e.1 → map.find nat_cmp e.0 (f ∷ es) ≡ Some e.1
        elsewhere true same found = absurd (none-some e.1 (sym apart.0 ∙ ap (λ k. map.find nat_cmp k es) (sym (same_key e.0 f.0 same)) ∙ found))
        elsewhere false other found = ap (λ b. cond b (Some f.1) (map.find nat_cmp e.0 es)) other ∙ found

-- entries of a map are apart
entries_apart : {X : Type 0} (es : List (ℕ × X)) → map.is_sorted nat_cmp es ≡ true → AreApart es
entries_apart [] sorted = tt
entries_apart (e ∷ es) sorted = (
  below_none es e.0 (first_so (rising.below_all nat_cmp e.0 es) (map.is_sorted nat_cmp es) sorted),
  entries_apart es (second_so (rising.below_all nat_cmp e.0 es) (map.is_sorted nat_cmp es) sorted),
)

truth : (b : Bool) → T b → b ≡ true
truth true t = refl
truth false t = absurd t

pub node_fits : (d : Listing) (front rest : List (ℕ × Node)) (number : ℕ) (node : Node) → AreEntries (front ++ (number, node) ∷ rest) d.nodes
    → AreNamedOnce d.nodes → 1 < number → number < d.next_node → length (front ++ (number, node) ∷ rest) ≤ d.most_nodes
    → fits_node (record d { nodes = put_all front map.empty }) number node ≡ true
node_fits d front rest number node list once high given few =
    λ i. (lower 1 number high i && (lower number d.next_node given i && (not (is_some (here i)) && room i))) && not (name i)
  where
    told : FinMap nat_cmp Node
    told = put_all front map.empty

    all : List (ℕ × Node)
    all = front ++ (number, node) ∷ rest

    ahead : AreApart front
    ahead = apart_front front ((number, node) ∷ rest) list.apart

    get_told : (q : ℕ) → map.get told q ≡ map.find nat_cmp q front
    get_told q = get_put front map.empty q ahead ∙ ap (option_or (map.find nat_cmp q front)) (map.get-empty nat_cmp q) ∙ or_none _

    none : map.find nat_cmp number front ≡ None
    none = fresh front rest number node list.apart

    here : map.get told number ≡ None
    here = get_told number ∙ none

    room : nat_lt (map.len told) d.most_nodes ≡ true
    room =
        let most = len_put front map.empty in
        let nothing = map.len-empty nat_cmp Node in
        let long = length-append front ((number, node) ∷ rest) in
        lower (map.len told) d.most_nodes (omega (arith, most, nothing, long, few))

    own : map.get d.nodes number ≡ Some node
    own =
        list.are number ∙ find_after front ((number, node) ∷ rest) number
        ∙ ap (λ o. option_or o (map.find nat_cmp number ((number, node) ∷ rest))) none
        ∙ ap (λ b. cond b (Some node) (map.find nat_cmp number rest)) (own_key number)

    itself : node.linked ≡ true → is_named node node.name ≡ true
    itself linked = ap (λ b. b && bytes_eq node.name node.name) linked ∙ (bytes_eq-Decides node.name node.name).1 refl

    test : (ℕ × Node) → Bool
    test e = is_named e.1 node.name

    -- no node that is told has the name
    clash : node.linked ≡ true → (e : ℕ × Node) → find test (map.entries told) ≡ Some e → ⊥
    clash linked e is =
        let there = found_there test (map.entries told) e (entries_apart (map.entries told) (truth _ (map.entries_sorted told))) is in
        let before : map.find nat_cmp e.0 front ≡ Some e.1 = sym (get_told e.0) ∙ map.get-entries told e.0 ∙ there.1 in
        let whole : map.get d.nodes e.0 ≡ Some e.1 = list.are e.0 ∙ find_after front ((number, node) ∷ rest) e.0
        ∙ ap (λ o. option_or o (map.find nat_cmp e.0 ((number, node) ∷ rest))) before in
        let same : e.0 ≡ number = once e.0 number e.1 node node.name whole own there.0 (itself linked) in
        none-some e.1 (sym none ∙ ap (λ k. map.find nat_cmp k front) (sym same) ∙ before)

    name : (node.linked && is_some (linked (record d { nodes = told }) node.name)) ≡ false
    name = go node.linked refl (find test (map.entries told)) refl
      where
        go : (b : Bool) → node.linked ≡ b → (o : Option (ℕ × Node)) → find test (map.entries told) ≡ o → (b && is_some o) ≡ false
        go false l o is = refl
        go true l None is = refl
        go true l (Some e) is = absurd (clash l e is)
