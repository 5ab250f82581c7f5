-- The entries of all chains, as those of a map and of a directory.
use Rattle.std.proofs.Common.{◌≡◌, ℕ, suc, ◌+◌, true, cond, sum_by, is_some, Option, Some, None, IsSome}
use Rattle.std.proofs.Common.{option_map, List, [], ◌∷◌, ◌++◌, length, length-append, refl, ap, sym, ◌∙◌, arith}
use Rattle.std.specs.Prelude.{map as each}
use Rattle.std.proofs.lemmas.List.{length-map}
use Rattle.std.proofs.lemmas.List.Sums.{sum_by-cons}
use Rattle.std.specs.Option.{option_or}
use Rattle.std.specs.Ordering.{nat_cmp, eq_by_cmp}
use Rattle.std.specs.Cmp.{nat_cmp_total}
use Rattle.std.specs.FinMap as map
use Rattle.std.specs.FinMap.Entries as rising
use Rattle.fl_arena.specs.Chains.{Entry, Chains, IsLinked}
use Rattle.fl_dir.specs.Arenas.{bare, joined, values_on}
use Rattle.fl_dir.specs.Directory.{is_named}
use Rattle.fl_dir.specs.Inside.Kept.{IsKept, has_name, name_in}
use Rattle.fl_dir.specs.Inside.Numbers.{Numbers, AreNumbered, IsHome}
use Rattle.fl_dir.specs.Listed.{AreApart, AreEntries, AreNamedOnce, IsListed, nodes_on}
use Rattle.fl_dir.specs.declared.node.Node.{Node}
use Rattle.fl_dir.specs.declared.nodes.Slot.{Slot}
use Rattle.fl_dir.proofs.Bare.{plain, find_plain, get_bare}
use Rattle.fl_dir.proofs.Entries.{head_below, rest_sorted, none_above}
use Rattle.fl_dir.proofs.Kept.{seen, counts_one, open_there, has_so, node_kept}
use Rattle.fl_dir.proofs.Spread.{find_after, found_behind, none_of, some_on, own_key}

module _ {X : Type 0} where
  abbrev chain : List (List (Entry (ℕ × X))) → ℕ → List (ℕ × X)
  chain cs d = each (λ e. e.item) (Rattle.std.specs.Prelude.slice_index_or cs d [])

  apart_sorted : (es : List (ℕ × X)) → map.is_sorted nat_cmp es ≡ true → AreApart es
  apart_sorted [] sorted = tt
  apart_sorted (e ∷ es) sorted = (none_above es e.0 (head_below e es sorted), apart_sorted es (rest_sorted e es sorted))

  apart_after : (es fs : List (ℕ × X)) → AreApart es → AreApart fs → ((q : ℕ) (x : X) → rising.find nat_cmp q es ≡ Some x → rising.find nat_cmp q fs ≡ None) →
      AreApart (es ++ fs)
  apart_after [] fs first second none = second
  apart_after (e ∷ es) fs first second none = (
    find_after es fs e.0 ∙ ap (λ o. option_or o (rising.find nat_cmp e.0 fs)) first.0
        ∙ none e.0 e.1 (ap (λ b. cond b (Some e.1) (rising.find nat_cmp e.0 es)) (own_key e.0)),
    apart_after es fs first.1 second (λ q x is. let s = found_behind e es q x is (eq_by_cmp nat_cmp q e.0) refl in none q s.0 s.1),
  )

  apart_joined : (cs : List (List (Entry (ℕ × X)))) → ((c : ℕ) → map.is_sorted nat_cmp (chain cs c) ≡ true)
      → ((c d q : ℕ) (x y : X) → rising.find nat_cmp q (chain cs c) ≡ Some x → rising.find nat_cmp q (chain cs d) ≡ Some y → c ≡ d)
      → AreApart (joined cs)
  apart_joined [] sorted once = tt
  apart_joined (es ∷ rest) sorted once =
      apart_after (each (λ e. e.item) es) (joined rest) (apart_sorted (each (λ e. e.item) es) (sorted 0))
      (apart_joined rest (λ c. sorted (suc c)) (λ c d q x y p r. let e : suc c ≡ suc d = once (suc c) (suc d) q x y p r in omega (arith, e)))
      (λ q x is. none_of _ (λ y found. let there = some_on rest q y found in
      let clash : 0 ≡ suc there.0 = once 0 (suc there.0) q x y is there.1 in absurd (omega (arith, clash))))

  length_joined : (cs : List (List (Entry (ℕ × X)))) → length (joined cs) ≡ sum_by length cs
  length_joined [] = refl
  length_joined (es ∷ rest) =
      length-append (each (λ e. e.item) es) (joined rest)
      ∙ ap (λ n. n + length (joined rest)) (length-map es (λ (e : Entry (ℕ × X)). e.item))
      ∙ ap (λ n. length es + n) (length_joined rest) ∙ sym (sum_by-cons length es rest)

  pub is_home : (a : Chains (ℕ × X)) (mask next : ℕ) → AreNumbered a mask next → IsLinked a →
      IsHome a (record { values = values_on a; next = next; limit = a.slots })
  is_home a mask next kept linked = record {
    entries = record {
      apart = apart_joined a.chains kept.sorted (λ c d q x y p r. sym (kept.home c q x p) ∙ kept.home d q y r);
      are = map.get-from_entries nat_cmp_total (joined a.chains);
    };
    given = λ q x is. let there = some_on a.chains q x (sym (map.get-from_entries nat_cmp_total (joined a.chains) q) ∙ is) in kept.below there.0 q x there.1;
    few = let total = linked.others in omega (arith, length_joined a.chains, total);
  }

-- ---- the nodes without their counts

apart_plain : (es : List (ℕ × Slot)) → AreApart es → AreApart (plain es)
apart_plain [] apart = tt
apart_plain (e ∷ es) apart = (find_plain e.0 es ∙ ap (option_map (λ (s : Slot). s.node)) apart.0, apart_plain es apart.1)

entries_plain : (es : List (ℕ × Slot)) (m : map.FinMap nat_cmp Slot) → AreEntries es m → AreEntries (plain es) (bare m)
entries_plain es m list = record {
  apart = apart_plain es list.apart;
  are = λ q. get_bare m q ∙ ap (option_map (λ (s : Slot). s.node)) (list.are q) ∙ sym (find_plain q es);
}

named_once : (n : Numbers Slot) (f : Numbers ℕ) (names : Chains (ℕ × ℕ)) (mask : ℕ) → IsKept n names mask f → AreNamedOnce (bare n.values)
named_once n f names mask kept k l a b name first second one other = kept.once k l name (own k a first one) (own l b second other)
  where
    own : (k : ℕ) (a : Node) → map.get (bare n.values) k ≡ Some a → is_named a name ≡ true → name_in (map.get n.values k) ≡ Some name
    own k a is named = has_so (map.get n.values k) name (ap (λ o. has_name o name) (sym (get_bare n.values k) ∙ is) ∙ named)

some_plain : (o : Option Slot) → IsSome o → is_some (option_map (λ (s : Slot). s.node) o) ≡ true
some_plain None is = absurd (cc is)
some_plain (Some s) is = refl

pub is_listed : (n : Numbers Slot) (f : Numbers ℕ) (names : Chains (ℕ × ℕ)) (mask : ℕ) (a : Chains (ℕ × Slot)) (b : Chains (ℕ × ℕ)) → IsKept n names mask f
    → IsHome a n → IsHome b f → IsListed (seen n f) (nodes_on a) (joined b.chains)
is_listed n f names mask a b kept nodes files = record {
  nodes_are = entries_plain (joined a.chains) n.values nodes.entries;
  once = named_once n f names mask kept;
  nodes_given = λ k node is. let s = node_kept n.values k (ap is_some is) in nodes.given k s.0 s.1;
  nodes_above = λ k node is. let s = node_kept n.values k (ap is_some is) in kept.nodes_above.each k s.0 s.1;
  next_node_above = kept.nodes_above.next;
  few_nodes = let few = nodes.few in let same = length-map {B = ℕ × Node} (joined a.chains) (λ (e : ℕ × Slot). (e.0, e.1.node)) in omega (arith, few, same);
  files_are = files.entries;
  files_given = files.given;
  files_above = kept.files_above.each;
  next_fh_above = kept.files_above.next;
  few_files = files.few;
  there = λ fh node is. ap is_some (get_bare n.values node)
      ∙ some_plain (map.get n.values node) (open_there n.values node (counts_one n names mask f node fh kept is));
}
