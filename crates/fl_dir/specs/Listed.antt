-- What a directory keeps of its entries, in whichever order they stand.
use Rattle.std.specs.Prelude.{◌≡◌, ℕ, ◌<◌, ◌≤◌, true, is_some, Some, None, List, [], ◌∷◌, length, map}
use Rattle.std.specs.Ordering.{nat_cmp}
use Rattle.std.specs.FinMap.{FinMap, get, find}
use Rattle.fl_arena.specs.Chains.{Chains}
use Rattle.fl_dir.specs.Arenas.{joined}
use Rattle.fl_dir.specs.Directory.{Listing, is_named}
use Rattle.fl_dir.specs.declared.node.Node.{Node}
use Rattle.fl_dir.specs.declared.nodes.Slot.{Slot}

module _ {X : Type 0} where
  -- no number stands twice
  abbrev pub AreApart : List (ℕ × X) → Type 0
  AreApart [] = Unit {0}
  AreApart (e ∷ es) = (find nat_cmp e.0 es ≡ None) × AreApart es

  -- these are the entries of a map, in some order
  pub record AreEntries (es : List (ℕ × X)) (m : FinMap nat_cmp X) : Type 0 where
    pub apart : AreApart es
    pub are : (q : ℕ) → get m q ≡ find nat_cmp q es

-- no name is linked twice
abbrev pub AreNamedOnce : FinMap nat_cmp Node → Type 0
AreNamedOnce m =
    (k l : ℕ) (a b : Node) (name : List ℕ) → get m k ≡ Some a → get m l ≡ Some b → is_named a name ≡ true
    → is_named b name ≡ true → k ≡ l

-- the nodes of all chains, one chain after another, without their counts of open files
abbrev pub nodes_on : Chains (ℕ × Slot) → List (ℕ × Node)
nodes_on a = map (λ e. (e.0, e.1.node)) (joined a.chains)

-- These are the nodes and the open files of a directory. All their numbers were given, those of nodes begin above the
-- root's and those of open files above 0. There are no more than there may be, no name is linked twice, and each open
-- file has its node.
pub record IsListed (d : Listing) (nodes : List (ℕ × Node)) (files : List (ℕ × ℕ)) : Type 0 where
  pub nodes_are : AreEntries nodes d.nodes
  pub once : AreNamedOnce d.nodes
  pub nodes_given : (k : ℕ) (node : Node) → get d.nodes k ≡ Some node → k < d.next_node
  pub nodes_above : (k : ℕ) (node : Node) → get d.nodes k ≡ Some node → 1 < k
  pub next_node_above : 1 < d.next_node
  pub few_nodes : length nodes ≤ d.most_nodes
  pub files_are : AreEntries files d.files
  pub files_given : (fh node : ℕ) → get d.files fh ≡ Some node → fh < d.next_fh
  pub files_above : (fh node : ℕ) → get d.files fh ≡ Some node → 0 < fh
  pub next_fh_above : 0 < d.next_fh
  pub few_files : length files ≤ d.most_files
  pub there : (fh node : ℕ) → get d.files fh ≡ Some node → is_some (get d.nodes node) ≡ true
