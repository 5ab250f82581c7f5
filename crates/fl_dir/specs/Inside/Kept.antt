-- How a directory is kept: each node with a count of its open files, and the linked nodes by hashes of their names.
use Rattle.std.specs.Prelude.{◌≡◌, ℕ, ◌+◌, ◌*◌, ◌≤◌, ◌^◌, ◌%◌, ◌==◌, bit_xor, count_by, Bool, false, not, Option}
use Rattle.std.specs.Prelude.{Some, None, List}
use Rattle.std.specs.Prelude.{length, if◌then◌else◌}
use Rattle.std.specs.List.{fold}
use Rattle.std.specs.Ordering.{nat_cmp}
use Rattle.std.specs.Int.Bits.{bit_and}
use Rattle.std.specs.FinMap.{FinMap, get, entries}
use Rattle.fl_arena.specs.Chains.{Chains}
use Rattle.fl_dir.specs.declared.node.Node.{Node}
use Rattle.fl_dir.specs.declared.nodes.Slot.{Slot}
use Rattle.fl_dir.specs.Directory.{Listing, is_named}
use Rattle.fl_dir.specs.OpenFiles.{lives}
use Rattle.fl_dir.specs.Changes.{counted_down}
use Rattle.fl_dir.specs.Inside.Numbers.{Numbers, AreAbove}
use Rattle.fl_dir.specs.Inside.Spread.{at, AreSorted}

-- a hash that goes on with one more byte (FNV-1a: the prime of its 32 bits)
abbrev pub hashed : ℕ → ℕ → ℕ
hashed hash byte = bit_xor hash byte * 16777619 % 2 ^ 32

-- the hash of a name (FNV-1a: the first value of its 32 bits)
unfoldable pub hash_of : List ℕ → ℕ
hash_of name = fold hashed 2166136261 name

-- the name under which a node is linked, if it is
abbrev pub link_name : Node → Option (List ℕ)
link_name node = if node.linked then Some node.name else None

-- the name under which a node that may be there is linked
abbrev pub name_in : Option Slot → Option (List ℕ)
name_in None = None
name_in (Some slot) = link_name slot.node

-- a node that may be there is linked under this name
abbrev pub has_name : Option Node → List ℕ → Bool
has_name None name = false
has_name (Some node) name = is_named node name

-- the count of a node that may be there
abbrev pub open_in : Option Slot → ℕ
open_in None = 0
open_in (Some slot) = slot.fhs

-- what the chain of this number has of a node that may have a name: its hash, if the hash's low bits are the chain's
abbrev pub hash_on : ℕ → ℕ → Option (List ℕ) → Option ℕ
hash_on mask c None = None
hash_on mask c (Some name) = if bit_and (hash_of name) mask == c then Some (hash_of name) else None

-- a node that may be there is there, and nothing keeps it alive
abbrev pub is_dead : Listing → ℕ → Option Node → Bool
is_dead d number None = false
is_dead d number (Some node) = not (lives d number node)

-- how many lookups a node has with so many less, and whether something keeps it alive then
abbrev pub left_of : Listing → ℕ → ℕ → Node → ℕ × Bool
left_of d number n node = ((counted_down n node).lookups, lives d number (counted_down n node))

-- how many fhs are open on a node
abbrev pub open_count : FinMap nat_cmp ℕ → ℕ → ℕ
open_count files node = count_by (λ file. file.1 == node) (entries files)

-- the chains by hash have the linked nodes and no others, each on the chain of its name's hash
pub record AreNamed (slots : FinMap nat_cmp Slot) (names : Chains (ℕ × ℕ)) (mask : ℕ) : Type 0 where
  pub chains : mask + 1 ≡ length names.chains
  pub sorted : AreSorted names
  pub linked : (c number : ℕ) → at names c number ≡ hash_on mask c (name_in (get slots number))

-- no name is linked twice, each count is right, and neither the root's number nor fh 0 is given
pub record IsKept (nodes : Numbers Slot) (names : Chains (ℕ × ℕ)) (mask : ℕ) (files : Numbers ℕ) : Type 0 where
  pub named : AreNamed nodes.values names mask
  pub room : names.slots ≡ nodes.limit
  pub once : (k l : ℕ) (name : List ℕ)
      → name_in (get nodes.values k) ≡ Some name → name_in (get nodes.values l) ≡ Some name → k ≡ l
  pub counts : (node : ℕ) → open_in (get nodes.values node) ≡ open_count files.values node
  pub few : files.limit ≤ 2 ^ 16
  pub nodes_above : AreAbove 1 nodes
  pub files_above : AreAbove 0 files
