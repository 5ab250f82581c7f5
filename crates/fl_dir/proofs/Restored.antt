-- Places for what is told again, in the listing and where it is kept.
use Rattle.std.proofs.Common.{◌≡◌, ℕ, ◌<◌, ◌||◌, ◌&&◌, Bool, true, false, cond, not, nat_le, nat_lt, Option, Some, None, option_map, is_some}
use Rattle.std.proofs.Common.{refl, ap, sym, ◌∙◌, arith}
use Rattle.std.proofs.lemmas.Bool.Decides.{nat_tests}
use Rattle.std.specs.FinMap as map
use Rattle.fl_dir.specs.declared.node.Node.{Node}
use Rattle.fl_dir.specs.declared.nodes.Slot.{Slot}
use Rattle.fl_dir.specs.Restored.{has_node_place, has_file_place}
use Rattle.fl_dir.specs.Inside.Kept.{link_name}
use Rattle.fl_dir.specs.Inside.Numbers.{Numbers, has_place}
use Rattle.fl_dir.proofs.Bare.{get_bare, len_bare}
use Rattle.fl_dir.proofs.Kept.{seen}

present : (o : Option Slot) → is_some o ≡ is_some (option_map (λ (s : Slot). s.node) o)
present None = refl
present (Some s) = refl

-- a place where nodes are kept is one in the listing, if its number is above the root's
pub place_bare : (n : Numbers Slot) (f : Numbers ℕ) (number : ℕ) → (nat_lt 1 number && has_place n number) ≡ has_node_place (seen n f) number
place_bare n f number =
    let there = present (map.get n.values number) ∙ sym (ap is_some (get_bare n.values number)) in
    λ i. nat_lt 1 number && (nat_lt number n.next && (not (there i) && nat_lt (sym (len_bare n.values) i) n.limit))

pub above_place : (n : Numbers Slot) (f : Numbers ℕ) (number : ℕ) → 1 < number → has_place n number ≡ has_node_place (seen n f) number
above_place n f number high = ap (λ b. b && has_place n number) higher ∙ place_bare n f number
  where
    higher : true ≡ nat_lt 1 number
    higher = grind (arith, nat_tests)

above : (least number : ℕ) (b : Bool) → (nat_lt least number && b) ≡ true → (least < number) × (b ≡ true)
above least number b is = go (nat_lt least number) refl is
  where
    go : (a : Bool) → nat_lt least number ≡ a → (a && b) ≡ true → (least < number) × (b ≡ true)
    go true less is = (grind (arith, nat_tests), is)
    go false less is = absurd (cc is)

pub node_place : (n : Numbers Slot) (f : Numbers ℕ) (number : ℕ) → has_node_place (seen n f) number ≡ true → (1 < number) × (has_place n number ≡ true)
node_place n f number is = above 1 number (has_place n number) (place_bare n f number ∙ is)

pub file_place : (n : Numbers Slot) (f : Numbers ℕ) (fh : ℕ) → has_file_place (seen n f) fh ≡ true → (0 < fh) × (has_place f fh ≡ true)
file_place n f fh is = above 0 fh (has_place f fh) is

-- a node that isn't linked has no name
pub no_name : (node : Node) → node.linked ≡ false → link_name node ≡ None
no_name node unlinked = ap (λ b. cond b (Some node.name) None) unlinked

-- there is room for a count if there is a place for a file
pub room_of_place : (few limit : ℕ) (a b : Bool) → (a && (b && nat_lt few limit)) ≡ true → (nat_le limit few || false) ≡ false
room_of_place few limit true true h = grind (arith, nat_tests)
room_of_place few limit true false h = absurd (cc h)
room_of_place few limit false b h = absurd (cc h)
