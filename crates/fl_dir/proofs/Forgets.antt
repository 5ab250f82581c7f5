-- A node of which lookups are forgotten.
use Rattle.std.proofs.Common.{◌≡◌, ℕ, ◌-◌, Bool, true, false, cond, Option, Some, None, option_map, refl, ap, sym, ◌∙◌}
use Rattle.std.specs.Ordering.{nat_cmp, eq_by_cmp}
use Rattle.std.specs.Cmp.{nat_cmp_total}
use Rattle.std.specs.FinMap as map
use Rattle.fl_dir.specs.declared.node.Node.{Node}
use Rattle.fl_dir.specs.Directory.{Listing}
use Rattle.fl_dir.specs.OpenFiles.{lives}
use Rattle.fl_dir.specs.Changes.{set_at, changed_at, counted_down, swept, swept_node, after_forget}
use Rattle.fl_dir.specs.Inside.Kept.{left_of}
use Rattle.fl_dir.proofs.Spread.{own_key}

-- what was put in and taken away is as if it hadn't been
removed_again : (m : map.FinMap nat_cmp Node) (k : ℕ) (v : Node) → map.remove (map.insert m k v) k ≡ map.remove m k
removed_again m k v =
    map.same_map nat_cmp_total map.nat_cmp-IsAntisymmetric _ _
    (λ q. map.get-remove nat_cmp_total (map.insert m k v) k q ∙ ap (cond (eq_by_cmp nat_cmp q k) None) (map.get-insert nat_cmp_total m k v q)
    ∙ twice (eq_by_cmp nat_cmp q k) (map.get m q) ∙ sym (map.get-remove nat_cmp_total m k q))
  where
    twice : (b : Bool) (o : Option Node) → cond b None (cond b (Some v) o) ≡ cond b None o
    twice true o = refl
    twice false o = refl

-- the directory after a FORGET of a node that is there
module _ (d : Listing) (k n : ℕ) (node : Node) (there : map.get d.nodes k ≡ Some node) where
  abbrev less : Listing
  less = record d { nodes = map.insert d.nodes k (counted_down n node) }

  forgets : after_forget d k n ≡ cond (lives d k (counted_down n node)) less (record d { nodes = map.remove (map.insert d.nodes k (counted_down n node)) k })
  forgets =
      ap (λ o. swept k (record d { nodes = set_at d.nodes k (option_map (counted_down n) o) })) there
      ∙ ap (swept_node less k) (map.get-insert nat_cmp_total d.nodes k (counted_down n node) k
      ∙ ap (λ b. cond b (Some (counted_down n node)) (map.get d.nodes k)) (own_key k))

  pub stays : (lookups : ℕ) → lookups ≡ node.lookups - n → lives d k (counted_down n node) ≡ true
      → record d { nodes = changed_at d.nodes k (λ (x : Node). record x { lookups = lookups }) } ≡ after_forget d k n
  stays lookups left is =
      ap (λ o. record d { nodes = set_at d.nodes k (option_map (λ (x : Node). record x { lookups = lookups }) o) }) there
      ∙ ap (λ l. record d { nodes = map.insert d.nodes k (record node { lookups = l }) }) left
      ∙ sym (forgets ∙ ap (λ b. cond b less (record d { nodes = map.remove (map.insert d.nodes k (counted_down n node)) k })) is)

  pub goes : lives d k (counted_down n node) ≡ false → record d { nodes = map.remove d.nodes k } ≡ after_forget d k n
  goes is =
      ap (λ m. record d { nodes = m }) (sym (removed_again d.nodes k (counted_down n node)))
      ∙ sym (forgets ∙ ap (λ b. cond b less (record d { nodes = map.remove (map.insert d.nodes k (counted_down n node)) k })) is)

pub left_stays : (d : Listing) (k n lookups : ℕ) (b : Bool) → Some (lookups, b) ≡ option_map (left_of d k n) (map.get d.nodes k) → b ≡ true
    → record d { nodes = changed_at d.nodes k (λ (x : Node). record x { lookups = lookups }) } ≡ after_forget d k n
left_stays d k n lookups b left is = go (map.get d.nodes k) refl left
  where
    go : (o : Option Node) → map.get d.nodes k ≡ o → Some (lookups, b) ≡ option_map (left_of d k n) o
        → record d { nodes = changed_at d.nodes k (λ (x : Node). record x { lookups = lookups }) } ≡ after_forget d k n
    go None at same = absurd (cc same)
    go (Some node) at same =
        let two : (lookups, b) ≡ left_of d k n node = cc same in
        stays d k n node at lookups (ap (λ (p : ℕ × Bool). p.0) two) (sym (ap (λ (p : ℕ × Bool). p.1) two) ∙ is)

pub left_goes : (d : Listing) (k n lookups : ℕ) (b : Bool) → Some (lookups, b) ≡ option_map (left_of d k n) (map.get d.nodes k) → b ≡ false
    → record d { nodes = map.remove d.nodes k } ≡ after_forget d k n
left_goes d k n lookups b left is = go (map.get d.nodes k) refl left
  where
    go : (o : Option Node) → map.get d.nodes k ≡ o → Some (lookups, b) ≡ option_map (left_of d k n) o
        → record d { nodes = map.remove d.nodes k } ≡ after_forget d k n
    go None at same = absurd (cc same)
    go (Some node) at same =
        let two : (lookups, b) ≡ left_of d k n node = cc same in
        goes d k n node at (sym (ap (λ (p : ℕ × Bool). p.1) two) ∙ is)
