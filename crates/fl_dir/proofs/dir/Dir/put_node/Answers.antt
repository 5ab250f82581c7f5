use Rattle.std.proofs.Common.{◌≡◌, ◌∙◌, ℕ, ◌<◌, None, true, ap, sym, subst, refl, arith}
use Rattle.std.specs.FinMap.{insert}
use Rattle.fl_dir.specs.Directory.{Listing, linked}
use Rattle.fl_dir.specs.Restored.{has_node_place, with_node}
use Rattle.fl_dir.specs.Inside.Kept.{IsKept}
use Rattle.fl_dir.specs.Inside.Numbers.{Numbers, has_place}
use Rattle.fl_dir.specs.declared.nodes.Slot.{Slot}
use Rattle.fl_dir.proofs.Bare.{bare_insert}
use Rattle.fl_dir.proofs.Kept.{seen, few_names, is_free, linked_more, unlinked_more, so_linked}
use Rattle.fl_dir.proofs.Numbers.{is_place}
use Rattle.fl_dir.proofs.Restored.{node_place, no_name}
use Rattle.fl_dir.proofs.dir.Dir.put_node.Goals as goal

placed : (n : Numbers Slot) (f : Numbers ℕ) (number : ℕ) (d : Listing) → seen n f ≡ d → has_node_place d number ≡ true → (1 < number) × (has_place n number ≡ true)
placed n f number d view place = node_place n f number (subst (λ d. has_node_place d number ≡ true) (sym view) place)

pub put-requires : goal.put-requires
put-requires c = let own = c.self.inside in (placed own.nodes own.files c.args.number c.args.self.now c.self.view_is c.requires.place).1

pub link_again-requires-clause-room : goal.link_again-requires-clause-room
link_again-requires-clause-room c =
    let own = c.self.inside in
    let place = (placed own.nodes own.files c.args.number c.args.self.now c.self.view_is c.requires.place).1 in
    let room = (is_place own.nodes c.args.number place).room in
    let most = few_names own.nodes own.names.entries own.names.mask own.files c.self.invariant in
    let same = c.self.invariant.room in
    omega arith

pub invariant_of-self : goal.invariant_of-self
invariant_of-self c =
    let own = c.self.inside in
    let slot : Slot = record { node = c.args.node.now; fhs = 0 } in
    let free = subst (λ d. linked d c.args.node.now.name ≡ None) (sym c.self.view_is) (c.requires.free c.if-node.true) in
    subst (λ m. IsKept m c.link_again.new.self.entries c.link_again.new.self.mask own.files) (sym c.put.ensures.after)
    (subst (λ m. IsKept (record own.nodes { values = insert own.nodes.values c.args.number slot }) c.link_again.new.self.entries m own.files) (sym c.link_again.ensures.mask)
    (linked_more own.nodes own.names.entries c.link_again.new.self.entries own.names.mask own.files c.args.number own.nodes.next slot c.args.node.now.name c.self.invariant
    (placed own.nodes own.files c.args.number c.args.self.now c.self.view_is c.requires.place).0 c.self.invariant.nodes_above.next
    c.put.ensures.fresh (so_linked c.args.node.now c.args.node.now.name c.if-node.true refl) refl (is_free own.nodes.values c.args.node.now.name free)
    c.link_again.ensures.linked))

pub invariant_of-self-else-node : goal.invariant_of-self-else-node
invariant_of-self-else-node c =
    let own = c.self.inside in
    subst (λ m. IsKept m own.names.entries own.names.mask own.files) (sym c.put.ensures.after)
    (unlinked_more own.nodes own.names.entries own.names.mask own.files c.args.number (record { node = c.args.node.now; fhs = 0 }) c.self.invariant
    (placed own.nodes own.files c.args.number c.args.self.now c.self.view_is c.requires.place).0 c.put.ensures.fresh (no_name c.args.node.now c.if-node.false) refl)

-- what is seen once the slot is put
put_seen : (n m : Numbers Slot) (f : Numbers ℕ) (number : ℕ) (slot : Slot) (d : Listing) → m ≡ record n { values = insert n.values number slot } → seen n f ≡ d
    → seen m f ≡ with_node d number slot.node
put_seen n m f number slot d after view =
    ap (λ m. seen m f) after ∙ ap (λ b. record (seen n f) { nodes = b }) (bare_insert n.values number slot) ∙ ap (λ (d : Listing). with_node d number slot.node) view

pub returns-then-node : goal.returns-then-node
returns-then-node c =
    let own = c.self.inside in
    put_seen own.nodes c.put.new.self own.files c.args.number (record { node = c.args.node.now; fhs = 0 }) c.args.self.now c.put.ensures.after c.self.view_is

pub returns-else-node : goal.returns-else-node
returns-else-node c =
    let own = c.self.inside in
    put_seen own.nodes c.put.new.self own.files c.args.number (record { node = c.args.node.now; fhs = 0 }) c.args.self.now c.put.ensures.after c.self.view_is
