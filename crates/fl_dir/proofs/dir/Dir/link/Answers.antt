use Rattle.std.proofs.Common.{◌≡◌, ◌∙◌, ◌+◌, ◌<◌, ◌≤◌, ◌||◌, ◌==◌, false, nat_le, Some, None, option_map, ap, sym, subst, refl, arith}
use Rattle.std.specs.FinMap.{get, insert, len}
use Rattle.fl_dir.specs.Directory.{Listing, linked, nodes_full}
use Rattle.std.specs.Int.Bits.{bit_and}
use Rattle.fl_dir.specs.declared.nodes.Slot.{Slot}
use Rattle.fl_dir.specs.Inside.Spread.{IsAltered}
use Rattle.fl_dir.specs.Inside.Kept.{name_in, hash_of, hash_on, IsKept}
use Rattle.fl_dir.proofs.Bare.{bare_insert, get_bare, len_bare}
use Rattle.fl_dir.proofs.Kept.{seen, few_names, is_free, linked_more, so_linked}
use Rattle.fl_dir.proofs.Numbers.{below_limit}
use Rattle.fl_dir.proofs.dir.Dir.link.Goals as goal

pub push-number-requires : goal.push-number-requires
push-number-requires c =
    let nodes = c.self.inside.nodes in
    ap (λ n. nat_le nodes.limit n || (nodes.next == 18446744073709551615)) (sym (len_bare nodes.values))
    ∙ subst (λ d. nodes_full d ≡ false) (sym c.self.view_is) c.requires.room

pub link-requires-clause-chains : goal.link-requires-clause-chains
link-requires-clause-chains c = c.self.invariant.named.chains

pub link-requires-clause-sorted : goal.link-requires-clause-sorted
link-requires-clause-sorted c = c.self.invariant.named.sorted

pub link-requires-clause-room : goal.link-requires-clause-room
link-requires-clause-room c =
    let own = c.self.inside in
    let most = few_names own.nodes own.names.entries own.names.mask own.files c.self.invariant in
    let room : len own.nodes.values < own.nodes.limit = below_limit own.nodes.limit (len own.nodes.values) (own.nodes.next == 18446744073709551615)
    (ap (λ n. nat_le own.nodes.limit n || (own.nodes.next == 18446744073709551615)) (sym (len_bare own.nodes.values))
    ∙ subst (λ d. nodes_full d ≡ false) (sym c.self.view_is) c.requires.room) in
    let same = c.self.invariant.room in
    omega arith

pub link-requires-clause-above : goal.link-requires-clause-above
link-requires-clause-above c = λ chain q most.
    let own = c.self.inside in
    c.self.invariant.named.linked chain q
    ∙ ap (λ o. hash_on own.names.mask chain (name_in o)) (c.push-number.ensures.above q (subst (λ n. n ≤ q) c.push-number.ensures.number most))

pub invariant_of-self : goal.invariant_of-self
invariant_of-self c =
    let own = c.self.inside in
    let free = subst (λ d. linked d c.args.name.now ≡ None) (sym c.self.view_is) c.requires.free in
    subst (λ m. IsKept m c.link.new.self.entries c.link.new.self.mask own.files) (sym c.push-number.ensures.after)
    (subst (λ m. IsKept (record own.nodes { values = insert own.nodes.values own.nodes.next (record { node = c.args.node.now; fhs = 0 }); next = own.nodes.next + 1 }) c.link.new.self.entries m own.files) (sym c.link.ensures.mask)
    (linked_more own.nodes own.names.entries c.link.new.self.entries own.names.mask own.files own.nodes.next (own.nodes.next + 1) (record { node = c.args.node.now; fhs = 0 }) c.args.name.now c.self.invariant
    c.self.invariant.nodes_above.next (let up = c.self.invariant.nodes_above.next in omega arith)
    (c.push-number.ensures.above own.nodes.next (omega arith)) (so_linked c.args.node.now c.args.name.now c.requires.has_it c.requires.named) refl (is_free own.nodes.values c.args.name.now free)
    (subst (λ k. IsAltered own.names.entries c.link.new.self.entries (bit_and (hash_of c.args.name.now) own.names.mask) k (Some (hash_of c.args.name.now)))
    c.push-number.ensures.number c.link.ensures.linked)))

pub returns-clause-number : goal.returns-clause-number
returns-clause-number c = c.push-number.ensures.number ∙ ap (λ (d : Listing). d.next_node) c.self.view_is

pub returns-clause-fresh : goal.returns-clause-fresh
returns-clause-fresh c =
    let own = c.self.inside in
    subst (λ (d : Listing). get d.nodes d.next_node ≡ None) c.self.view_is
    (get_bare own.nodes.values own.nodes.next ∙ ap (option_map (λ (s : Slot). s.node)) (c.push-number.ensures.above own.nodes.next (omega arith)))

pub returns-clause-after : goal.returns-clause-after
returns-clause-after c =
    let own = c.self.inside in
    ap (λ m. seen m own.files) c.push-number.ensures.after
    ∙ ap (λ b. record (seen own.nodes own.files) { nodes = b; next_node = own.nodes.next + 1 }) (bare_insert own.nodes.values own.nodes.next (record { node = c.args.node.now; fhs = 0 }))
    ∙ ap (λ (d : Listing). record d { nodes = insert d.nodes d.next_node c.args.node.now; next_node = d.next_node + 1 }) c.self.view_is
