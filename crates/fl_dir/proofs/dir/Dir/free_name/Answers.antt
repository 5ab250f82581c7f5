use Rattle.std.proofs.Common.{◌≡◌, ◌∙◌, IsSome, IfSome, true, is_some, ap, sym, subst, refl}
use Rattle.std.specs.FinMap.{get}
use Rattle.fl_dir.specs.declared.nodes.Slot.{Slot}
use Rattle.fl_dir.specs.Directory.{Listing}
use Rattle.fl_dir.specs.Changes.{changed_at, without_link}
use Rattle.fl_dir.specs.Inside.Numbers.{with_value}
use Rattle.fl_dir.specs.Inside.Kept.{name_in, IsKept}
use Rattle.fl_dir.proofs.Bare.{bare_changed}
use Rattle.fl_dir.proofs.Kept.{seen, some_kept, slot_linked, stands_there, linked_less}
use Rattle.fl_dir.proofs.dir.Dir.free_name.Goals as goal

pub at_mut-requires : goal.at_mut-requires
at_mut-requires c =
    some_kept c.self.inside.nodes.values c.args.number (subst (λ (d : Listing). IsSome (get d.nodes c.args.number)) (sym c.self.view_is) c.requires.there)

pub unlink-requires-clause-found : goal.unlink-requires-clause-found
unlink-requires-clause-found c =
    let own = c.self.inside in
    let linked = slot_linked own.nodes.values c.args.number c.at_mut.result.now c.args.name.now c.at_mut.ensures.value
    (subst (λ (d : Listing). IfSome (get d.nodes c.args.number) (λ node. node.name ≡ c.args.name.now)) (sym c.self.view_is) c.requires.named)
    (subst (λ (d : Listing). IfSome (get d.nodes c.args.number) (λ node. node.linked ≡ true)) (sym c.self.view_is) c.requires.has_it) in
    ap is_some
    (stands_there own.nodes own.names.entries own.names.mask own.files c.args.number c.args.name.now c.self.invariant (ap name_in c.at_mut.ensures.value ∙ linked))

pub invariant_of-self : goal.invariant_of-self
invariant_of-self c =
    let own = c.self.inside in
    let linked = slot_linked own.nodes.values c.args.number c.at_mut.result.now c.args.name.now c.at_mut.ensures.value
    (subst (λ (d : Listing). IfSome (get d.nodes c.args.number) (λ node. node.name ≡ c.args.name.now)) (sym c.self.view_is) c.requires.named)
    (subst (λ (d : Listing). IfSome (get d.nodes c.args.number) (λ node. node.linked ≡ true)) (sym c.self.view_is) c.requires.has_it) in
    let slot : Slot = record { node = without_link c.at_mut.result.now.node; fhs = c.at_mut.result.now.fhs } in
    subst (λ m. IsKept (with_value own.nodes c.args.number slot) c.unlink.new.self.entries m own.files) (sym c.unlink.ensures.mask)
    (linked_less own.nodes own.names.entries c.unlink.new.self.entries own.names.mask own.files c.args.number c.at_mut.result.now slot c.args.name.now
    c.self.invariant c.at_mut.ensures.value linked refl refl c.unlink.ensures.linked)

pub returns : goal.returns
returns c =
    let own = c.self.inside in
    let slot : Slot = record { node = without_link c.at_mut.result.now.node; fhs = c.at_mut.result.now.fhs } in
    ap (λ b. record (seen own.nodes own.files) { nodes = b })
    (bare_changed own.nodes.values c.args.number c.at_mut.result.now slot without_link c.at_mut.ensures.value refl)
    ∙ ap (λ (d : Listing). record d { nodes = changed_at d.nodes c.args.number without_link }) c.self.view_is
