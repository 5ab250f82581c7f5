use Rattle.std.proofs.Common.{◌∙◌, IsSome, ap, sym, subst, refl}
use Rattle.std.specs.FinMap.{get}
use Rattle.fl_dir.specs.declared.nodes.Slot.{Slot}
use Rattle.fl_dir.specs.Directory.{Listing}
use Rattle.fl_dir.specs.Changes.{changed_at}
use Rattle.fl_dir.proofs.Bare.{bare_changed}
use Rattle.fl_dir.proofs.Kept.{seen, some_kept, changed}
use Rattle.fl_dir.proofs.dir.Dir.set_lookups.Goals as goal

pub at_mut-requires : goal.at_mut-requires
at_mut-requires c =
    some_kept c.self.inside.nodes.values c.args.number (subst (λ (d : Listing). IsSome (get d.nodes c.args.number)) (sym c.self.view_is) c.requires)

pub invariant_of-self : goal.invariant_of-self
invariant_of-self c =
    let own = c.self.inside in
    let slot : Slot = record { node = record c.at_mut.result.now.node { lookups = c.args.lookups }; fhs = c.at_mut.result.now.fhs } in
    changed own.nodes own.names.entries own.names.mask own.files c.args.number c.at_mut.result.now slot c.self.invariant c.at_mut.ensures.value refl refl

pub returns : goal.returns
returns c =
    let own = c.self.inside in
    let slot : Slot = record { node = record c.at_mut.result.now.node { lookups = c.args.lookups }; fhs = c.at_mut.result.now.fhs } in
    ap (λ b. record (seen own.nodes own.files) { nodes = b })
    (bare_changed own.nodes.values c.args.number c.at_mut.result.now slot (λ node. record node { lookups = c.args.lookups }) c.at_mut.ensures.value refl)
    ∙ ap (λ (d : Listing). record d { nodes = changed_at d.nodes c.args.number (λ node. record node { lookups = c.args.lookups }) }) c.self.view_is
