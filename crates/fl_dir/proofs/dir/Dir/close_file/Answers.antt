use Rattle.std.proofs.Common.{◌≡◌, ◌∙◌, ◌-◌, ◌≤◌, Some, is_some, ap, sym, subst, refl, arith}
use Rattle.std.specs.FinMap.{get, insert, remove}
use Rattle.fl_dir.specs.declared.nodes.Slot.{Slot}
use Rattle.fl_dir.specs.Directory.{Listing}
use Rattle.fl_dir.specs.Inside.Kept.{open_in, IsKept}
use Rattle.fl_dir.proofs.Bare.{bare_same}
use Rattle.fl_dir.proofs.Kept.{seen, closed, counts_one, open_there}
use Rattle.fl_dir.proofs.dir.Dir.close_file.Goals as goal

pub at_mut-requires : goal.at_mut-requires
at_mut-requires c =
    let own = c.self.inside in
    open_there own.nodes.values c.args.node
    (counts_one own.nodes own.names.entries own.names.mask own.files c.args.node c.args.fh c.self.invariant
    (subst (λ (d : Listing). get d.files c.args.fh ≡ Some c.args.node) (sym c.self.view_is) c.requires))

pub overflow_sub-at_mut : goal.overflow_sub-at_mut
overflow_sub-at_mut c =
    let own = c.self.inside in
    subst (λ o. 1 ≤ open_in o) c.at_mut.ensures.value
    (counts_one own.nodes own.names.entries own.names.mask own.files c.args.node c.args.fh c.self.invariant
    (subst (λ (d : Listing). get d.files c.args.fh ≡ Some c.args.node) (sym c.self.view_is) c.requires))

pub remove-requires : goal.remove-requires
remove-requires c = ap is_some (subst (λ (d : Listing). get d.files c.args.fh ≡ Some c.args.node) (sym c.self.view_is) c.requires)

pub invariant_of-self : goal.invariant_of-self
invariant_of-self c =
    let own = c.self.inside in
    let slot : Slot = record { node = c.at_mut.result.now.node; fhs = c.at_mut.result.now.fhs - 1 } in
    let on = subst (λ (d : Listing). get d.files c.args.fh ≡ Some c.args.node) (sym c.self.view_is) c.requires in
    let one = subst (λ o. 1 ≤ open_in o) c.at_mut.ensures.value (counts_one own.nodes own.names.entries own.names.mask own.files c.args.node c.args.fh c.self.invariant on) in
    subst (λ f. IsKept (record own.nodes { values = insert own.nodes.values c.args.node slot }) own.names.entries own.names.mask f) (sym c.remove.ensures)
    (closed own.nodes own.names.entries own.names.mask own.files c.args.node c.args.fh c.at_mut.result.now slot c.self.invariant c.at_mut.ensures.value refl
    (omega (arith, one)) on)

pub returns : goal.returns
returns c =
    let own = c.self.inside in
    let slot : Slot = record { node = c.at_mut.result.now.node; fhs = c.at_mut.result.now.fhs - 1 } in
    ap (λ f. seen (record own.nodes { values = insert own.nodes.values c.args.node slot }) f) c.remove.ensures
    ∙ ap (λ b. record (seen own.nodes own.files) { nodes = b; files = remove own.files.values c.args.fh })
    (bare_same own.nodes.values c.args.node c.at_mut.result.now slot c.at_mut.ensures.value refl)
    ∙ ap (λ (d : Listing). record d { files = remove d.files c.args.fh }) c.self.view_is
