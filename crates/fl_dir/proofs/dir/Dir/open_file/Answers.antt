use Rattle.std.proofs.Common.{◌≡◌, ◌∙◌, ◌+◌, ◌==◌, false, IsSome, ap, sym, subst, refl, arith}
use Rattle.std.specs.FinMap.{get, insert}
use Rattle.fl_dir.specs.declared.nodes.Slot.{Slot}
use Rattle.fl_dir.specs.Directory.{Listing}
use Rattle.fl_dir.specs.OpenFiles.{files_full}
use Rattle.fl_dir.specs.Inside.Kept.{IsKept}
use Rattle.fl_dir.proofs.Bare.{bare_same}
use Rattle.fl_dir.proofs.Kept.{seen, some_kept, opened, counts_few}
use Rattle.fl_dir.proofs.dir.Dir.open_file.Goals as goal

pub at_mut-requires : goal.at_mut-requires
at_mut-requires c =
    some_kept c.self.inside.nodes.values c.args.node (subst (λ (d : Listing). IsSome (get d.nodes c.args.node)) (sym c.self.view_is) c.requires.there)

pub overflow_add-at_mut : goal.overflow_add-at_mut
overflow_add-at_mut c =
    let own = c.self.inside in
    let few = counts_few own.nodes own.names.entries own.names.mask own.files c.args.node c.at_mut.result.now (own.files.next == 18446744073709551615) c.self.invariant
    c.at_mut.ensures.value (subst (λ d. files_full d ≡ false) (sym c.self.view_is) c.requires.room) in
    omega arith

pub invariant_of-self : goal.invariant_of-self
invariant_of-self c =
    let own = c.self.inside in
    let slot : Slot = record { node = c.at_mut.result.now.node; fhs = c.at_mut.result.now.fhs + 1 } in
    subst (λ f. IsKept (record own.nodes { values = insert own.nodes.values c.args.node slot }) own.names.entries own.names.mask f) (sym c.push.ensures.after)
    (opened own.nodes own.names.entries own.names.mask own.files c.args.node own.files.next (own.files.next + 1) c.at_mut.result.now slot c.self.invariant
    c.at_mut.ensures.value refl refl (c.push.ensures.above own.files.next (omega arith))
    c.self.invariant.files_above.next (let up = c.self.invariant.files_above.next in omega arith))

pub returns-clause-after : goal.returns-clause-after
returns-clause-after c =
    let own = c.self.inside in
    let slot : Slot = record { node = c.at_mut.result.now.node; fhs = c.at_mut.result.now.fhs + 1 } in
    ap (λ f. seen (record own.nodes { values = insert own.nodes.values c.args.node slot }) f) c.push.ensures.after
    ∙ ap (λ b. record (seen own.nodes own.files) { nodes = b; files = insert own.files.values own.files.next c.args.node; next_fh = own.files.next + 1 })
    (bare_same own.nodes.values c.args.node c.at_mut.result.now slot c.at_mut.ensures.value refl)
    ∙ ap (λ (d : Listing). record d { files = insert d.files d.next_fh c.args.node; next_fh = d.next_fh + 1 }) c.self.view_is
