use Rattle.std.proofs.Common.{◌≡◌, ◌∙◌, IsSome, IfSome, false, ap, sym, subst}
use Rattle.std.specs.FinMap.{get, remove}
use Rattle.fl_dir.specs.Directory.{Listing}
use Rattle.fl_dir.specs.OpenFiles.{has_open_file}
use Rattle.fl_dir.specs.Inside.Kept.{IsKept}
use Rattle.fl_dir.proofs.Bare.{bare_remove}
use Rattle.fl_dir.proofs.Kept.{seen, some_kept, node_kept, so_kept, dead_is, gone}
use Rattle.fl_dir.proofs.dir.Dir.remove_node.Goals as goal

pub remove-requires : goal.remove-requires
remove-requires c =
    some_kept c.self.inside.nodes.values c.args.number (subst (λ (d : Listing). IsSome (get d.nodes c.args.number)) (sym c.self.view_is) c.requires.there)

pub invariant_of-self : goal.invariant_of-self
invariant_of-self c =
    let own = c.self.inside in
    let n = own.nodes in
    let k = c.args.number in
    let s = node_kept n.values k (subst (λ (d : Listing). IsSome (get d.nodes k)) (sym c.self.view_is) c.requires.there) in
    let unlinked = so_kept n.values k s.0 (λ node. node.linked ≡ false) s.1
    (subst (λ (d : Listing). IfSome (get d.nodes k) (λ node. node.linked ≡ false)) (sym c.self.view_is) c.requires.unlinked) in
    let closed = subst (λ (d : Listing). has_open_file d k ≡ false) (sym c.self.view_is) c.requires.closed in
    let is = dead_is n own.names.entries own.names.mask own.files k s.0 c.self.invariant s.1 unlinked closed in
    subst (λ m. IsKept m own.names.entries own.names.mask own.files) (sym c.remove.ensures)
    (gone n own.names.entries own.names.mask own.files k s.0 c.self.invariant s.1 is.0 is.1)

pub returns : goal.returns
returns c =
    let own = c.self.inside in
    ap (λ m. seen m own.files) c.remove.ensures
    ∙ ap (λ b. record (seen own.nodes own.files) { nodes = b }) (bare_remove own.nodes.values c.args.number)
    ∙ ap (λ (d : Listing). record d { nodes = remove d.nodes c.args.number }) c.self.view_is
