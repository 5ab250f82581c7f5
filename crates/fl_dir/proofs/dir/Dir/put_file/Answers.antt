use Rattle.std.proofs.Common.{◌≡◌, ◌∙◌, ◌+◌, true, false, not, IsSome, ap, sym, subst, refl, arith, nat_lt}
use Rattle.std.specs.FinMap.{contains_key, get, insert, len}
use Rattle.fl_dir.specs.declared.nodes.Slot.{Slot}
use Rattle.fl_dir.specs.Directory.{Listing}
use Rattle.fl_dir.specs.Restored.{has_file_place, with_file}
use Rattle.fl_dir.specs.Inside.Kept.{IsKept}
use Rattle.fl_dir.proofs.Bare.{bare_same}
use Rattle.fl_dir.proofs.Kept.{seen, some_kept, opened, counts_few}
use Rattle.fl_dir.proofs.Restored.{file_place, room_of_place}
use Rattle.fl_dir.proofs.dir.Dir.put_file.Goals as goal

pub at_mut-requires : goal.at_mut-requires
at_mut-requires c =
    some_kept c.self.inside.nodes.values c.args.node (subst (λ (d : Listing). IsSome (get d.nodes c.args.node)) (sym c.self.view_is) c.requires.there)

pub put-requires : goal.put-requires
put-requires c =
    let own = c.self.inside in
    (file_place own.nodes own.files c.args.fh (subst (λ d. has_file_place d c.args.fh ≡ true) (sym c.self.view_is) c.requires.place)).1

pub overflow_add-at_mut : goal.overflow_add-at_mut
overflow_add-at_mut c =
    let own = c.self.inside in
    let few = counts_few own.nodes own.names.entries own.names.mask own.files c.args.node c.at_mut.result.now false c.self.invariant
    c.at_mut.ensures.value
    (room_of_place (len own.files.values) own.files.limit (nat_lt c.args.fh own.files.next) (not (contains_key own.files.values c.args.fh))
    (file_place own.nodes own.files c.args.fh (subst (λ d. has_file_place d c.args.fh ≡ true) (sym c.self.view_is) c.requires.place)).1) in
    omega arith

pub invariant_of-self : goal.invariant_of-self
invariant_of-self c =
    let own = c.self.inside in
    let slot : Slot = record { node = c.at_mut.result.now.node; fhs = c.at_mut.result.now.fhs + 1 } in
    subst (λ f. IsKept (record own.nodes { values = insert own.nodes.values c.args.node slot }) own.names.entries own.names.mask f) (sym c.put.ensures.after)
    (opened own.nodes own.names.entries own.names.mask own.files c.args.node c.args.fh own.files.next c.at_mut.result.now slot c.self.invariant
    c.at_mut.ensures.value refl refl c.put.ensures.fresh
    (file_place own.nodes own.files c.args.fh (subst (λ d. has_file_place d c.args.fh ≡ true) (sym c.self.view_is) c.requires.place)).0
    c.self.invariant.files_above.next)

pub returns : goal.returns
returns c =
    let own = c.self.inside in
    let slot : Slot = record { node = c.at_mut.result.now.node; fhs = c.at_mut.result.now.fhs + 1 } in
    ap (λ f. seen (record own.nodes { values = insert own.nodes.values c.args.node slot }) f) c.put.ensures.after
    ∙ ap (λ b. record (seen own.nodes own.files) { nodes = b; files = insert own.files.values c.args.fh c.args.node })
    (bare_same own.nodes.values c.args.node c.at_mut.result.now slot c.at_mut.ensures.value refl)
    ∙ ap (λ (d : Listing). with_file d c.args.fh c.args.node) c.self.view_is
