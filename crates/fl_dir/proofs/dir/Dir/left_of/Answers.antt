use Rattle.std.proofs.Common.{◌≡◌, ◌∙◌, ◌==◌, ◌||◌, Some, None, not, option_map, ap, sym, subst}
use Rattle.std.specs.Option.{option_copied}
use Rattle.std.specs.FinMap.{get}
use Rattle.fl_dir.specs.declared.nodes.Slot.{Slot}
use Rattle.fl_dir.specs.Directory.{Listing}
use Rattle.fl_dir.specs.OpenFiles.{has_open_file}
use Rattle.fl_dir.specs.Inside.Kept.{open_in, left_of}
use Rattle.fl_dir.proofs.Bare.{get_bare}
use Rattle.fl_dir.proofs.Kept.{counts_open, seen}
use Rattle.fl_dir.proofs.dir.Dir.left_of.Goals as goal

pub returns-in-None : goal.returns-in-None
returns-in-None c =
    let own = c.self.inside in
    let k = c.args.number in
    subst (λ (d : Listing). None ≡ option_map (left_of d k c.args.n) (get d.nodes k)) c.self.view_is
    (ap (λ o. option_map (left_of (seen own.nodes own.files) k c.args.n) (option_map (λ (s : Slot). s.node) o)) (sym (ap option_copied c.in-None.is) ∙ c.get.ensures)
    ∙ ap (option_map (left_of (seen own.nodes own.files) k c.args.n)) (sym (get_bare own.nodes.values k)))

pub returns-in-Some : goal.returns-in-Some
returns-in-Some c =
    let own = c.self.inside in
    let k = c.args.number in
    let n = c.args.n in
    let s = c.in-Some.slot.now in
    let left = c.saturating_sub-lookups.result in
    let there = sym (ap option_copied c.in-Some.is) ∙ c.get.ensures in
    let shown = ap (λ o. not (open_in o == 0)) there
    ∙ sym (counts_open own.nodes own.names.entries own.names.mask own.files k c.self.invariant) in
    subst (λ (d : Listing). Some (left, c.lives_with.result) ≡ option_map (left_of d k n) (get d.nodes k)) c.self.view_is
    (ap (λ b. Some (left, b)) (c.lives_with.ensures ∙ ap (λ is. (s.node.linked || not (left == 0)) || is) shown)
    ∙ ap (λ l. Some (l, (s.node.linked || not (l == 0)) || has_open_file (seen own.nodes own.files) k)) c.saturating_sub-lookups.ensures
    ∙ ap (λ o. option_map (left_of (seen own.nodes own.files) k n) (option_map (λ (s : Slot). s.node) o)) there
    ∙ ap (option_map (left_of (seen own.nodes own.files) k n)) (sym (get_bare own.nodes.values k)))
