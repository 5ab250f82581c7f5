use Rattle.std.proofs.Common.{◌≡◌, ◌∙◌, ◌==◌, ◌||◌, false, not, option_map, ap, sym, subst}
use Rattle.std.specs.Option.{option_copied}
use Rattle.std.specs.FinMap.{get}
use Rattle.fl_dir.specs.declared.nodes.Slot.{Slot}
use Rattle.fl_dir.specs.Directory.{Listing}
use Rattle.fl_dir.specs.Inside.Kept.{open_in, is_dead}
use Rattle.fl_dir.proofs.Bare.{get_bare}
use Rattle.fl_dir.proofs.Kept.{counts_open, seen}
use Rattle.fl_dir.proofs.dir.Dir.is_dead.Goals as goal

pub returns-in-None : goal.returns-in-None
returns-in-None c =
    let own = c.self.inside in
    let k = c.args.number in
    subst (λ (d : Listing). false ≡ is_dead d k (get d.nodes k)) c.self.view_is
    (ap (λ o. is_dead (seen own.nodes own.files) k (option_map (λ (s : Slot). s.node) o)) (sym (ap option_copied c.in-None.is) ∙ c.get.ensures)
    ∙ ap (is_dead (seen own.nodes own.files) k) (sym (get_bare own.nodes.values k)))

pub returns-in-Some : goal.returns-in-Some
returns-in-Some c =
    let own = c.self.inside in
    let k = c.args.number in
    let s = c.in-Some.slot.now in
    let there = sym (ap option_copied c.in-Some.is) ∙ c.get.ensures in
    let shown = ap (λ o. not (open_in o == 0)) there
    ∙ sym (counts_open own.nodes own.names.entries own.names.mask own.files k c.self.invariant) in
    subst (λ (d : Listing). not c.lives_with.result ≡ is_dead d k (get d.nodes k)) c.self.view_is
    (ap not c.lives_with.ensures
    ∙ ap (λ is. not ((s.node.linked || not (s.node.lookups == 0)) || is)) shown
    ∙ ap (λ o. is_dead (seen own.nodes own.files) k (option_map (λ (s : Slot). s.node) o)) there
    ∙ ap (is_dead (seen own.nodes own.files) k) (sym (get_bare own.nodes.values k)))
