use Rattle.std.proofs.Common.{◌≡◌, ◌∙◌, Some, None, option_map, ap, sym, subst}
use Rattle.std.specs.Option.{option_copied}
use Rattle.std.specs.FinMap.{get}
use Rattle.fl_dir.specs.declared.nodes.Slot.{Slot}
use Rattle.fl_dir.specs.Directory.{Listing}
use Rattle.fl_dir.proofs.Bare.{get_bare}
use Rattle.fl_dir.proofs.dir.Dir.node_at.Goals as goal

pub returns-in-None : goal.returns-in-None
returns-in-None c =
    subst (λ (d : Listing). None ≡ get d.nodes c.args.number) c.self.view_is
    (ap (option_map (λ (s : Slot). s.node)) (sym (ap option_copied c.in-None.is) ∙ c.get.ensures) ∙ sym (get_bare c.self.inside.nodes.values c.args.number))

pub returns-in-Some : goal.returns-in-Some
returns-in-Some c =
    subst (λ (d : Listing). Some c.in-Some.slot.now.node ≡ get d.nodes c.args.number) c.self.view_is
    (ap (option_map (λ (s : Slot). s.node)) (sym (ap option_copied c.in-Some.is) ∙ c.get.ensures) ∙ sym (get_bare c.self.inside.nodes.values c.args.number))
