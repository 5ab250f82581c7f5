use Rattle.std.proofs.Common.{◌≡◌, ◌∙◌, ◌==◌, false, not, ap, sym, subst}
use Rattle.std.specs.Option.{option_copied}
use Rattle.fl_dir.specs.OpenFiles.{has_open_file}
use Rattle.fl_dir.specs.Inside.Kept.{open_in}
use Rattle.fl_dir.proofs.Kept.{counts_open}
use Rattle.fl_dir.proofs.dir.Dir.has_open_file.Goals as goal

pub returns-in-None : goal.returns-in-None
returns-in-None c =
    let own = c.self.inside in
    subst (λ d. false ≡ has_open_file d c.args.node) c.self.view_is
    (ap (λ o. not (open_in o == 0)) (sym (ap option_copied c.in-None.is) ∙ c.get.ensures)
    ∙ sym (counts_open own.nodes own.names.entries own.names.mask own.files c.args.node c.self.invariant))

pub returns-in-Some : goal.returns-in-Some
returns-in-Some c =
    let own = c.self.inside in
    subst (λ d. not (c.in-Some.slot.now.fhs == 0) ≡ has_open_file d c.args.node) c.self.view_is
    (ap (λ o. not (open_in o == 0)) (sym (ap option_copied c.in-Some.is) ∙ c.get.ensures)
    ∙ sym (counts_open own.nodes own.names.entries own.names.mask own.files c.args.node c.self.invariant))
