use Rattle.std.proofs.Common.{◌≡◌, ◌∙◌, subst}
use Rattle.fl_dir.specs.Restored.{has_node_place}
use Rattle.fl_dir.proofs.Restored.{above_place}
use Rattle.fl_dir.proofs.dir.Dir.has_node_place.Goals as goal

pub returns-then-number-gt-ROOT : goal.returns-then-number-gt-ROOT
returns-then-number-gt-ROOT c =
    let own = c.self.inside in
    subst (λ d. c.has_place.result ≡ has_node_place d c.args.number) c.self.view_is
    (c.has_place.ensures ∙ above_place own.nodes own.files c.args.number c.if-number-gt-ROOT.true)
