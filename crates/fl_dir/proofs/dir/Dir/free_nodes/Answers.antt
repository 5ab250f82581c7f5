use Rattle.std.proofs.Common.{◌≡◌, ◌-◌, ◌∙◌, ap, sym, subst}
use Rattle.std.specs.FinMap.{len}
use Rattle.fl_dir.specs.Directory.{Listing}
use Rattle.fl_dir.proofs.Bare.{len_bare}
use Rattle.fl_dir.proofs.dir.Dir.free_nodes.Goals as goal

pub returns : goal.returns
returns c =
    let own = c.self.inside in
    subst (λ (d : Listing). c.free.result ≡ d.most_nodes - len d.nodes) c.self.view_is
    (c.free.ensures ∙ ap (λ k. own.nodes.limit - k) (sym (len_bare own.nodes.values)))
