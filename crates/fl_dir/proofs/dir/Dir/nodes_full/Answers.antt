use Rattle.std.proofs.Common.{◌≡◌, ◌∙◌, ◌||◌, ◌==◌, ap, sym, subst, nat_le}
use Rattle.fl_dir.specs.Directory.{nodes_full}
use Rattle.fl_dir.proofs.Bare.{len_bare}
use Rattle.fl_dir.proofs.dir.Dir.nodes_full.Goals as goal

pub returns : goal.returns
returns c =
    let nodes = c.self.inside.nodes in
    subst (λ d. c.is_full.result ≡ nodes_full d) c.self.view_is
    (c.is_full.ensures ∙ ap (λ n. nat_le nodes.limit n || (nodes.next == 18446744073709551615)) (sym (len_bare nodes.values)))
