use Rattle.std.proofs.Common.{◌∙◌, IsSome, ap, sym, subst}
use Rattle.std.specs.FinMap.{get}
use Rattle.fl_order.specs.declared.told.Attr.{Attr}
use Rattle.fl_dir.specs.Directory.{Listing}
use Rattle.fl_dir.proofs.Kept.{is_put}
use Rattle.fl_dir.proofs.dir.Dir.make.Goals as goal

pub open_file-requires-clause-there : goal.open_file-requires-clause-there
open_file-requires-clause-there c =
    let number = ap (λ (a : Attr). a.node) c.attributes-attr.ensures ∙ c.link.ensures.number in
    subst (λ k. IsSome (get c.link.new.self.nodes k)) (sym number)
    (subst (λ (d : Listing). IsSome (get d.nodes c.args.self.now.next_node)) (sym c.link.ensures.after) (is_put c.args.self.now.nodes c.args.self.now.next_node _))
