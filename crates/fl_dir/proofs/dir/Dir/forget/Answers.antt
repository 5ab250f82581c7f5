use Rattle.std.proofs.Common.{◌∙◌, sym}
use Rattle.fl_dir.proofs.Forgets.{left_stays, left_goes}
use Rattle.fl_dir.proofs.dir.Dir.forget.Goals as goal

pub returns-in-Some-default-true : goal.returns-in-Some-default-true
returns-in-Some-default-true c =
    c.set_lookups.ensures
    ∙ left_stays c.args.self.now c.args.node c.args.n c.in-Some-default-true.lookups _ (sym c.in-Some-default-true.is ∙ c.left_of.ensures) c.in-Some-default-true.field-0-1-test

pub returns-in-Some-default-false : goal.returns-in-Some-default-false
returns-in-Some-default-false c =
    c.remove_node.ensures
    ∙ left_goes c.args.self.now c.args.node c.args.n _ _ (sym c.in-Some-default-false.is ∙ c.left_of.ensures) c.in-Some-default-false.field-0-1-test
