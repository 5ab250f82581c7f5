use Rattle.std.proofs.Common.{sym, ap, ◌∙◌}
use Rattle.std.specs.List.{flat_map}
use Rattle.std.proofs.lemmas.Iterator.Consumers.{YieldsList-end}
use Rattle.std.proofs.lemmas.Iterator.Splits.{YieldsList-from_lines}
use Rattle.std.proofs.lemmas.List.Folds.{flat_map-map}
use Rattle.fl_testing.specs.Inside.Stored.{behind}
use Rattle.fl_testing.proofs.stored.marked.Goals as goal

pub returns : goal.returns
returns c =
    let found = behind c.args.mark.now in
    let all = YieldsList-end (YieldsList-from_lines c.args.text.now cc) c.loop-line.yielded _ c.loop-line.yielded_by _ _ c.in-None.is c.next.ensures.steps in
    c.loop-line.invariant ∙ sym (flat_map-map found (λ x. x.now) c.loop-line.yielded) ∙ ap (flat_map found) all.0
