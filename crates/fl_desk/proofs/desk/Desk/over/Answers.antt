use Rattle.std.proofs.Common.{◌∙◌, subst, sym}
use Rattle.fl_desk.proofs.Histories.{opened_kept}
use Rattle.fl_desk.proofs.Pieces.{one_piece}
use Rattle.fl_desk.specs.Pieces.{IsPiece}
use Rattle.fl_desk.proofs.desk.Desk.over.Goals as goal

pub invariant_of-result : goal.invariant_of-result
invariant_of-result g c =
    let present = c.in_ok-present.ensures in
    let lines = g.J.Journal.lines c.args.journal in
    let rules = c.in_ok-present.present.rules in (
      opened_kept c.args.rules _ _ c.requires.none present.opening present.lawful,
      subst (IsPiece rules lines) (c.requires.none ∙ sym c.requires.piece) (one_piece rules lines),
    )
