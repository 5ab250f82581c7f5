use Rattle.std.proofs.Common.{◌≡◌, ◌∙◌, subst}
use mathlib.Core.List.{IsPrefix}
use Rattle.fl_desk.proofs.Pieces.{kept_same, turned_piece}
use Rattle.fl_desk.proofs.Prefixes.{of_another}
use Rattle.fl_desk.proofs.desk.Desk.turn.Goals as goal

pub invariant_of-self-2 : goal.invariant_of-self-2
invariant_of-self-2 g c =
    let before = g.J.Journal.lines c.self.inside.journal in
    let begun = c.begin_piece.ensures in
    let drafted = c.draft_head-whole.ensures in
    let ended = c.end_piece.ensures in
    let lines : g.J.Journal.lines c.end_piece.new.self ≡ before = ended.lines ∙ drafted.lines ∙ begun.lines in (
      kept_same before _ _ c.self.invariant.0 lines,
      turned_piece c.self.inside.present before _ (g.J.Journal.piece c.self.inside.journal) _ (g.J.Journal.draft c.draft_head-whole.new.journal) c.in-Some.lines
          c.draft_head-whole.result c.end_piece.result c.self.invariant.0 c.self.invariant.1 lines ended.whole ended.turned
          (λ no. ended.stays no ∙ drafted.piece ∙ begun.piece) drafted.told drafted.same drafted.counted c.in-Some.ensures,
    )

pub returns-clause-stored : goal.returns-clause-stored
returns-clause-stored g c =
    subst (λ b. IsPrefix b.stored (g.J.Journal.stored c.end_piece.new.self)) c.self.view_is
    (of_another _ _ _ c.begin_piece.ensures.stored
    (subst (λ l. IsPrefix l (g.J.Journal.stored c.end_piece.new.self)) c.draft_head-whole.ensures.stored c.end_piece.ensures.stored))
