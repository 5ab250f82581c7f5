use Rattle.std.proofs.Common.{◌≡◌, ◌∙◌, ap, subst, sym}
use mathlib.Core.List.{IsPrefix}
use Rattle.fl_stream.proofs.PieceLemmas.{turned_stored}
use Rattle.fl_stream.specs.Pieced.{Pieced, behind_head, stored_of}
use Rattle.fl_stream.proofs.piece_lines.PieceLines.turn_to.Goals as goal

pub returns-clause-stored : goal.returns-clause-stored
returns-clause-stored g c =
    let now = c.args.self.now in
    let all = subst (λ (p : Pieced). p.lines ≡ behind_head p.before p.head p.here.lines) c.self.view_is c.self.invariant.1 in
    let head = c.lines-self-inside.result.items in
    let noted = c.replace-last.new.dest.noted in
    subst (λ l. IsPrefix (stored_of now) (behind_head l head noted)) (sym (c.same-self-inside.ensures ∙ ap (λ (p : Pieced). p.lines) c.self.view_is))
    (turned_stored now.before now.head now.here.noted now.here.lines now.lines head noted c.requires.front all)
