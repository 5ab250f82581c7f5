use Rattle.std.proofs.Common.{take}
use Rattle.lockd_resume.proofs.BeforeLemmas.{heard_ahead}
use Rattle.lockd_resume.proofs.before.heard_piece.Goals as goal

pub returns-in-Ok-hear_cut : goal.returns-in-Ok-hear_cut
returns-in-Ok-hear_cut g c =
    let said = c.in-Ok-hear_cut.ensures in
    heard_ahead (g.B.Read.remaining c.args.piece) (g.B.Read.remaining c.read_opening.new.input) _
    (take c.in-Ok.opening.bytes c.read_opening.new.room) c.args.behind _ c.in-Ok-hear_cut.heard c.in-Ok.opening.rules
    said.rules c.in-Ok.ensures.named c.unwrap_or-rules.ensures c.in-Ok.ensures.read c.chain-text.ensures.bytes said.heard
    said.recent
