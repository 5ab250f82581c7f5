use Rattle.std.proofs.Common.{◌≡◌, ◌++◌}
use Rattle.lockd_resume.proofs.BeforeLemmas.{HasRead, earlier}
use Rattle.lockd_resume.proofs.before.with_before.Given as goal

-- the last lines are those that were heard, and those of the piece behind them
abbrev pub invariant-pieces : goal.invariant-pieces
invariant-pieces g l = record {
  recent : l.last.recent ≡ l.last.past.items ++ l.fn.here;
  heard : HasRead l.fn.rules (g.P.PiecesBefore.left l.fn.before) (g.P.PiecesBefore.left l.before) l.fn.here (earlier l.last);
}

abbrev pub decreases-pieces : goal.decreases-pieces
decreases-pieces g l = g.P.PiecesBefore.count l.before
