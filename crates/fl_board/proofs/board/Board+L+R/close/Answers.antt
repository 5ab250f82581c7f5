use Rattle.std.proofs.Common.{List, All, subst, sym}
use mathlib.Core.List.{IsPrefix}
use Rattle.fl_record.specs.Seats.{Place}
use Rattle.fl_board.specs.Shown.{HasAllOf}
use Rattle.fl_desk.specs.Legal.{LeavesLawful}
use Rattle.fl_history.specs.declared.history.Line.{Line}
use Rattle.fl_board.proofs.board.Board+L+R.close.Goals as goal

pub returns-in-Ok-clause-each : goal.returns-in-Ok-clause-each
returns-in-Ok-clause-each g c =
    subst (λ (l : List Line). All (λ (p : Place). HasAllOf l p) c.args.seats.items) (sym c.of.ensures) c.in-Ok.ensures.each

pub returns-in-Ok-clause-stored : goal.returns-in-Ok-clause-stored
returns-in-Ok-clause-stored g c =
    subst (λ (l : List Line). All (λ (p : Place). IsPrefix p.stored l) c.args.seats.items) (sym c.of.ensures) c.in-Ok.ensures.stored

pub returns-in-Ok-clause-lawful : goal.returns-in-Ok-clause-lawful
returns-in-Ok-clause-lawful g c = subst (LeavesLawful g.L.BoardName.rules) (sym c.of.ensures) c.in-Ok.ensures.lawful
