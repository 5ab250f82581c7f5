use Rattle.std.proofs.Common.{◌∙◌, sym, subst}
use Rattle.fl_desk.specs.Legal.{IsLegal, LeavesLawful}
use Rattle.fl_desk.proofs.desk.Desk.into_history.Goals as goal

pub returns : goal.returns
returns c = record {
  lines = c.of.ensures ∙ c.into_journal-journal.ensures.lines;
  legal = subst (IsLegal c.args.self.present.rules) (sym c.of.ensures) c.into_journal-journal.ensures.legal;
  lawful = subst (LeavesLawful c.args.self.present.rules) (sym c.of.ensures) c.into_journal-journal.ensures.lawful;
}
