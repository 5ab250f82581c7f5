use Rattle.fl_state.proofs.Parts.{told_more, fits_last, fits_each, shown_more}
use Rattle.fl_state.proofs.laws.parts_are_told_one_by_one.Goals as goal

pub returns : goal.returns
returns c = record { told = told_more; fits = fits_last; each = fits_each; shown = shown_more }
