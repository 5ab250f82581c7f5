use Rattle.fl_core.proofs.Effects.{shown_recorded}
use Rattle.fl_core.proofs.laws.effects_are_shown_alike.Goals as goal

pub returns : goal.returns
returns c = shown_recorded
