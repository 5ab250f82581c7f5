use Rattle.fl_state.proofs.Wholes.{all_fit, all_told}
use Rattle.fl_state.proofs.laws.a_state_can_be_told.Goals as goal

pub returns : goal.returns
returns c = record { fits = all_fit; tells = all_told }
