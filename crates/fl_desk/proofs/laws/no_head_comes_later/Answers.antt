use Rattle.fl_desk.proofs.Counts.{behind_without, both_without, step_without}
use Rattle.fl_desk.proofs.laws.no_head_comes_later.Goals as goal

pub returns : goal.returns
returns c = record { step = step_without; both = both_without; behind = behind_without }
