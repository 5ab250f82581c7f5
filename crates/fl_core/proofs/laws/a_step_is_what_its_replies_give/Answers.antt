use Rattle.fl_core.proofs.Nexts.{next_read, next_waits, next_apart}
use Rattle.fl_core.proofs.laws.a_step_is_what_its_replies_give.Goals as goal

pub returns-clause-read : goal.returns-clause-read
returns-clause-read c = next_read

pub returns-clause-waiting : goal.returns-clause-waiting
returns-clause-waiting c = next_waits

pub returns-clause-apart : goal.returns-clause-apart
returns-clause-apart c = next_apart
