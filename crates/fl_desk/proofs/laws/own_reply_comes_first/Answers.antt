use Rattle.fl_desk.proofs.Histories.{read_own, read_none}
use Rattle.fl_desk.proofs.laws.own_reply_comes_first.Goals as goal

pub returns : goal.returns
returns c = record { own = read_own; none = read_none }
