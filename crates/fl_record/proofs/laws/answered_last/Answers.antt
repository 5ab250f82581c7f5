use Rattle.fl_record.proofs.Answering.{handed_in_last}
use Rattle.fl_record.proofs.laws.answered_last.Goals as goal

pub returns : goal.returns
returns c rules old new order tolds same one = handed_in_last rules old new order tolds same one
