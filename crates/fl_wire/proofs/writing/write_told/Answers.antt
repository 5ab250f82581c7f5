-- A reply is as long as it says itself.
use Rattle.fl_wire.proofs.Replies.{told_few, told_is_reply}
use Rattle.fl_wire.proofs.writing.write_told.Goals as goal

pub returns-in-Ok-clause-reply : goal.returns-in-Ok-clause-reply
returns-in-Ok-clause-reply c = told_is_reply c.args.told.now

pub returns-in-Err-clause-reply : goal.returns-in-Err-clause-reply
returns-in-Err-clause-reply c = told_is_reply c.args.told.now

pub returns-in-Ok-clause-most : goal.returns-in-Ok-clause-most
returns-in-Ok-clause-most c = told_few c.args.told.now

pub returns-in-Err-clause-most : goal.returns-in-Err-clause-most
returns-in-Err-clause-most c = told_few c.args.told.now
