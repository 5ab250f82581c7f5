-- The reply to an INIT is as long as it says itself.
use Rattle.fl_wire.proofs.Replies.{init_few, init_is_reply}
use Rattle.fl_wire.proofs.init.write_init.Goals as goal

pub returns-in-Refused-clause-reply : goal.returns-in-Refused-clause-reply
returns-in-Refused-clause-reply c = init_is_reply c.args.unique c.args.step.now

pub returns-in_err-make_room-in-Again-clause-reply : goal.returns-in_err-make_room-in-Again-clause-reply
returns-in_err-make_room-in-Again-clause-reply c = init_is_reply c.args.unique c.args.step.now

pub returns-in_err-make_room-in-Agreed-clause-reply : goal.returns-in_err-make_room-in-Agreed-clause-reply
returns-in_err-make_room-in-Agreed-clause-reply c = init_is_reply c.args.unique c.args.step.now

pub returns-in_ok-make_room-in-Again-clause-reply : goal.returns-in_ok-make_room-in-Again-clause-reply
returns-in_ok-make_room-in-Again-clause-reply c = init_is_reply c.args.unique c.args.step.now

pub returns-in_ok-make_room-in-Agreed-clause-reply : goal.returns-in_ok-make_room-in-Agreed-clause-reply
returns-in_ok-make_room-in-Agreed-clause-reply c = init_is_reply c.args.unique c.args.step.now

pub returns-in-Refused-clause-most : goal.returns-in-Refused-clause-most
returns-in-Refused-clause-most c = init_few c.args.unique c.args.step.now

pub returns-in_err-make_room-in-Again-clause-most : goal.returns-in_err-make_room-in-Again-clause-most
returns-in_err-make_room-in-Again-clause-most c = init_few c.args.unique c.args.step.now

pub returns-in_err-make_room-in-Agreed-clause-most : goal.returns-in_err-make_room-in-Agreed-clause-most
returns-in_err-make_room-in-Agreed-clause-most c = init_few c.args.unique c.args.step.now

pub returns-in_ok-make_room-in-Again-clause-most : goal.returns-in_ok-make_room-in-Again-clause-most
returns-in_ok-make_room-in-Again-clause-most c = init_few c.args.unique c.args.step.now

pub returns-in_ok-make_room-in-Agreed-clause-most : goal.returns-in_ok-make_room-in-Agreed-clause-most
returns-in_ok-make_room-in-Agreed-clause-most c = init_few c.args.unique c.args.step.now
