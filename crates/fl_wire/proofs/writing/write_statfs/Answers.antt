-- The reply to a STATFS is as long as it says itself.
use Rattle.fl_wire.proofs.Replies.{statfs_few, statfs_is_reply}
use Rattle.fl_wire.proofs.writing.write_statfs.Goals as goal

pub returns-in_err-make_room-clause-reply : goal.returns-in_err-make_room-clause-reply
returns-in_err-make_room-clause-reply c = statfs_is_reply c.args.unique c.args.files c.args.free

pub returns-in_err-make_room-clause-most : goal.returns-in_err-make_room-clause-most
returns-in_err-make_room-clause-most c = statfs_few c.args.unique c.args.files c.args.free

pub returns-clause-reply : goal.returns-clause-reply
returns-clause-reply c = statfs_is_reply c.args.unique c.args.files c.args.free

pub returns-clause-most : goal.returns-clause-most
returns-clause-most c = statfs_few c.args.unique c.args.files c.args.free
