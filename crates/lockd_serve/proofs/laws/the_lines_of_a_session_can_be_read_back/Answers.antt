use Rattle.lockd_serve.proofs.Sessions.{session_fits}
use Rattle.lockd_serve.proofs.laws.the_lines_of_a_session_can_be_read_back.Goals as goal

pub returns : goal.returns
returns c = session_fits c.last_change_counts.ensures c.blocker_is_the_first_lock_in_conflict.ensures.named
    c.parts_are_told_one_by_one.ensures.each
