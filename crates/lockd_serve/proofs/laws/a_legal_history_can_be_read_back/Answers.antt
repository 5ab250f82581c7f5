use Rattle.lockd_serve.proofs.Histories.{orders_fit}
use Rattle.lockd_serve.proofs.laws.a_legal_history_can_be_read_back.Goals as goal

pub returns : goal.returns
returns c = orders_fit c.last_change_counts.ensures c.blocker_is_the_first_lock_in_conflict.ensures.named
    c.parts_are_told_one_by_one.ensures.each
