use Rattle.fl_core.proofs.Stages.{taken_in_stages}
use Rattle.fl_core.proofs.laws.an_order_is_taken_in_stages.Goals as goal

pub returns : goal.returns
returns c =
    let law = c.a_change_counts_where_it_speaks.ensures in
    taken_in_stages (record { others = law.others; class = law.class; unlocked = law.unlocked; cleared = law.cleared })
    c.a_circle_is_a_path_of_owners_who_wait.ensures.request
