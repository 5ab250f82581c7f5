use Rattle.fl_core.proofs.Firsts.{first_is}
use Rattle.fl_core.proofs.laws.first_replies_are_those_of_the_orders_case.Goals as goal

pub returns : goal.returns
returns c = first_is c.a_circle_is_a_path_of_owners_who_wait.ensures.request
