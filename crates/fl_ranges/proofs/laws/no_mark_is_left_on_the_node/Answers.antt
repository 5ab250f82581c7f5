use Rattle.fl_ranges.proofs.Markings.{get-without_node}
use Rattle.fl_ranges.proofs.laws.no_mark_is_left_on_the_node.Goals as goal

pub returns : goal.returns
returns c = get-without_node
