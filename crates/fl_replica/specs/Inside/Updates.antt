-- What is published.
use Rattle.std.specs.Prelude.{cond, nat_eq, List, length}
use Rattle.std.specs.List.{fold}
use Rattle.fl_log.specs.Asked.{Ask}
use Rattle.fl_replica.specs.Asks.{Extension}

-- a copy of the asks before it takes the order; any other stays
abbrev pub extended : List Ask → Extension → List Ask
extended asks e = cond (nat_eq (length asks) (length e.before)) e.after asks

-- what is published once all that waits is
abbrev pub in_the_end : List Ask → List Extension → List Ask
in_the_end asks waiting = fold extended asks waiting
