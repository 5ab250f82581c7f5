use Rattle.std.proofs.Common.{rules}
use Rattle.fl_audit.proofs.OpeningLemmas.{room_more}
use Rattle.fl_audit.proofs.opening.read_front.Goals as goal

pub loop-preserved : goal.loop-preserved
loop-preserved g c =
    room_more _ (g.R.Read.remaining c.loop.input) (g.R.Read.remaining c.read_behind.new.input) c.loop.bytes c.in-Some.came
    c.loop.room c.read_behind.new.room c.loop.invariant c.read_behind.ensures.front c.read_behind.ensures.long
    (search rules) (search rules)
