-- An update that leads to the asks that are there leaves them as they are.
use Rattle.std.proofs.Common.{◌≡◌, Bool, true, false, List, length, refl, sym, ◌∙◌}
use Rattle.std.specs.Prelude.{cond, nat_eq}
use Rattle.fl_replica.specs.Asks.{Extension}
use Rattle.fl_replica.specs.Inside.Updates.{extended}
use Rattle.fl_log.specs.Asked.{Ask}

either : (b : Bool) (after asks : List Ask) → after ≡ asks → cond b after asks ≡ asks
either true after asks same = same
either false after asks same = refl

pub changes_nothing : (was asks : List Ask) (e : Extension) → was ≡ asks → e.after ≡ asks → extended was e ≡ asks
changes_nothing was asks e is after = either (nat_eq (length was) (length e.before)) e.after was (after ∙ sym is) ∙ is
