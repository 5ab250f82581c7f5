use Rattle.fl_staff.proofs.EndLemmas.{goodbye_given}
use Rattle.fl_staff.proofs.finishing.say.Goals as goal

pub returns-in_default : goal.returns-in_default
returns-in_default g c =
    let given = goodbye_given _ _ _ _ _ _ c.in_default.not-Nothing c.collect.ensures.logged c.collect.ensures.appended in
    record { said = given.0; grown = given.1 }
