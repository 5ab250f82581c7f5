use Rattle.std.proofs.Common.{refl}
use Rattle.fl_session.proofs.NewLemmas.{own_new}
use Rattle.fl_session.proofs.laws.messages_with_uniques_of_their_own_are_new.Goals as goal

pub returns : goal.returns
returns c =
    let settling = c.settling_answers_the_oldest_first.ensures in
    own_new (λ rules s. (settling.told rules s _ _).1 (refl, refl))
