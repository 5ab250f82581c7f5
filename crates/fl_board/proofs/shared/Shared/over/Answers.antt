use Rattle.std.proofs.Common.{◌≡◌, [], ◌∙◌, refl}
use Rattle.fl_board.proofs.shared.Shared.over.Goals as goal

pub invariant_of-result : goal.invariant_of-result
invariant_of-result g c =
    let none = c.in-Ok.ensures.asks in
    let stored : c.again-stored.result ≡ [] = c.again-stored.ensures ∙ c.asks.ensures ∙ none in
    (rw (c.in-Ok.ensures.shown, none) refl, rw stored (_, refl))
