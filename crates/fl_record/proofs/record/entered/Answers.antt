use Rattle.std.proofs.Common.{◌≡◌, ℕ, ◌++◌, ◌∷◌, [], ap, subst}
use Rattle.fl_record.specs.Seats.{Place}
use Rattle.fl_log.specs.Asked.{ask_of}
use Rattle.fl_record.proofs.record.entered.Goals as goal

pub returns-clause-added : goal.returns-clause-added
returns-clause-added g c =
    subst (λ (w : ℕ). c.added.new.all ≡ c.args.all.now ++ ask_of w c.args.order.now ∷ [])
    (ap (λ (p : Place). p.worker) c.seat.view_is) c.in-Ok.ensures.added
