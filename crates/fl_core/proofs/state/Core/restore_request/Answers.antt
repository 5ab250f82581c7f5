use Rattle.std.proofs.Common.{◌≡◌, ◌∙◌, Bool, true, false, sym, subst, refl}
use Rattle.fl_core.specs.State.{Snapshot}
use Rattle.fl_core.proofs.Restored.{Kept, request_kept}
use Rattle.fl_core.proofs.state.Core.restore_request.Goals as goal

pub invariant_of-self : goal.invariant_of-self
invariant_of-self c = go c.wait_told.result refl
  where
    before : Kept c.parts.inside.rules c.parts.inside.locks.marking c.parts.inside.parked
    before = subst (λ (t : Snapshot). Kept t.rules t.marking t.view.parked) (sym c.parts.view_is) c.self.invariant

    go : (b : Bool) → c.wait_told.result ≡ b → Kept c.parts.inside.rules c.parts.inside.locks.marking c.wait_told.new.parked
    go true is =
        subst (Kept c.parts.inside.rules c.parts.inside.locks.marking) (sym (c.wait_told.ensures.waits is))
        (request_kept c.parts.inside.rules c.parts.inside.locks.marking c.parts.inside.parked c.args.request.now before (sym c.wait_told.ensures.fits ∙ is))
    go false is = subst (Kept c.parts.inside.rules c.parts.inside.locks.marking) (sym (c.wait_told.ensures.refused is)) before
