use Rattle.std.proofs.Common.{◌≡◌, rules, ◌∙◌, ◌&&◌, not, Option, Some, None, List, sym}
use Rattle.std.specs.Option.{MatchOption}
use Rattle.fl_core.specs.Inside.Touched.{concerns_request}
use Rattle.fl_waiting.specs.declared.claim.Claim.{Claim}
use Rattle.fl_waiting.specs.declared.parked.Request.{Request}
use Rattle.fl_core.proofs.Alone.{waits_alone}
use Rattle.fl_core.proofs.Waits.{free_found}
use Rattle.fl_core.proofs.settling.take_free.Goals as goal

pub returns : goal.returns
returns c =
    let m = c.args.locks.now.marking in
    let test = λ (r : Request). concerns_request c.args.touched r && not (waits_alone m r) in
    let found = free_found c.args.touched c.args.rules m c.args.parked.now c.requires in
    go c.args.parked.now c.take_free.new.self c.take_free.result (c.take_free.ensures test (λ a r k. search rules)) found
  where
    go : (old new : List Request) (o : Option Claim) {taken free : Option (Request × List Request)}
        → MatchOption o ((taken ≡ None) × (new ≡ old)) (λ claim. taken ≡ Some (claim.request, new)) → taken ≡ free
        → MatchOption o ((free ≡ None) × (new ≡ old)) (λ claim. free ≡ Some (claim.request, new))
    go old new None e same = (sym same ∙ e.0, e.1)
    go old new (Some claim) e same = sym same ∙ e
