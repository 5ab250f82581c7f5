use Rattle.std.proofs.Common.{rules, ◌∙◌, ◌==◌, [], ◌∷◌, is_some, ap}
use Rattle.fl_arena.specs.Chains.{items}
use Rattle.fl_waiting.specs.Inside.Claims.{requests_of}
use Rattle.fl_waiting.specs.Waiting.{Wish, owner_of, is_waiting}
use Rattle.fl_waiting.specs.declared.claim.Claim.{Claim}
use Rattle.fl_waiting.specs.declared.parked.Request.{Request}
use Rattle.fl_waiting.proofs.Chain.{some_copied, any_found}
use Rattle.fl_waiting.proofs.Claims.{any_request}
use Rattle.fl_waiting.proofs.Behind.{each_wish}
use Rattle.fl_waiting.proofs.parked.Parked.has_wish_of.Goals as goal

pub returns : goal.returns
returns c =
    let test = λ (r : Request). is_waiting c.args.owner (r ∷ []) in
    let of_claim = λ (claim : Claim). test claim.request in
    let found = c.first_where-cursor.ensures.found of_claim (λ a r k. search rules) in
    let claims = items c.self.inside.claims 0 in
    c.is_some.ensures ∙ some_copied c.item.result ∙ ap is_some (c.item.ensures.item ∙ found) ∙ any_found of_claim claims ∙ any_request test claims
    ∙ each_wish (λ (w : Wish). owner_of w == c.args.owner) (requests_of c.self.inside.claims) ∙ ap (is_waiting c.args.owner) c.self.view_is
