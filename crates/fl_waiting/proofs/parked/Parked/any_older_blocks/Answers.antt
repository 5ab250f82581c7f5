use Rattle.std.proofs.Common.{rules, ◌∙◌, [], ◌∷◌, is_some, ap}
use Rattle.std.specs.List.{list_any}
use Rattle.fl_arena.specs.Chains.{items}
use Rattle.fl_waiting.specs.Inside.Claims.{requests_of}
use Rattle.fl_waiting.specs.Waiting.{Wish, older_blocks, wishes}
use Rattle.fl_waiting.specs.declared.claim.Claim.{Claim}
use Rattle.fl_waiting.specs.declared.parked.Request.{Request}
use Rattle.fl_waiting.proofs.Behind.{each_wish}
use Rattle.fl_waiting.proofs.Chain.{some_copied, any_found}
use Rattle.fl_waiting.proofs.Claims.{any_request}
use Rattle.fl_waiting.proofs.parked.Parked.any_older_blocks.Goals as goal

pub returns : goal.returns
returns c =
    let wanted : Wish = record { key = c.args.key.now; start = c.args.range.now.start; end = c.args.range.now.end; kind = c.args.kind } in
    let test = λ (r : Request). list_any (older_blocks wanted) (wishes (r ∷ [])) in
    let of_claim = λ (claim : Claim). test claim.request in
    let found = c.first_where-cursor.ensures.found of_claim (λ a r k. search rules) in
    let claims = items c.self.inside.claims 0 in
    c.is_some.ensures ∙ some_copied c.item.result ∙ ap is_some (c.item.ensures.item ∙ found) ∙ any_found of_claim claims ∙ any_request test claims
    ∙ each_wish (older_blocks wanted) (requests_of c.self.inside.claims) ∙ ap (λ parked. list_any (older_blocks wanted) (wishes parked)) c.self.view_is
