use Rattle.std.proofs.Common.{rules, ◌≡◌, ℕ, suc, ◌==◌, ◌∙◌, true, false, List, [], ◌∷◌, is_some, length, refl, sym, ap}
use Rattle.std.proofs.Common.{arith}
use Rattle.std.proofs.lemmas.Bool.Decides.{nat_tests}
use Rattle.std.specs.List.{list_any}
use Rattle.fl_arena.specs.Chains.{items}
use Rattle.fl_waiting.specs.Inside.Claims.{requests_of}
use Rattle.fl_waiting.specs.Waiting.{is_parked}
use Rattle.fl_waiting.specs.declared.claim.Claim.{Claim}
use Rattle.fl_waiting.specs.declared.parked.Request.{Request}
use Rattle.fl_waiting.proofs.Chain.{some_copied, any_found}
use Rattle.fl_waiting.proofs.Claims.{any_request}
use Rattle.fl_waiting.proofs.Counts.{none_past}
use Rattle.fl_waiting.proofs.parked.Parked.has.Goals as goal
use Rattle.fl_waiting.proofs.parked.Parked.has.Goals.{then-is_empty-via-then-is_empty}
use Rattle.fl_waiting.proofs.parked.Parked.has.Goals.{then-is_empty-via-else-is_empty+then-unique-self}

pub returns-clause-found : goal.returns-clause-found
returns-clause-found c =
    let test = λ (r : Request). r.unique == c.args.unique in
    let of_claim = λ (claim : Claim). test claim.request in
    let found = c.first_where-cursor.ensures.found of_claim (λ a r k. search rules) in
    let claims = items c.self.inside.claims 0 in
    c.is_some.ensures ∙ some_copied c.item.result ∙ ap is_some (c.item.ensures.item ∙ found) ∙ any_found of_claim claims ∙ any_request test claims
    ∙ ap (list_any test) c.self.view_is

nothing : (parked : List Request) (unique : ℕ) → true ≡ (length parked == 0) → false ≡ is_parked unique parked
nothing [] unique e = refl
nothing (r ∷ parked) unique e = absurd (some (length parked) e)
  where
    some : (n : ℕ) → true ≡ (suc n == 0) → ⊥
    some n e = grind (arith, nat_tests)

pub returns-then-is_empty-clause-found : goal.returns-then-is_empty-clause-found
returns-then-is_empty-clause-found c = elim c.then-is_empty.branch [
  | then-is_empty-via-then-is_empty w ↦ nothing c.args.self.now c.args.unique w.if-is_empty.ensures.empty
  | then-is_empty-via-else-is_empty+then-unique-self w ↦
      sym (ap (is_parked c.args.unique) (sym c.self.view_is)
      ∙ none_past c.args.unique c.self.inside.greatest (requests_of c.self.inside.claims) c.self.invariant.2 w.if-unique-self.true)
]
