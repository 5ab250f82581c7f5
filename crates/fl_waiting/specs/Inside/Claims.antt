-- The requests of the claims that are kept.
use Rattle.std.specs.Prelude.{◌≡◌, ℕ, Bool, true, false, Some, List, [], map, slice_get, take}
use Rattle.fl_arena.specs.Chains.{Chains, items}
use Rattle.fl_waiting.specs.Waiting.{standard, AllBehind}
use Rattle.fl_waiting.specs.declared.claim.Claim.{Claim}
use Rattle.fl_waiting.specs.declared.parked.Request.{Request}
use Rattle.fl_waiting.specs.declared.rules.Rules.{Rules}

-- the request of a claim
abbrev pub request_in : Claim → Request
request_in claim = claim.request

-- those of the one chain
abbrev pub requests_of : Chains Claim → List Request
requests_of claims = map request_in (items claims 0)

-- rules that are fair or not, and else the standard ones
abbrev pub ruled : Bool → Rules
ruled fair = record standard { fair = fair }

-- the first request that passes a test of it and of the older ones stands at this place, or none does and it is the end
pub record IsFirstBehind (test : List Request → Request → Bool) (parked : List Request) (place : ℕ) : Type 0 where
  pub none : AllBehind (λ older r. test older r ≡ false) [] (take place parked)
  pub passes : (r : Request) → slice_get parked place ≡ Some r → test (take place parked) r ≡ true
