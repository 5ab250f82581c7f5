-- Claims, and the requests that they are of.
use Rattle.std.proofs.Common.{◌≡◌, ◌∙◌, ℕ, zero, suc, ◌+◌, ◌<◌, ◌||◌, Bool, true, false, not, cond, Option, Some, None}
use Rattle.std.proofs.Common.{option_map, List, [], ◌∷◌, length, map, remove, get_or, slice_get, refl, sym, ap, arith}
use Rattle.std.proofs.lemmas.List.{length-map, get_or-map}
use Rattle.std.specs.List.{find, list_any, position_or_len}
use Rattle.fl_arena.specs.Chains.{Chains, items, item_count}
use Rattle.fl_waiting.specs.Inside.Claims.{request_in, requests_of}
use Rattle.fl_waiting.specs.Waiting.{taken_first}
use Rattle.fl_waiting.specs.declared.claim.Claim.{Claim}
use Rattle.fl_waiting.specs.declared.parked.Request.{Request}
use Rattle.fl_waiting.proofs.Chain.{all_counted, found_at}

pub any_request : (test : Request → Bool) (claims : List Claim) → list_any (λ (c : Claim). test c.request) claims ≡ list_any test (map request_in claims)
any_request test [] = refl
any_request test (c ∷ claims) = ap (λ b. test c.request || b) (any_request test claims)

pub requests_less : (claims : List Claim) (i : ℕ) → map request_in (remove claims i) ≡ remove (map request_in claims) i
requests_less [] zero = refl
requests_less [] (suc i) = refl
requests_less (c ∷ claims) zero = refl
requests_less (c ∷ claims) (suc i) = ap (λ rs. c.request ∷ rs) (requests_less claims i)

pub all_requests : (a : Chains Claim) → length a.chains ≡ 1 → item_count a ≡ length (requests_of a)
all_requests a one = all_counted a one ∙ sym (length-map (items a 0) request_in)

-- the request of the claim at a place
pub stands_at : (a : Chains Claim) (i : ℕ) (claim : Claim) → slice_get (items a 0) i ≡ Some claim
    → (i < length (requests_of a)) × (get_or (requests_of a) i claim.request ≡ claim.request)
stands_at a i claim found =
    let at = found_at (items a 0) i claim found in
    (omega (arith, at.0, length-map (items a 0) request_in), get_or-map request_in (items a 0) i claim claim.request at.0 ∙ ap request_in at.1)

-- it stands at the place of its claim
pub position_of_request : (test : Request → Bool) (claims : List Claim)
    → position_or_len (λ (c : Claim). test c.request) claims ≡ position_or_len test (map request_in claims)
position_of_request test [] = refl
position_of_request test (c ∷ claims) = ap (λ n. cond (not (test c.request)) (1 + n) 0) (position_of_request test claims)

suc_is_one_plus : (n : ℕ) → suc n ≡ 1 + n
suc_is_one_plus n = omega arith

abbrev pub keep : Request → Option (Request × List Request) → Option (Request × List Request)
keep r o = option_map (λ (p : Request × List Request). (p.0, r ∷ p.1)) o

-- what is left of the requests without a claim
abbrev pub without : List Claim → ℕ → List Request
without claims i = map request_in (remove claims i)

-- in the words of a chain: what is found, and what its removal leaves
pub taken_found : (test : Request → Bool) (claims : List Claim) → taken_first test (map request_in claims)
    ≡ option_map (λ c. (request_in c, without claims (position_or_len (λ (k : Claim). test k.request) claims))) (find (λ (k : Claim). test k.request) claims)
unfolding taken_first
taken_found test [] = refl
taken_found test (c ∷ claims) = go (test c.request) (find at claims) (taken_found test claims)
  where
    at : Claim → Bool
    at = λ k. test k.request

    go : (b : Bool) (o : Option Claim)
        → taken_first test (map request_in claims) ≡ option_map (λ k. (request_in k, without claims (position_or_len at claims))) o
        → cond b (Some (c.request, map request_in claims)) (keep c.request (taken_first test (map request_in claims)))
        ≡ option_map (λ k. (request_in k, without (c ∷ claims) (cond (not b) (1 + position_or_len at claims) 0))) (cond b (Some c) o)
    go true o e = refl
    go false None e = ap (keep c.request) e
    go false (Some k) e = ap (keep c.request) e ∙ ap (λ n. Some (request_in k, without (c ∷ claims) n)) (suc_is_one_plus (position_or_len at claims))
