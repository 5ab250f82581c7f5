-- How rows are made. No public clause cites this module.
use Rattle.std.specs.Prelude.{◌≡◌, Bool, true, List, map}
use Rattle.std.specs.List.{filter}
use Rattle.fl_waiting.specs.Waiting.{Wish}
use Rattle.fl_waiting.specs.declared.claim.Claim.{Claim}
use Rattle.fl_waiting.specs.declared.parked.Request.{Request}
use Rattle.fl_locks.specs.declared.lock.Lock.{Lock}

-- a lock, as the definitions have it
abbrev pub meant : Lock → Wish
meant l = record { key = l.key; start = l.start; end = l.end; kind = l.kind }

-- the requests of claims
abbrev pub requests_of : List Claim → List Request
requests_of claims = map (λ (claim : Claim). claim.request) claims

-- a part of a list has all that passes a test, or any stricter one, in order
abbrev pub IsPart : {X : Type 0} → (X → Bool) → List X → List X → Type 0
IsPart {X} test all part =
    (p : X → Bool) → ((x : X) → p x ≡ true → test x ≡ true) → filter p part ≡ filter p all
