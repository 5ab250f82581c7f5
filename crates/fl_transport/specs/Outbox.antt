-- Replies that go out one after another, each whole.
use Rattle.std.specs.Prelude.{ℕ, ◌<◌, Bool, true, false, List, length, take, Option}
use Rattle.std.specs.Io.KnownBytes.{Appends, Keeps}
use Rattle.fl_transport.specs.declared.outbox.Outbox.{Outbox}

-- where its replies go
abbrev pub writer_of : {W : Type 0} → Outbox W → W
writer_of outbox = outbox.writer

-- some reply didn't go out whole
abbrev pub is_broken : {W : Type 0} → Outbox W → Bool
is_broken outbox = outbox.broken

-- only this many bytes of a reply went out, and that isn't all of it
pub record IsPartSent (held held_now : Option (List ℕ)) (reply : List ℕ) : Type 0 where
  pub count : ℕ
  pub short : count < length reply
  pub written : Appends held held_now (take count reply)

-- A reply went out whole, or a beginning of it that isn't all of it, or nothing if one before it was broken. A
-- writer shows no failure to contracts: that a reply is broken only by a write that failed is tested, and not proved.
abbrev pub IsSentBy : Option (List ℕ) → Option (List ℕ) → Bool → Bool → List ℕ → Type 0
IsSentBy held held_now true true reply = Keeps held held_now
IsSentBy held held_now true false reply = ⊥
IsSentBy held held_now false true reply = IsPartSent held held_now reply
IsSentBy held held_now false false reply = Appends held held_now reply
