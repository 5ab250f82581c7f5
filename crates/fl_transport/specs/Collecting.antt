-- Replies that are collected, and go out together.
use Rattle.std.specs.Prelude.{◌≡◌, ℕ, Bool, true, false, List, ◌++◌, ◌<◌, length, All, Option}
use Rattle.std.specs.List.{concat}
use Rattle.std.specs.Io.KnownBytes.{Appends}
use Rattle.fl_transport.specs.Outbox.{is_broken, writer_of}
use Rattle.fl_transport.specs.declared.reply_batch.ReplyBatch.{ReplyBatch}
use Rattle.fl_wire.specs.Spell.{IsReply}

-- what the writer of a session holds, the bytes that wait to go there, and whether a write failed
pub record Outgoing : Type 0 where
  pub held : Option (List ℕ)
  pub waiting : List ℕ
  pub broken : Bool

-- the same of a batch of replies, whose writer holds what this says
abbrev pub outgoing : {W : Type 0} → (W → Option (List ℕ)) → ReplyBatch W → Outgoing
outgoing contents batch =
    record {
      held = contents (writer_of batch.out).now;
      waiting = batch.replies;
      broken = is_broken batch.out;
    }

-- these bytes begin those, and aren't all of them
pub record IsProperPrefix (front whole : List ℕ) : Type 0 where
  pub rest : List ℕ
  pub more : 0 < length rest
  pub is : front ++ rest ≡ whole

-- These bytes and those that wait are all bytes of the replies. After a failed write, these are a prefix of them.
abbrev pub AreGiven : Bool → List ℕ → List ℕ → List (List ℕ) → Type 0
AreGiven false sent waiting replies = sent ++ waiting ≡ concat replies
AreGiven true sent waiting replies = IsProperPrefix sent (concat replies)

-- These replies, each of which says its own length, were written behind what the writer held at the start, all but the
-- bytes that wait; after a failed write, a prefix of them.
pub record IsGiven (start : Option (List ℕ)) (out : Outgoing) (replies : List (List ℕ)) : Type 0 where
  pub sent : List ℕ
  pub written : Appends start out.held sent
  pub are_given : AreGiven out.broken sent out.waiting replies
  pub framed : All IsReply replies

-- these replies are given after others, whatever those were
pub record Collects (before after : Outgoing) (more : List (List ℕ)) : Type 0 where
  pub onward : (start : Option (List ℕ)) (replies : List (List ℕ)) → IsGiven start before replies
      → IsGiven start after (replies ++ more)
