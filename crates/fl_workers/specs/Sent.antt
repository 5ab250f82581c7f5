-- What workers and the receiver of a session give to the writer that they share.
use Rattle.std.specs.Prelude.{◌≡◌, ℕ, Bool, false, List, [], ◌∷◌, ◌++◌, map}
use mathlib.Core.List.{Sublistᴰ}
use Rattle.fl_log.specs.Appended.{Appended, entries_by}
use Rattle.fl_log.specs.Growing.{Grows}
use Rattle.fl_order.specs.declared.told.Told.{Told}
use Rattle.fl_transport.specs.Collecting.{Outgoing}
use Rattle.fl_transport.specs.Response.{unserved}
use Rattle.fl_transport.specs.declared.response.Response.{Response}
use Rattle.fl_transport.specs.declared.response.Response.TheVariants.{Nothing, Init, One, Replies, Whole}
use Rattle.fl_wire.specs.Init.{init_spelling}
use Rattle.fl_wire.specs.Spell.{spelling_of}
use Rattle.fl_workers.specs.declared.entry.Reply.{Reply}
use Rattle.fl_workers.specs.declared.entry.Reply.TheVariants as reply
use Rattle.fl_workers.specs.declared.entry.ReplyEntry.{ReplyEntry}

-- the bytes of a reply
abbrev pub spelling : Reply → List ℕ
spelling (reply.Init unique step) = init_spelling unique step
spelling (reply.Told told) = spelling_of told

-- replies to orders
abbrev pub replies_to : List Told → List Reply
replies_to tolds = map (λ told. reply.Told told) tolds

-- the replies of a response: with several workers none is that of a whole session, whatever the rules are
abbrev pub replies_of : Response → List Reply
replies_of Nothing = []
replies_of (Init unique step) = reply.Init unique step ∷ []
replies_of (One told) = replies_to (told ∷ [])
replies_of (Replies tolds) = replies_to tolds.now
replies_of (Whole unique ask) = replies_to (unserved unique ∷ [])

-- replies that this author gave at once
abbrev pub entry : ℕ → List Reply → ReplyEntry
entry author replies = record { author = author; replies = replies }

-- the bytes of each reply of the entries, in their order
abbrev pub spelled : List ReplyEntry → List (List ℕ)
spelled [] = []
spelled (e ∷ es) = map spelling e.replies ++ spelled es

-- the entries of this author, in their order
abbrev pub entries_of : ℕ → List ReplyEntry → List ReplyEntry
entries_of author log = entries_by (λ (e : ReplyEntry). e.author) author log

-- Of these entries, which were owed one after another, some were given in this order through an appender, and no
-- others. If nothing was lost, all were given.
pub record HasSent (owed : List ReplyEntry) (old new : Appended ReplyEntry) (lost : Bool) : Type 0 where
  pub author : new.author ≡ old.author
  pub given : List ReplyEntry
  pub of : Sublistᴰ given owed
  pub grown : Grows (entries_of old.author old.upto) (entries_of old.author new.upto) old.count new.count given
  pub all : lost ≡ false → given ≡ owed

-- what goes out by a shared sender, whether the session has begun, and all that was given to be sent
pub record Sending : Type 0 where
  pub out : Outgoing
  pub begun : Bool
  pub log : List ReplyEntry
