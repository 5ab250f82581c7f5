-- How a session says goodbye.
use Rattle.std.specs.Prelude.{◌≡◌, ℕ, ◌+◌, Bool, true, List, [], ◌∷◌, ◌++◌, All, length, Option, map, sum_by}
use Rattle.fl_log.specs.Appended.{Appended, HasAll}
use Rattle.fl_log.specs.Growing.{Grows}
use Rattle.fl_transport.specs.Collecting.{IsGiven, Outgoing}
use Rattle.fl_transport.specs.declared.response.Response.{Response}
use Rattle.fl_transport.specs.declared.response.Response.TheVariants.{Nothing}
use Rattle.fl_workers.specs.Received.{answer_by}
use Rattle.fl_workers.specs.Sent.{entries_of, spelled}
use Rattle.fl_workers.specs.declared.entry.ReplyEntry.{ReplyEntry}

-- what is said last, if anything is
abbrev pub last_words : Response → List Response
last_words Nothing = []
last_words response = response ∷ []

-- these entries were appended through the same appender
pub record HasGrown (old new : Appended ReplyEntry) (more : List ReplyEntry) : Type 0 where
  pub author : new.author ≡ old.author
  pub grown : Grows (entries_of old.author old.upto) (entries_of old.author new.upto) old.count new.count more

-- All that was given is a log before the goodbye and, if anything is left to say, that. It was written, or a prefix of
-- it. If it is whole, its entries are those that were given through these appenders and the receiver's, and the
-- goodbye.
pub record HasSaidGoodbye (start : Option (List ℕ)) (out : Outgoing) (appenders : List (Appended ReplyEntry))
    (own : Appended ReplyEntry) (goodbye : Response) (whole : Bool) : Type 0 where
  pub front : List ReplyEntry
  pub log : List ReplyEntry
  pub given : IsGiven start out (spelled log)
  pub is : whole ≡ true → log ≡ front ++ map (answer_by own.author) (last_words goodbye)
  pub each : whole ≡ true → All (HasAll (λ e. e.author) log) appenders
  pub mine : Appended ReplyEntry
  pub grown : whole ≡ true → HasGrown own mine (map (answer_by own.author) (last_words goodbye))
  pub all : whole ≡ true → HasAll (λ e. e.author) log mine
  pub total : whole ≡ true → length log ≡ sum_by (λ a. a.count) appenders + mine.count
