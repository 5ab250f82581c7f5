-- A stream that is cut into messages.
use Rattle.std.specs.Prelude.{◌≡◌, ℕ, ◌+◌, ◌*◌, false, List, [], ◌∷◌, ◌++◌, length, Option}
use Rattle.fl_transport.specs.Ending.{IsEnding, IsRead}
use Rattle.fl_transport.specs.Handshake.{handshake_of}
use Rattle.fl_transport.specs.declared.inbox.Filled.{Filled}
use Rattle.fl_transport.specs.declared.inbox.Filled.TheVariants.{More, Interrupted, End}

-- what contracts see of an inbox: the bytes that were read and not taken yet, and how many reads may come yet
pub record Inflow : Type 0 where
  pub rest : List ℕ
  pub reads : ℕ

-- what is left to do: each read and each message that is taken makes it less
abbrev pub work : Inflow → ℕ
work inbox = 8193 * inbox.reads + length inbox.rest

-- nothing was read yet
pub record IsUnread (inbox : Inflow) : Type 0 where
  pub empty : inbox.rest ≡ []
  pub unread : (left : Option (List ℕ)) → IsRead left left [] inbox.rest

-- a reader was read from there to here, and the rest of what was read with it, after the same messages
pub record ReadsOn (before now : Option (List ℕ)) (rest rest_now : List ℕ) : Type 0 where
  pub onward : (left : Option (List ℕ)) (messages : List (List ℕ)) → IsRead left before messages rest
      → IsRead left now messages rest_now

-- this message was taken, after others that didn't end the session
pub record Takes (message rest rest_now : List ℕ) : Type 0 where
  pub onward : (left left_now : Option (List ℕ)) (messages : List (List ℕ)) → (handshake_of messages).over ≡ false
      → IsRead left left_now messages rest → IsRead left left_now (messages ++ message ∷ []) rest_now

-- a read that is no end: more may come
abbrev pub ReadsAgain : Filled → Type 0
ReadsAgain (End fault) = ⊥
ReadsAgain More = Unit {0}
ReadsAgain Interrupted = Unit {0}

-- if no more bytes come, so ends the reader's part of a session that isn't over
abbrev pub IsEnd : Filled → List ℕ → Option (List ℕ) → Type 0
IsEnd More rest left = Unit {0}
IsEnd Interrupted rest left = Unit {0}
IsEnd (End fault) rest left = IsEnding fault false rest left
