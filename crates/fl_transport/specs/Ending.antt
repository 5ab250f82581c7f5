-- Which messages came, and how a session ended after them.
use Rattle.std.specs.Prelude.{◌≡◌, ℕ, ◌<◌, ◌⊎◌, Bool, true, false, List, [], ◌∷◌, ◌++◌, length, Option, Some, None}
use Rattle.std.specs.Io.KnownBytes.{Consumes, IsAtEnd}
use Rattle.fl_transport.specs.Handshake.{handshake_of}
use Rattle.fl_transport.specs.declared.fault.Fault.{Fault}
use Rattle.fl_transport.specs.declared.fault.Fault.TheVariants.{Cut, BadLength, Read, Write, NoMemory, NoReader, Unstored}
use Rattle.fl_wire.specs.Cut.{first_step}
use Rattle.fl_wire.specs.Stream.{IsCut}
use Rattle.fl_wire.specs.declared.cut.Step.TheVariants as step

-- What was read is these messages and a rest, and no message came after one that ended the session.
pub record IsRead (left left_now : Option (List ℕ)) (messages : List (List ℕ)) (rest : List ℕ) : Type 0 where
  pub read : List ℕ
  pub consumed : Consumes left left_now read
  pub cut : IsCut read messages rest
  pub live : (front : List (List ℕ)) (last : List ℕ) → messages ≡ front ++ last ∷ []
      → (handshake_of front).over ≡ false

-- How the reader's part of a session ended, which is over or not: with this fault, after this rest and with these bytes
-- left.
abbrev pub IsEnding : Option Fault → Bool → List ℕ → Option (List ℕ) → Type 0
IsEnding None over rest left = (over ≡ true) ⊎ ((rest ≡ []) × IsAtEnd left)
IsEnding (Some Cut) over rest left =
    (over ≡ false) × (0 < length rest) × (first_step rest ≡ step.More) × IsAtEnd left
IsEnding (Some (BadLength n)) over rest left = (over ≡ false) × (first_step rest ≡ step.Bad n)
IsEnding (Some Read) over rest left = (over ≡ false) × (first_step rest ≡ step.More)
IsEnding (Some Write) over rest left = ⊥
IsEnding (Some NoMemory) over rest left = ⊥
IsEnding (Some NoReader) over rest left = ⊥
IsEnding (Some Unstored) over rest left = ⊥

-- the stream ended between messages, or a DESTROY ended the session
abbrev pub IsComplete : Bool → List ℕ → Option (List ℕ) → Type 0
IsComplete over rest left = (over ≡ true) ⊎ ((rest ≡ []) × IsAtEnd left)

-- How a session ended, by its fault: after these messages and this rest of what was read, with these bytes left to the
-- reader, and with a write that failed or none. If both fail, the fault is the reader's.
abbrev pub EndsBy : Option Fault → Bool → List (List ℕ) → List ℕ → Option (List ℕ) → Type 0
EndsBy None broken messages rest left = (broken ≡ false) × IsComplete (handshake_of messages).over rest left
EndsBy (Some Write) broken messages rest left = (broken ≡ true) × IsComplete (handshake_of messages).over rest left
EndsBy (Some Cut) broken messages rest left =
    ((handshake_of messages).over ≡ false) × (0 < length rest) × (first_step rest ≡ step.More) × IsAtEnd left
EndsBy (Some (BadLength n)) broken messages rest left =
    ((handshake_of messages).over ≡ false) × (first_step rest ≡ step.Bad n)
EndsBy (Some Read) broken messages rest left =
    ((handshake_of messages).over ≡ false) × (first_step rest ≡ step.More)
EndsBy (Some NoMemory) broken messages rest left = (messages ≡ []) × (rest ≡ [])
EndsBy (Some NoReader) broken messages rest left = ⊥
EndsBy (Some Unstored) broken messages rest left = ⊥
