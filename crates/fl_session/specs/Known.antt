-- What lines have of a unique that its client uses for one message.
use Rattle.std.specs.Prelude.{◌≡◌, ◌≢◌, ℕ, ◌+◌, ◌<◌, ◌≤◌, Bool, true, List, [], ◌∷◌, ◌++◌, length, map}
use Rattle.std.specs.Prelude.{set, slice_index, Some, Ok, Err, ⊤}
use Rattle.std.specs.List.{AllByRecursion}
use Rattle.fl_history.specs.Recent.{spoken}
use Rattle.fl_history.specs.declared.history.Line.{Line}
use Rattle.fl_history.specs.declared.history.Line.TheVariants as line
use Rattle.fl_order.specs.declared.order.Order.{Order}
use Rattle.fl_order.specs.declared.refusal.Refusal.TheVariants.{Batch}
use Rattle.fl_order.specs.declared.state_part.StateLine.TheVariants as state
use Rattle.fl_order.specs.declared.state_part.StatePart.TheVariants as part
use Rattle.fl_order.specs.declared.told.Told.{Told}
use Rattle.fl_session.specs.Again.{unmarked}
use Rattle.fl_session.specs.Once.{SaysTheSame}
use Rattle.fl_session.specs.Session.{Came}
use Rattle.fl_transport.specs.Handshake.{said_to}
use Rattle.fl_wire.specs.Batch.{forgets_in}
use Rattle.fl_wire.specs.Layout.{unique_of}

-- a line is of this unique: an order, a reply, or a request that a head tells
abbrev pub IsOf : ℕ → Line → Type 0
IsOf unique (line.Asked worker order) = order.unique ≡ unique
IsOf unique (line.Told told) = told.unique ≡ unique
IsOf unique (line.State (state.Part (part.Wait other node ask))) = other ≡ unique
IsOf unique (line.State _) = ⊥

-- no line is of this unique
abbrev pub HaveNothing : ℕ → List Line → Type 0
HaveNothing unique lines = AllByRecursion (λ (l : Line). IsOf unique l → ⊥) lines

-- Of this unique lines have one order, and no reply. Fewer than 65,536 orders and replies stand behind the order.
pub record HaveOrder (lines : List Line) (unique : ℕ) : Type 0 where
  pub worker : ℕ
  pub order : Order
  pub before : List Line
  pub after : List Line
  pub named : order.unique ≡ unique
  pub stand : lines ≡ before ++ line.Asked worker order ∷ after
  pub none_before : HaveNothing unique before
  pub none_after : HaveNothing unique after
  pub near : length (spoken after) < 65536

-- Of this unique lines have these orders of one batch, side by side, and no reply. With the orders and replies behind
-- them these are at most 65,536.
pub record HaveBatch (lines : List Line) (unique : ℕ) (orders : List Order) : Type 0 where
  pub before : List Line
  pub after : List Line
  pub named : AllByRecursion (λ (order : Order). order.unique ≡ unique) orders
  pub stand : lines ≡ before ++ (map (λ order. line.Asked 0 order) orders ++ after)
  pub none_before : HaveNothing unique before
  pub none_after : HaveNothing unique after
  pub near : length orders + length (spoken after) ≤ 65536

-- Of its unique, lines have one order, and behind it this reply. Fewer than 65,536 orders and replies stand behind the
-- reply.
pub record HaveReply (lines : List Line) (told : Told) : Type 0 where
  pub worker : ℕ
  pub order : Order
  pub before : List Line
  pub between : List Line
  pub after : List Line
  pub named : order.unique ≡ told.unique
  pub stand : lines ≡ (before ++ line.Asked worker order ∷ between) ++ line.Told told ∷ after
  pub none_before : HaveNothing told.unique before
  pub none_between : HaveNothing told.unique between
  pub none_after : HaveNothing told.unique after
  pub near : length (spoken after) < 65536

-- Each of these messages has a unique of its own: no line has it, and no other of the messages.
abbrev pub HaveOwnUniques : List Line → List Came → Type 0
HaveOwnUniques lines [] = ⊤
HaveOwnUniques lines (c ∷ came) =
    HaveNothing (unique_of c.message) lines
    × AllByRecursion (λ (other : Came). unique_of other.message ≢ unique_of c.message) came × HaveOwnUniques lines came

-- The message with its mark: bit 63 of its unique, whose bytes are the eighth to the fifteenth, counted from 0.
abbrev pub with_mark : List ℕ → List ℕ
with_mark message = set message 15 (slice_index message 15 + 128)

-- The second messages are the first ones with a mark, and their orders are refused or not alike.
abbrev pub AreMarked : List Came → List Came → Type 0
AreMarked [] [] = ⊤
AreMarked [] (m ∷ marked) = ⊥
AreMarked (c ∷ came) [] = ⊥
AreMarked (c ∷ came) (m ∷ marked) =
    SaysTheSame c.message m.message × (m.refused ≡ c.refused) × AreMarked came marked

-- To a session, whole or not, a message is an order that is sent again, marked, and has this unique without its mark.
pub record IsOrderAgain (whole : Bool) (unique : ℕ) (message : List ℕ) : Type 0 where
  pub order : Order
  pub marked : unmarked true (unique_of message) ≡ Some unique
  pub says : said_to whole message ≡ Ok order

-- the same of a batch of so many orders
pub record IsBatchAgain (whole : Bool) (unique count : ℕ) (message : List ℕ) : Type 0 where
  pub marked : unmarked true (unique_of message) ≡ Some unique
  pub says : said_to whole message ≡ Err Batch
  pub counted : length (forgets_in message) ≡ count
