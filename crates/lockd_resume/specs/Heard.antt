-- What a server has to have heard before a piece in which it goes on, to know messages that are sent again.
use Rattle.std.specs.Prelude.{◌≡◌, ◌⊎◌, ◌+◌, ◌++◌, ◌∷◌, ◌≤◌, ℕ, List, [], Option, None, Some, IfSome, length, unwrap_or}
use Rattle.fl_audit.specs.First.{AreWholeLines, IsSoOfAll}
use Rattle.fl_audit.specs.Opening.{AreNamed}
use Rattle.fl_desk.specs.Legal.{IsLegal}
use Rattle.fl_history.specs.Place.{place_of}
use Rattle.fl_history.specs.Recent.{spoken}
use Rattle.fl_history.specs.declared.history.Line.{Line}
use Rattle.fl_history.specs.declared.place.Place.{Place}
use Rattle.fl_waiting.specs.declared.rules.Rules.{Rules}

-- These lines up to a place are enough: they have 65,536 orders and replies, or all that there are.
abbrev pub AreEnough : Place → List Line → Type 0
AreEnough place lines = (65536 ≤ length (spoken lines)) ⊎ (place.lines ≡ length (spoken lines))

-- the text of a piece, if it is known
abbrev pub Text : Type 0
Text = Option (List ℕ)

-- Of some pieces the last is found next, and those before it are left. If none is found, there were none. Of pieces
-- that aren't known nothing is said.
abbrev pub IsNearest : Option (List Text) → Option Text → Option (List Text) → Type 0
IsNearest None found after = after ≡ None
IsNearest (Some row) None after = (row ≡ []) × (after ≡ Some [])
IsNearest (Some row) (Some text) after = (older : List Text) × (row ≡ older ++ text ∷ []) × (after ≡ Some older)

-- These are the rules of a piece with this text: those that its head names, or else those of the piece behind it.
pub record AreItsRules (behind : Rules) (text : List ℕ) (rules : Rules) : Type 0 where
  pub named : Option Rules
  pub are : AreNamed text named
  pub is : rules ≡ unwrap_or named behind

-- what was heard of some pieces: the rules of the first of them, and all their lines
pub record Earlier : Type 0 where
  pub rules : Rules
  pub lines : List Line

-- What was heard before the lines of a piece wasn't enough, so one more piece was heard. Its whole lines are legal by
-- its own rules, and behind them stand as many orders and replies as its place and that of the last piece say.
pub record IsHeardMore (here : List Line) (text : Text) (before now : Earlier) : Type 0 where
  pub lines : List Line
  pub bytes : ℕ
  pub lacks : AreEnough (place_of here) (before.lines ++ here) → ⊥
  pub rules : IfSome text (λ t. AreItsRules before.rules t now.rules)
  pub whole : IsSoOfAll text (λ t. AreWholeLines t lines bytes)
  pub legal : IsLegal now.rules lines
  pub meets : (place_of lines).lines + length (spoken (before.lines ++ here)) ≡ (place_of here).lines
  pub all : now.lines ≡ lines ++ before.lines

-- this was heard of these pieces before the lines of a piece of these rules, from the last to the first
abbrev pub AreHeard : Rules → List Line → List Text → Earlier → Type 0
AreHeard rules here [] heard = heard ≡ record { rules = rules; lines = [] }
AreHeard rules here (text ∷ pieces) heard =
    (before : Earlier) × (AreHeard rules here pieces before × IsHeardMore here text before heard)

-- Before the lines of a piece of these rules these were heard: those of the last pieces that stand before it, of which
-- each was wanted. `left` is what stands before it, if that is known.
pub record IsHeardBefore (rules : Rules) (left : Option (List Text)) (here heard : List Line) : Type 0 where
  pub older : List Text
  pub pieces : List Text
  pub all : IfSome left (λ row. row ≡ older ++ pieces)
  pub first : Rules
  pub are : AreHeard rules here pieces (record { rules = first; lines = heard })

-- Before the lines of a piece these were heard, and they aren't enough. That no other piece stands before them, or
-- fits, isn't said, since reading may fail.
pub record LacksBefore (rules : Rules) (left : Option (List Text)) (here : List Line) : Type 0 where
  pub heard : List Line
  pub before : IsHeardBefore rules left here heard
  pub lacks : AreEnough (place_of here) (heard ++ here) → ⊥
