-- The head that goes on behind a trace.
pub mod Inside
use Rattle.std.specs.Prelude.{◌≡◌, ℕ, List, [], ◌∷◌, ◌++◌, codes, Option}
use Rattle.std.specs.Fmt.{decimal}
use Rattle.std.specs.Io.KnownBytes.{Appends}
use Rattle.fl_core.specs.State.{snapshot_of}
use Rattle.fl_desk.specs.Heads.{head_lines}
use Rattle.fl_desk.specs.Leading.{LeadsTo}
use Rattle.fl_desk.specs.Legal.{IsLegal}
use Rattle.fl_desk.specs.Replay.{state_after}
use Rattle.fl_history.specs.declared.history.Line.{Line}
use Rattle.fl_audit.specs.First.{IsSoOfAll}
use Rattle.fl_history.specs.Place.{place_of}
use Rattle.fl_judge.specs.Verdicts.{DiffersAt}
use Rattle.fl_order.specs.declared.state_part.Head.{Head}
use Rattle.fl_order.specs.declared.state_part.StatePart.{StatePart}
use Rattle.fl_trace.specs.Text.{text_of, Fits}
use Rattle.fl_waiting.specs.declared.rules.Rules.{Rules}
use Rattle.lockd_faults.specs.Faults.{IsBegun}

-- This text is that of a head, which leads to what a history leads to that is legal under these rules, and says how many
-- orders and replies stand before it.
pub record IsHeadBehind (rules : Rules) (lines : List Line) (text : List ℕ) : Type 0 where
  pub legal : IsLegal rules lines
  pub head : Head
  pub parts : List StatePart
  pub leads : LeadsTo (head_lines head parts) (snapshot_of (state_after rules lines))
  pub place : head.lines ≡ (place_of lines).lines
  pub spelled : text ≡ text_of (head_lines head parts)

-- all that was left to read is the text of such a history, and this is the text of such a head
pub record IsStateOf (rules : Rules) (left : Option (List ℕ)) (text : List ℕ) : Type 0 where
  pub lines : List Line
  pub read : IsSoOfAll left (λ bytes. (bytes ≡ text_of lines) × Fits lines)
  pub behind : IsHeadBehind rules lines text

-- it is the text of a history that isn't legal: this line is the first that breaks the rules, and this text says so
pub record IsIllegal (rules : Rules) (left : Option (List ℕ)) (text : List ℕ) : Type 0 where
  pub lines : List Line
  pub read : IsSoOfAll left (λ bytes. (bytes ≡ text_of lines) × Fits lines)
  pub line : ℕ
  pub differs : DiffersAt rules lines line
  pub said : text ≡ codes "differs " ++ (decimal line ++ 10 ∷ [])

-- the head was written
pub record IsTold (rules : Rules) (left old new : Option (List ℕ)) : Type 0 where
  pub text : List ℕ
  pub is : IsStateOf rules left text
  pub written : Appends old new text

-- a beginning of the head was written
pub record IsToldInPart (rules : Rules) (left old new : Option (List ℕ)) : Type 0 where
  pub text : List ℕ
  pub is : IsStateOf rules left text
  pub begun : IsBegun text old new

-- it was said, at least in part, that the history isn't legal
pub record IsToldIllegal (rules : Rules) (left old new : Option (List ℕ)) : Type 0 where
  pub text : List ℕ
  pub is : IsIllegal rules left text
  pub begun : IsBegun text old new
