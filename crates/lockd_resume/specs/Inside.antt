-- What a server reads before a piece, what its next piece tells, and why it doesn't go on. No contract of a public
-- function cites these definitions.
use Rattle.std.specs.Prelude.{◌≡◌, ◌+◌, ◌++◌, ℕ, List, IfSome, length, ⊤}
use Rattle.fl_core.specs.State.{Snapshot, snapshot_of}
use Rattle.fl_desk.specs.Heads.{head_lines, IsHead}
use Rattle.fl_desk.specs.Legal.{IsLegal}
use Rattle.fl_desk.specs.Replay.{state_after}
use Rattle.fl_state.specs.Same.{HaveSame}
use Rattle.fl_history.specs.Place.{place_of}
use Rattle.fl_history.specs.Recent.{spoken}
use Rattle.fl_history.specs.declared.place.Place.{Place}
use Rattle.fl_order.specs.declared.state_part.Head.{Head}
use Rattle.fl_order.specs.declared.state_part.StatePart.{StatePart}
use Rattle.fl_audit.specs.First.{AreWholeLines, IsSoOfAll}
use Rattle.fl_judge.specs.Present.{HasPresent}
use Rattle.fl_judge.specs.Verdicts.{DiffersAt}
use Rattle.fl_history.specs.declared.history.Line.{Line}
use Rattle.fl_audit.specs.declared.finding.AuditFault.{AuditFault}
use Rattle.fl_audit.specs.declared.finding.Heard.{Heard}
use Rattle.fl_audit.specs.declared.finding.AuditFault.TheVariants as reading
use Rattle.fl_waiting.specs.declared.rules.Rules.{Rules}
use Rattle.lockd_faults.specs.declared.fault.CommandFault.{CommandFault}
use Rattle.lockd_faults.specs.declared.fault.CommandFault.TheVariants as command
use Rattle.lockd_resume.specs.Behind.{IsBefore}
use Rattle.lockd_resume.specs.Heard.{AreItsRules, Text}
use Rattle.lockd_resume.specs.declared.before.LastLines.{LastLines}
use Rattle.lockd_resume.specs.declared.resume_file.Unready.{Unready}
use Rattle.lockd_resume.specs.declared.resume_file.Unready.TheVariants as unready

-- the fault of a reading, as a server tells it
abbrev pub told_of_reading : AuditFault → CommandFault
told_of_reading (reading.BadLine n) = command.BadLine n
told_of_reading reading.NoMemory = command.NoMemory
told_of_reading reading.Read = command.Read

-- a fault that is told before anybody is served
abbrev pub ComesBefore : Unready → Type 0
ComesBefore (unready.Fault fault) = IsBefore fault
ComesBefore (unready.Untraced why) = ⊤

-- no legal history begins with these lines, or they end inside a head, and this fault says where they differ
pub record DiffersBy (rules : Rules) (lines : List Line) (fault : CommandFault) : Type 0 where
  pub line : ℕ
  pub is : fault ≡ command.Differs line
  pub differs : DiffersAt rules lines line
  pub none : HasPresent rules lines → ⊥

-- a judge heard the whole lines of a piece with this text, by its rules, and these are the last of them
pub record IsHeardPiece (text : Text) (behind : Rules) (piece : Rules × Heard) : Type 0 where
  pub rules : IfSome text (λ t. AreItsRules behind t piece.0)
  pub judged : piece.1.judge.rules ≡ piece.0
  pub whole : IsSoOfAll text (λ t. AreWholeLines t piece.1.judge.lines piece.1.bytes)
  pub recent : piece.1.recent ≡ piece.1.judge.lines

-- these lines are those of a piece with this text, which is legal, and others behind them, which end at this place
pub record StandsBefore (text : Text) (place : Place) (last more : LastLines) : Type 0 where
  pub lines : List Line
  pub bytes : ℕ
  pub rules : IfSome text (λ t. AreItsRules last.rules t more.rules)
  pub whole : IsSoOfAll text (λ t. AreWholeLines t lines bytes)
  pub legal : IsLegal more.rules lines
  pub meets : (place_of lines).lines + length (spoken last.recent) ≡ place.lines
  pub past : more.past.items ≡ lines ++ last.past.items
  pub recent : more.recent ≡ lines ++ last.recent

-- a head of these parts tells by these rules what is there
pub record TellsSame (rules : Rules) (present : Snapshot) (head : Head) (parts : List StatePart) : Type 0 where
  pub whole : IsHead rules (head_lines head parts)
  pub same : HaveSame present (snapshot_of (state_after rules (head_lines head parts)))
