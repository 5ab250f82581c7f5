-- What is said of a trace that is read to its end.
use Rattle.std.specs.Prelude.{◌≡◌, ◌↔◌, ℕ, Bool, true, false, ◌==◌, if◌then◌else◌, List, [], ◌∷◌, Option, IfSome}
use Rattle.std.specs.List.{list_any}
use Rattle.fl_audit.specs.declared.finding.Audited.{Audited}
use Rattle.fl_audit.specs.declared.finding.Finding.{Finding}
use Rattle.fl_audit.specs.declared.finding.Finding.TheVariants.{Legal, Begins, Differs}
use Rattle.fl_desk.specs.Legal.{IsLegal}
use Rattle.fl_judge.specs.Verdicts.{IsBeginning, DiffersAt}
use Rattle.fl_history.specs.declared.history.Line.{Line}
use Rattle.fl_judge.specs.Quiet.{IsQuiet}
use Rattle.fl_trace.specs.Text.{text_of, Fits}
use Rattle.fl_waiting.specs.declared.rules.Rules.{Rules}

-- there is a newline in a text
abbrev pub has_newline : List ℕ → Bool
has_newline text = list_any (λ b. b == 10) text

-- a text up to its last newline, with it; nothing, if there is none
abbrev pub whole_lines : List ℕ → List ℕ
whole_lines [] = []
whole_lines (b ∷ text) = if has_newline (b ∷ text) then b ∷ whole_lines text else []

-- what is judged of a text: all of it, or if it may be cut off its whole lines
abbrev pub judged_part : Bool → List ℕ → List ℕ
judged_part false text = text
judged_part true text = whole_lines text

-- What is found of lines under these rules. Only if a trace may be cut off it is said that they begin a legal
-- history, and then they differ nowhere.
abbrev pub IsFinding : Rules → Bool → List Line → Finding → Type 0
IsFinding rules cut lines Legal = IsLegal rules lines
IsFinding rules false lines Begins = ⊥
IsFinding rules true lines Begins = IsBeginning rules lines × (IsLegal rules lines → ⊥)
IsFinding rules false lines (Differs n) = DiffersAt rules lines n
IsFinding rules true lines (Differs n) = DiffersAt rules lines n × (IsBeginning rules lines → ⊥)

-- a text is that of lines, and under these rules this is found of them, and whether they begin a legal history and
-- are quiet
pub record IsSaidOf (rules : Rules) (cut : Bool) (trace : List ℕ) (audited : Audited) : Type 0 where
  pub lines : List Line
  pub spelled : trace ≡ text_of lines
  pub fits : Fits lines
  pub found : IsFinding rules cut lines audited.finding
  pub quiet : (audited.quiet ≡ true) ↔ (IsBeginning rules lines × IsQuiet rules lines)

-- this is said under these rules of what is judged of all that was left to read
pub record IsAudited (rules : Rules) (cut : Bool) (left : Option (List ℕ)) (audited : Audited) : Type 0 where
  pub trace : List ℕ
  pub read : IfSome left (λ bytes. judged_part cut bytes ≡ trace)
  pub said : IsSaidOf rules cut trace audited
