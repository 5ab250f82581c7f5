-- A trace that is judged.
pub mod Inside
use Rattle.std.specs.Prelude.{◌≡◌, ◌↔◌, ℕ, Bool, true, false, List, [], ◌∷◌, ◌++◌, codes, Option, Some, None, IfSome}
use Rattle.std.specs.Fmt.{decimal}
use Rattle.std.specs.Io.KnownBytes.{Appends}
use Rattle.fl_trace.specs.Text.{text_of, Fits}
use Rattle.fl_audit.specs.Audit.{judged_part, IsFinding}
use Rattle.fl_audit.specs.declared.finding.Finding.{Finding}
use Rattle.fl_audit.specs.declared.finding.Finding.TheVariants.{Legal, Begins, Differs}
use Rattle.fl_history.specs.declared.history.Line.{Line}
use Rattle.fl_judge.specs.Quiet.{IsQuiet}
use Rattle.fl_waiting.specs.declared.rules.Rules.{Rules}
use Rattle.lockd_commands.specs.declared.check.CheckOptions.{CheckOptions}
use Rattle.lockd_faults.specs.Faults.{IsBegun}

-- the line that says what is found
abbrev pub finding_text : Finding → List ℕ
finding_text Legal = codes "legal" ++ 10 ∷ []
finding_text Begins = codes "begins" ++ 10 ∷ []
finding_text (Differs n) = codes "differs " ++ (decimal n ++ 10 ∷ [])

-- the line that says whether a history is quiet
abbrev pub quiet_text : Bool → List ℕ
quiet_text true = codes "quiet" ++ 10 ∷ []
quiet_text false = codes "not quiet" ++ 10 ∷ []

-- what is found, and behind `legal` the line that says whether the history is quiet, if that is to be said
abbrev pub answer_text : Finding → Option Bool → List ℕ
answer_text Legal (Some quiet) = finding_text Legal ++ quiet_text quiet
answer_text finding told = finding_text finding

-- whether it is quiet is said if that is asked and the history is legal, and then it is right
abbrev pub SaysQuiet : Rules → Bool → Finding → List Line → Option Bool → Type 0
SaysQuiet rules true Legal lines None = ⊥
SaysQuiet rules true Legal lines (Some quiet) = (quiet ≡ true) ↔ IsQuiet rules lines
SaysQuiet rules asked finding lines told = told ≡ None

-- What is judged of all that was left to read is the trace of a history, and this text says what is found of this
-- history under these rules, and whether it is quiet, if that is asked and it is legal.
pub record IsAnswerTo (rules : Rules) (options : CheckOptions) (left : Option (List ℕ)) (finding : Finding)
    (answer : List ℕ) : Type 0 where
  pub trace : List ℕ
  pub lines : List Line
  pub read : IfSome left (λ bytes. judged_part options.cut bytes ≡ trace)
  pub spelled : trace ≡ text_of lines
  pub fits : Fits lines
  pub judged : IsFinding rules options.cut lines finding
  pub told : Option Bool
  pub says : SaysQuiet rules options.tells_quiet finding lines told
  pub spelled_out : answer ≡ answer_text finding told

-- a trace was judged, and the answer was written
pub record IsJudged (rules : Rules) (options : CheckOptions) (left old new : Option (List ℕ)) (finding : Finding)
    : Type 0 where
  pub answer : List ℕ
  pub is : IsAnswerTo rules options left finding answer
  pub written : Appends old new answer

-- a trace was judged, and a beginning of the answer was written, which may end within a line
pub record IsJudgedInPart (rules : Rules) (options : CheckOptions) (left old new : Option (List ℕ)) : Type 0 where
  pub finding : Finding
  pub answer : List ℕ
  pub is : IsAnswerTo rules options left finding answer
  pub begun : IsBegun answer old new
