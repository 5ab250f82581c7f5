-- What an audit says, as `check` says it.
use Rattle.std.proofs.Common.{◌≡◌, ◌↔◌, ℕ, Bool, true, false, Option, List, [], refl, sym, subst, append-nil}
use Rattle.std.specs.Io.KnownBytes.{Appends}
use Rattle.fl_audit.specs.Audit.{IsFinding, IsAudited}
use Rattle.fl_audit.specs.declared.finding.Audited.{Audited}
use Rattle.fl_audit.specs.declared.finding.Finding.{Finding}
use Rattle.fl_audit.specs.declared.finding.Finding.TheVariants.{Legal, Begins, Differs}
use Rattle.fl_desk.specs.Legal.{IsLegal}
use Rattle.fl_judge.specs.Verdicts.{IsBeginning}
use Rattle.fl_history.specs.declared.history.Line.{Line}
use Rattle.fl_judge.specs.Quiet.{IsQuiet}
use Rattle.fl_waiting.specs.declared.rules.Rules.{Rules}
use Rattle.lockd_commands.specs.Check.{answer_text, SaysQuiet, IsAnswerTo, IsJudged, IsJudgedInPart}
use Rattle.lockd_commands.specs.Check.Inside.{quiet_told}
use Rattle.lockd_commands.specs.declared.check.CheckOptions.{CheckOptions}
use Rattle.lockd_faults.specs.Faults.{IsBegun}

-- a legal history is a beginning of one
pub whole : (rules : Rules) (lines : List Line) → IsLegal rules lines → IsBeginning rules lines
whole rules lines legal = record { rest = []; legal = subst (IsLegal rules) (sym (append-nil lines)) legal }

says : (rules : Rules) (asked cut quiet : Bool) (finding : Finding) (lines : List Line) → IsFinding rules cut lines finding
    → (quiet ≡ true) ↔ (IsBeginning rules lines × IsQuiet rules lines)
    → SaysQuiet rules asked finding lines (quiet_told asked finding quiet)
says rules true cut quiet Legal lines legal known = (λ is. (known.0 is).1, λ quiet. known.1 (whole rules lines legal, quiet))
says rules true cut quiet Begins lines found known = refl
says rules true cut quiet (Differs n) lines found known = refl
says rules false cut quiet Legal lines legal known = refl
says rules false cut quiet Begins lines found known = refl
says rules false cut quiet (Differs n) lines found known = refl

answers : (rules : Rules) (options : CheckOptions) (left : Option (List ℕ)) (audited : Audited) (told : Option Bool) (answer : List ℕ)
    → IsAudited rules options.cut left audited → told ≡ quiet_told options.tells_quiet audited.finding audited.quiet
    → answer ≡ answer_text audited.finding told → IsAnswerTo rules options left audited.finding answer
answers rules options left audited told answer is quiet spelled = record {
  trace = is.trace;
  lines = is.said.lines;
  read = is.read;
  spelled = is.said.spelled;
  fits = is.said.fits;
  judged = is.said.found;
  told = told;
  says = subst (SaysQuiet rules options.tells_quiet audited.finding is.said.lines) (sym quiet)
      (says rules options.tells_quiet options.cut audited.quiet audited.finding is.said.lines is.said.found is.said.quiet);
  spelled_out = spelled;
}

pub judged : (rules : Rules) (options : CheckOptions) (left old new : Option (List ℕ)) (audited : Audited) (told : Option Bool)
    (answer : List ℕ) → IsAudited rules options.cut left audited
    → told ≡ quiet_told options.tells_quiet audited.finding audited.quiet → answer ≡ answer_text audited.finding told
    → Appends old new answer → IsJudged rules options left old new audited.finding
judged rules options left old new audited told answer is quiet spelled written = record {
  answer = answer;
  is = answers rules options left audited told answer is quiet spelled;
  written = written;
}

-- a beginning of the answer was written
pub judged_in_part : (rules : Rules) (options : CheckOptions) (left old new : Option (List ℕ)) (audited : Audited)
    (told : Option Bool) (answer : List ℕ) → IsAudited rules options.cut left audited
    → told ≡ quiet_told options.tells_quiet audited.finding audited.quiet → answer ≡ answer_text audited.finding told
    → IsBegun answer old new → IsJudgedInPart rules options left old new
judged_in_part rules options left old new audited told answer is quiet spelled begun = record {
  finding = audited.finding;
  answer = answer;
  is = answers rules options left audited told answer is quiet spelled;
  begun = begun;
}

-- of a trace that can't be cut off it is never said that it begins a legal one
pub never_begins : (rules : Rules) (options : CheckOptions) (left old new : Option (List ℕ)) → options.cut ≡ false
    → IsJudged rules options left old new Begins → ⊥
never_begins rules options left old new uncut is = subst (λ cut. IsFinding rules cut is.is.lines Begins) uncut is.is.judged
