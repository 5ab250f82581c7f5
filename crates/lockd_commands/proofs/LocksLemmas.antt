-- What is said of a trace, as `locks` says it.
use Rattle.std.proofs.Common.{◌≡◌, ℕ, Option, List, [], ◌∷◌, ◌++◌, codes, subst, sym}
use Rattle.std.specs.Fmt.{decimal}
use Rattle.fl_core.specs.State.{Snapshot}
use Rattle.fl_judge.specs.Verdicts.{DiffersAt}
use Rattle.fl_history.specs.declared.history.Line.{Line}
use Rattle.fl_audit.specs.First.{AreFirstLines, IsSoOfAll}
use Rattle.fl_judge.specs.Present.{HasPresent, IsPresent}
use Rattle.fl_locks.specs.LockRows.{rows_of}
use Rattle.fl_waiting.specs.declared.rules.Rules.{Rules}
use Rattle.lockd_commands.specs.Locks.{of_file, rows_text, AreListed, AreDifferent}
use Rattle.lockd_commands.specs.declared.locks.LocksOptions.{LocksOptions}

-- the list of what is there after the lines of a judge, who judges by its own rules
pub listed : (rules own : Rules) (options : LocksOptions) (left : Option (List ℕ)) (lines : List Line)
    (present : Snapshot) (text : List ℕ) → own ≡ rules
    → IsSoOfAll left (λ bytes. AreFirstLines options.at bytes lines) → IsPresent own lines present
    → text ≡ rows_text options.json (of_file options.file (rows_of present)) → AreListed rules options left text
listed rules own options left lines present text same read after spelled = record {
  lines = lines;
  read = read;
  present = present;
  after = subst (λ r. IsPresent r lines present) same after;
  listed = spelled;
}

-- which line of them is the first that breaks the rules
pub different : (rules own : Rules) (options : LocksOptions) (left : Option (List ℕ)) (lines : List Line) (line : ℕ)
    (text : List ℕ) → own ≡ rules → IsSoOfAll left (λ bytes. AreFirstLines options.at bytes lines)
    → (HasPresent own lines → ⊥) → DiffersAt own lines line → text ≡ codes "differs " ++ (decimal line ++ 10 ∷ [])
    → AreDifferent rules options left text
different rules own options left lines line text same read none differs said = record {
  lines = lines;
  read = read;
  none = subst (λ r. HasPresent r lines → ⊥) same none;
  line = line;
  differs = subst (λ r. DiffersAt r lines line) same differs;
  said = said;
}
