-- A server that goes on behind the lines of a trace's file: what its faults say of the file's text, and how it ends.
use Rattle.std.proofs.Common.{◌≡◌, ℕ, Bool, List, [], Option, None, Some, refl, subst}
use Rattle.fl_audit.specs.Audit.{whole_lines}
use Rattle.fl_audit.specs.First.{IsSoOfAll}
use Rattle.fl_audit.specs.declared.finding.AuditFault.{AuditFault}
use Rattle.fl_audit.specs.declared.finding.AuditFault.TheVariants as reading
use Rattle.fl_trace.specs.Text.{BreaksAt, LineFits}
use Rattle.fl_waiting.specs.declared.rules.Rules.{Rules}
use Rattle.fl_history.specs.declared.history.Line.{Line}
use Rattle.fl_transport.specs.Streams.{Streams}
use Rattle.lockd_faults.specs.Ending.{Ending, EndsBehind}
use Rattle.lockd_faults.specs.declared.fault.CommandFault.TheVariants as command
use Rattle.lockd_resume.specs.Behind.{FileSays, ServesBehind}
use Rattle.lockd_resume.specs.Heard.{Text}
use Rattle.lockd_resume.specs.Inside.{told_of_reading}
use Rattle.lockd_resume.specs.Resumed.{IsOverBehind}
use Rattle.lockd_resume.specs.declared.behind.ResumedRun.{ResumedRun}

-- what is so of any text is so of all that was left to read
any_text : (left : Option (List ℕ)) (Says : List ℕ → Type 0) → ((text : List ℕ) → Says text) → IsSoOfAll left Says
any_text None Says so = record { text = []; read = tt; is = so [] }
any_text (Some text) Says so = record { text = text; read = refl; is = so text }

-- the fault of a reading
pub unread : (rules : Rules) (before : Option (List Text)) (left : Option (List ℕ)) (fault : AuditFault)
    → ((n : ℕ) → fault ≡ reading.BadLine n → IsSoOfAll left (λ text. BreaksAt LineFits (whole_lines text) n))
    → IsSoOfAll left (λ text. FileSays rules before text (told_of_reading fault))
unread rules before left (reading.BadLine n) bad = bad n refl
unread rules before left reading.NoMemory bad =
    any_text left (λ text. FileSays rules before text command.NoMemory) (λ text. tt)
unread rules before left reading.Read bad =
    any_text left (λ text. FileSays rules before text command.Read) (λ text. tt)

-- a session went on behind some lines, and this is what is told of it at last
pub serves : {T : Type 0} (rules now : Rules) (heard base : List Line) (contents : T → Option (List ℕ)) (streams : Streams)
    (before it : Ending) (run : ResumedRun T) (whole : Bool) → now ≡ rules
    → IsOverBehind now heard base contents streams before run → EndsBehind run.fault whole it → ServesBehind rules it
serves rules now heard base contents streams before it run whole same over ends =
    let there = subst (λ r. IsOverBehind r heard base contents streams before run) same over in
    record {
      heard = heard;
      base = base;
      streams = streams;
      broken = run.broken;
      whole = whole;
      done = record { history = there.resumed.lines; fault = run.fault; refused = run.refused };
      served = there.resumed.served;
      legal = there.resumed.legal;
      ends = ends;
    }
