-- What a server leaves once its session is over: its trace, what it tells, and its status.
use Rattle.std.specs.Prelude.{◌≡◌, ℕ, true, false, List, Option, None, Some, IfSome, ⊤}
use Rattle.std.specs.Io.KnownBytes.{Appends, Keeps}
use Rattle.fl_history.specs.declared.history.Line.{Line}
use Rattle.fl_session.specs.declared.done.Done.{Done}
use Rattle.fl_stream.specs.Streams.{HoldsText, Wrote}
use Rattle.fl_stream.specs.declared.manner.WhenWriterFails.{WhenWriterFails}
use Rattle.fl_stream.specs.declared.manner.WhenWriterFails.TheVariants.{GoOn}
use Rattle.fl_trace.specs.Text.{text_of}
use Rattle.fl_transport.specs.Streams.{Streams}
use Rattle.fl_transport.specs.declared.fault.Fault.TheVariants as session
use Rattle.fl_waiting.specs.declared.rules.Rules.{Rules}
use Rattle.lockd_faults.specs.Ending.{Ending, Ends, told_of}
use Rattle.lockd_resume.specs.Ending.{Prints, Traces, has_history}
use Rattle.lockd_serve.specs.Served.{HasServed}
use Rattle.lockd_serve.specs.declared.options.TraceTo.{TraceTo}
use Rattle.lockd_serve.specs.declared.options.TraceTo.TheVariants as to

-- What a session with a history leaves, by where its trace goes. If that is a writer, it comes back (`back`), and
-- nothing is printed.
abbrev pub LeavesTrace : {S T : Type 0} → TraceTo S → (T → Option (List ℕ)) → Done → Option (List ℕ) → Option (List ℕ)
    → Ending → Option T → Type 0
LeavesTrace to.Output contents done out out_now it back = (back ≡ None) × Prints done out out_now it
LeavesTrace to.Nowhere contents done out out_now it back =
    (back ≡ None) × Keeps out out_now × Ends (told_of done.fault) it
LeavesTrace (to.Writer blank) contents done out out_now it back =
    Keeps out out_now × ((writer : _) × (back ≡ Some writer) × Traces contents done it writer)

-- A writer has the text of the stored lines, with or without more behind it. This isn't said if orders go on without
-- it.
abbrev pub HasStored : {T : Type 0} → WhenWriterFails → (T → Option (List ℕ)) → List Line → T → Type 0
HasStored GoOn contents stored writer = ⊤
HasStored when_full contents stored writer = HoldsText contents (contents writer) stored

-- A session was served, and this is what the server leaves of it. All speaks of one and the same session: what was read
-- and written, its history, the lines of it that are stored, its trace, its fault and the status. If it has no history,
-- a trace's writer is gone, and only the session's fault is told. It ends for lines that aren't stored only if a writer
-- gets the trace.
pub record IsOver {S T : Type 0} (workers : ℕ) (rules : Rules) (trace : TraceTo S) (when_full : WhenWriterFails)
    (contents : T → Option (List ℕ)) (streams : Streams) (out out_now : Option (List ℕ)) (it : Ending)
    (back : Option T) : Type 0 where
  pub done : Done
  pub stored : List Line
  pub served : HasServed workers rules streams stored done
  pub traced : has_history done.fault ≡ true → LeavesTrace trace contents done out out_now it back
  pub untraced : has_history done.fault ≡ false
      → (back ≡ None) × Keeps out out_now × Ends (told_of done.fault) it
  pub unstored : done.fault ≡ Some session.Unstored → (writer : S) × (trace ≡ to.Writer writer)
  pub there : IfSome back (HasStored when_full contents stored)

-- The trace of these lines is whole, wherever it goes: all of its text was printed, or its writer has that and nothing
-- else.
abbrev pub IsWhole : {S T : Type 0} → TraceTo S → (T → Option (List ℕ)) → List Line → Option (List ℕ)
    → Option (List ℕ) → Option T → Type 0
IsWhole to.Output contents lines out out_now back = Appends out out_now (text_of lines)
IsWhole to.Nowhere contents lines out out_now back = ⊤
IsWhole (to.Writer blank) contents lines out out_now back =
    (writer : _) × (back ≡ Some writer) × Wrote contents (contents writer) (text_of lines)

-- A session was served to its end, no read or write of it failed, and its trace is whole.
pub record WentWell {S T : Type 0} (workers : ℕ) (rules : Rules) (trace : TraceTo S) (when_full : WhenWriterFails)
    (contents : T → Option (List ℕ)) (streams : Streams) (out out_now : Option (List ℕ)) (back : Option T)
    : Type 0 where
  pub done : Done
  pub stored : List Line
  pub served : HasServed workers rules streams stored done
  pub faultless : done.fault ≡ None
  pub whole : IsWhole trace contents done.history out out_now back
  pub there : IfSome back (HasStored when_full contents stored)
