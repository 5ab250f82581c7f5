-- Where the trace of a session is, once its server ends, and what that tells.
use Rattle.std.specs.Prelude.{◌⊎◌, ℕ, Bool, true, false, List, Option, Some}
use Rattle.std.specs.Io.KnownBytes.{Appends}
use Rattle.fl_session.specs.declared.done.Done.{Done}
use Rattle.fl_stream.specs.Streams.{IsBegun, Wrote, WroteSome}
use Rattle.fl_trace.specs.Text.{text_of}
use Rattle.fl_transport.specs.declared.fault.Fault.{Fault as SessionFault}
use Rattle.fl_transport.specs.declared.fault.Fault.TheVariants as session
use Rattle.lockd_faults.specs.Ending.{Ending, Ends, EndsUntraced, told_of}
use Rattle.lockd_faults.specs.declared.fault.CommandFault.TheVariants.{Write}

-- The session has a history. It has none at `NoMemory`, when nothing was served, nor at `NoReader`, when the workers'
-- board can't tell it.
abbrev pub has_history : Option SessionFault → Bool
has_history (Some session.NoMemory) = false
has_history (Some session.NoReader) = false
has_history fault = true

-- The text of the session's history was printed, all of it, and its fault is told. If the output can't be written, a
-- beginning of the text may be there, and this is the only fault that is told. `out` and `out_now` are what the output
-- held before and holds then.
abbrev pub Prints : Done → Option (List ℕ) → Option (List ℕ) → Ending → Type 0
Prints done out out_now it =
    (Appends out out_now (text_of done.history) × Ends (told_of done.fault) it)
    ⊎ (WroteSome (text_of done.history) out out_now × Ends (Some Write) it)

-- A writer has the text of the session's history, all of it and nothing else, and the session's fault is told. If it
-- lacks some, it has a beginning of the text, and it is told that the trace failed. `contents` is what a writer says
-- that it holds.
abbrev pub Traces : {T : Type 0} → (T → Option (List ℕ)) → Done → Ending → T → Type 0
Traces contents done it writer =
    (Wrote contents (contents writer) (text_of done.history) × Ends (told_of done.fault) it)
    ⊎ (IsBegun contents (contents writer) done.history × EndsUntraced (told_of done.fault) it)
