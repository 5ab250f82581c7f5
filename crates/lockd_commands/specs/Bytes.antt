-- A session from bytes to bytes: what came of a text of hex lines.
pub mod Inside
use Rattle.std.specs.Prelude.{◌≡◌, ℕ, false, List, [], All, Option, Some, None, IfSome, IsOk, Result, Ok, Err, ⊤}
use Rattle.std.specs.List.{concat}
use Rattle.std.specs.Io.KnownBytes.{Appends, Keeps}
use Rattle.fl_waiting.specs.declared.rules.Rules.{Rules}
use Rattle.lockd_commands.specs.Hex.{hex_stream}
use Rattle.lockd_faults.specs.Faults.{IsBegun}
use Rattle.lockd_faults.specs.HexLines.{hex_lines}
use Rattle.fl_session.specs.Served.{IsServed}
use Rattle.fl_wire.specs.Spell.{IsReply}
use Rattle.fl_session.specs.Session.{session_of}
use Rattle.fl_session.specs.declared.done.Done.{Done}
use Rattle.fl_transport.specs.declared.fault.Fault.{Fault as SessionFault}

-- A session under these rules over this stream, no write of which failed and whose fault is this one, and the lines
-- that are printed for it: one for each of its replies.
pub record IsSession (rules : Rules) (stream lines : List ℕ) (fault : Option SessionFault) : Type 0 where
  pub done : Done
  pub unread : List ℕ
  pub sent : List ℕ
  pub served : IsServed rules (record {
    left = Some stream;
    left_now = Some unread;
    held = Some [];
    held_now = Some sent;
  }) false done
  pub fault_is : done.fault ≡ fault
  pub printed : lines ≡ hex_lines (session_of rules served.came).replies

-- The input is hex lines, and these lines are to be printed of a session under these rules over their bytes, whose
-- stream has this fault.
pub record IsOutput (rules : Rules) (left : Option (List ℕ)) (lines : List ℕ) (fault : Option SessionFault)
    : Type 0 where
  pub text : List ℕ
  pub stream : List ℕ
  pub read : IfSome left (λ bytes. bytes ≡ text)
  pub spelled : hex_stream text ≡ Ok stream
  pub session : IsSession rules stream lines fault

-- a session was over, and all its lines were printed
pub record IsPrinted (rules : Rules) (left old new : Option (List ℕ)) (fault : Option SessionFault) : Type 0 where
  pub lines : List ℕ
  pub is : IsOutput rules left lines fault
  pub written : Appends old new lines

-- a session was over, and a beginning of its lines was printed, which may end within a line
pub record IsPrintedInPart (rules : Rules) (left old new : Option (List ℕ)) : Type 0 where
  pub fault : Option SessionFault
  pub lines : List ℕ
  pub is : IsOutput rules left lines fault
  pub begun : IsBegun lines old new
