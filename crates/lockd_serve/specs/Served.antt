-- What a server did with a client, with one worker or with several.
use Rattle.std.specs.Prelude.{◌≡◌, ℕ, ◌<◌, Bool, List}
use Rattle.fl_desk.specs.Legal.{IsLegal, IsLegalFromNothing}
use Rattle.fl_history.specs.declared.history.Line.{Line}
use Rattle.fl_serve.specs.Serve.{IsServedBy}
use Rattle.fl_session.specs.Served.{IsServedAhead}
use Rattle.fl_session.specs.declared.done.Done.{Done}
use Rattle.fl_transport.specs.Streams.{Streams}
use Rattle.fl_waiting.specs.declared.rules.Rules.{Rules}

-- One worker: the history and the replies are those of the session of the messages that were read. All replies were
-- written, or after a failed write a prefix. They are replies to messages whose lines are stored.
abbrev pub HasServedAlone : Rules → Streams → List Line → Done → Type 0
HasServedAlone rules streams stored done = (broken : Bool) × IsServedAhead rules streams broken done stored

-- So many workers served what was read, by orders that wait under these rules. The history is legal, one worker did
-- what `IsServedAhead` says, and several did what `IsServedBy` says, of the lines that are stored, and began with nothing.
pub record HasServed (workers : ℕ) (rules : Rules) (streams : Streams) (stored : List Line) (done : Done)
    : Type 0 where
  pub legal : IsLegal rules done.history
  pub alone : workers ≡ 1 → HasServedAlone rules streams stored done
  pub several : 1 < workers → IsServedBy workers rules streams stored done
  pub from_nothing : 1 < workers → IsLegalFromNothing rules done.history
