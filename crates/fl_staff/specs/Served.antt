-- What a session with workers did at a counter.
use Rattle.std.specs.Prelude.{◌≡◌, ◌≢◌, ℕ, ◌⊎◌, Bool, List, [], Option, Some, map, not, ◌&&◌, ◌||◌, sum_by}
use Rattle.std.specs.Io.KnownBytes.{Keeps}
use Rattle.std.specs.List.{range_with_len}
use Rattle.fl_counter.specs.Asked.{Orders}
use Rattle.fl_log.specs.Appended.{Appended, unused}
use Rattle.fl_pool.specs.Working.{HaveDone, Reading}
use Rattle.fl_staff.specs.Closing.{HasSaidGoodbye}
use Rattle.fl_staff.specs.declared.staff.Served.{Served}
use Rattle.fl_transport.specs.Collecting.{IsGiven}
use Rattle.fl_transport.specs.Ending.{EndsBy, IsEnding}
use Rattle.fl_transport.specs.Handshake.{handshake_of}
use Rattle.fl_transport.specs.Streams.{Streams}
use Rattle.fl_transport.specs.declared.fault.Fault.{Fault}
use Rattle.fl_transport.specs.declared.fault.Fault.TheVariants.{NoMemory, NoReader}
use Rattle.fl_transport.specs.declared.response.Response.{Response}
use Rattle.fl_workers.specs.Received.{HasReceived}
use Rattle.fl_workers.specs.Sent.{spelled}
use Rattle.fl_workers.specs.Worked.{Shows}
use Rattle.fl_workers.specs.declared.entry.ReplyEntry.{ReplyEntry}

-- nothing was handed in, shown or stored at this seat
abbrev pub IsUnused : {S : Type 0} → Reading S → S → Type 0
IsUnused r seat = (r.count seat ≡ 0) × (r.answered seat ≡ []) × (r.front seat ≡ []) × (r.stored seat ≡ [])

-- All orders that were received were worked on at these seats. The workers gave what they owe to be sent, the receiver
-- its own answers, and the answer to a DESTROY last. The writer has what was given, or a prefix if a write failed. If
-- `known`, nothing that was owed was lost, and the log of what was given is whole. The fault is that of the end.
pub record HasServed {C S : Type 0} (r : Reading S) (shows : Shows) (workers : ℕ) (streams : Streams) (it : Served C S)
    : Type 0 where
  pub ended : Option Fault
  pub orders : Orders
  pub goodbye : Response
  pub own : Appended ReplyEntry
  pub missing : Bool
  pub received : HasReceived (record {
    left = streams.left;
    left_now = streams.left_now;
    fault = ended;
    orders = orders;
    goodbye = goodbye;
    sent = unused workers;
    sent_now = own;
    lost = missing;
  })
  pub whose : map r.worker it.seats.items ≡ range_with_len 0 workers
  pub sents : List (Appended ReplyEntry)
  pub lost : Bool
  pub did : HaveDone r shows (λ weight. sum_by weight orders) it.seats.items sents it.refused lost
  pub broken : Bool
  pub whole : Bool
  pub said : HasSaidGoodbye streams.held (record { held = streams.held_now; waiting = []; broken = broken }) sents own
      goodbye whole
  pub known : it.known ≡ (whole && not (missing || lost))
  pub ends : (messages : List (List ℕ)) (rest : List ℕ) (left : Option (List ℕ))
      → IsEnding ended (handshake_of messages).over rest left → EndsBy it.fault broken messages rest left
  pub memory : it.fault ≢ Some NoMemory

-- A session that couldn't begin, and read nothing. If memory ran out, nothing was written.
pub record HasNotServed (streams : Streams) (fault : Fault) : Type 0 where
  pub why : (fault ≡ NoMemory) ⊎ (fault ≡ NoReader)
  pub unread : Keeps streams.left streams.left_now
  pub unwritten : fault ≡ NoMemory → streams.held_now ≡ streams.held
  pub log : List ReplyEntry
  pub broken : Bool
  pub sent : IsGiven streams.held (record { held = streams.held_now; waiting = []; broken = broken }) (spelled log)
