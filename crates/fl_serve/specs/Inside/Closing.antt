-- The result of a session once its board is closed.
use Rattle.std.specs.Prelude.{◌≡◌, Bool, List, All, Option, sum_by}
use mathlib.Core.List.{IsPrefix}
use Rattle.fl_record.specs.Seats.{Place}
use Rattle.fl_board.specs.Shown.{HasAllOf}
use Rattle.fl_desk.specs.Legal.{orders_asked}
use Rattle.fl_history.specs.declared.history.Line.{Line}
use Rattle.fl_session.specs.declared.done.Done.{Done}
use Rattle.fl_transport.specs.declared.fault.Fault.{Fault}

-- The result of a session: its history has all that was handed in at these places, and no other order. What is stored
-- begins with what is stored at each place.
pub record HasAll (places : List Place) (refused : Bool) (fault : Option Fault) (stored : List Line) (done : Done)
    : Type 0 where
  pub told : done.fault ≡ fault
  pub tells : done.refused ≡ refused
  pub each : All (HasAllOf done.history) places
  pub kept : All (λ place. IsPrefix place.stored stored) places
  pub counted : orders_asked done.history ≡ sum_by (λ place. place.count) places
