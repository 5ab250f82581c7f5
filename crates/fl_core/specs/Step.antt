-- All replies that an order gives, and what is there after it.
use Rattle.std.specs.Prelude.{◌≡◌, Err, List, [], ◌∷◌, ◌++◌}
use Rattle.std.specs.List.{Contains}
use Rattle.fl_core.specs.Effects.{replied, made}
use Rattle.fl_core.specs.First.{own}
use Rattle.fl_core.specs.Replies.{first_told}
use Rattle.fl_core.specs.Settling.{Present, Settled, present, settled}
use Rattle.fl_core.specs.State.{State, Snapshot, snapshot_of}
use Rattle.fl_order.specs.declared.errno.Errno.{Errno}
use Rattle.fl_order.specs.declared.order.Order.{Order}
use Rattle.fl_order.specs.declared.told.Told.{Told}

-- what the order changes with its first replies
abbrev pub after_first : Snapshot → Order → Snapshot
after_first p order = made (replied order (first_told p order)) p

-- the parked requests are settled
abbrev pub settling : Snapshot → Settled
settling p = settled p.rules (present p.marking p.view.parked)

-- the replies that an order gives: its first ones, and those that settling gives
abbrev pub replies : Snapshot → Order → List Told
replies p order = first_told p order ++ (settling (after_first p order)).tolds

-- the same, in the state before it
abbrev pub replies_in : State → Order → List Told
replies_in s order = replies (snapshot_of s) order

-- the locks and the parked requests are these
abbrev pub with_present : Present → Snapshot → Snapshot
with_present s p = record p { view = record p.view { parked = s.parked }; marking = s.marking }

-- what is there after an order
abbrev pub next : Snapshot → Order → Snapshot
next p order = let first = after_first p order in with_present (settling first).present first

-- If the order itself is rejected with an error, nobody else gets a reply, and all is as it was before: the directory,
-- the parked requests, and the locks.
abbrev pub ChangesNothing : Snapshot → Order → List Told → Snapshot → Type 0
ChangesNothing before order tolds after =
    (e : Errno) → Contains tolds (own order (Err e)) → (tolds ≡ own order (Err e) ∷ []) × (after ≡ before)
