use Rattle.std.proofs.Common.{◌≡◌, ◌<◌, length}
use mathlib.Core.List.{IsPrefix}
use Rattle.fl_record.specs.Asks.{history_of}
use Rattle.fl_record.specs.Shown.{AreHandedIn}
use Rattle.fl_record.proofs.record.Record.take_all.Given as goal

-- the orders so far were taken, and before the first there is room for the replies to it
abbrev pub invariant-loop-order : goal.invariant-loop-order
invariant-loop-order g l = record {
  handed : AreHandedIn g.L.BoardName.rules l.fn.seat l.orders l.lists.lists l.seat;
  stored : IsPrefix l.fn.self.stored l.self.stored;
  all : 0 < length l.lists.lists → history_of g.L.BoardName.rules l.self.asks ≡ l.seat.handed;
  count : length l.lists.lists ≡ l.order-index;
  room : l.tolds.room ≡ l.fn.tolds.room;
  lists : (l.lists.room ≡ l.fn.lists.room) × (l.lists.places ≡ l.fn.lists.places);
  first : l.order-index ≡ 0 → l.lists.free ≡ l.lists.room;
}
