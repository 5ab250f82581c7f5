use Rattle.std.proofs.Common.{◌≡◌, ◌+◌, [], length}
use Rattle.fl_counter.specs.Answered.{AreAnsweredLast, AreBehind, answered_by}
use Rattle.fl_workers_tests.proofs.tests.tally.TallyCounter.hand_in_all.Given as goal

-- the orders so far are answered, each with its list, and stand behind the lines that there were
abbrev pub invariant-loop-order : goal.invariant-loop-order
invariant-loop-order g l = record {
  room : l.tolds.room ≡ l.fn.tolds.room;
  lists : (l.lists.room ≡ l.fn.lists.room) × (l.lists.places ≡ l.fn.lists.places);
  own : l.seat.worker ≡ l.fn.seat.worker;
  count : length l.seat.orders.items ≡ length l.fn.seat.orders.items + length l.lists.lists;
  each : length l.lists.lists ≡ l.order-index;
  taken : AreAnsweredLast (answered_by l.fn.seat.worker l.fn.seat.lines.items) l.orders l.lists.lists
      (answered_by l.fn.seat.worker l.seat.lines.items);
  behind : AreBehind l.fn.seat.worker l.fn.seat.lines.items l.orders l.lists.lists l.seat.lines.items;
  none : length l.lists.lists ≡ 0 → l.seat.lines.items ≡ l.fn.seat.lines.items;
  free : l.lists.lists ≡ [] → l.lists.free ≡ l.lists.room;
}
