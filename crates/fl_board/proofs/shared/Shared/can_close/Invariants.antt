use Rattle.std.proofs.Common.{All, take}
use mathlib.Core.List.{IsPrefix}
use Rattle.fl_record.specs.Asks.{history_of}
use Rattle.fl_record.specs.Seats.{HasMostOf}
use Rattle.fl_board.proofs.shared.Shared.can_close.Given as goal

abbrev pub invariant-loop-seat : goal.invariant-loop-seat
invariant-loop-seat g l = record {
  most : All (λ x. HasMostOf (history_of g.L.BoardName.rules l.self.asks) x) (take l.seat-index l.seats);
  stored : All (λ x. IsPrefix x.stored (history_of g.L.BoardName.rules l.self.stored)) (take l.seat-index l.seats);
}
