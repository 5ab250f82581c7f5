use Rattle.std.proofs.Common.{◌≡◌, ◌-◌, ◌<◌, ◌≤◌, IfSome}
use Rattle.fl_arena.specs.Cursors.{cursor_at}
use Rattle.fl_arena.proofs.chains.Arena.slot_at.Given as goal

abbrev pub invariant-loop-cursor : goal.invariant-loop-cursor
invariant-loop-cursor g l = record {
  here : l.cursor ≡ cursor_at l.self l.chain l.cursor.index;
  within : l.cursor.index ≤ l.index;
  in_range : IfSome l.cursor.slot (λ slot. slot < l.self.slots);
}

abbrev pub decreases-loop-cursor : goal.decreases-loop-cursor
decreases-loop-cursor g l = l.index - l.cursor.index
