-- What an arena ends as, once a reference to one of its items is given back.
use Rattle.std.specs.Borrow.{Lends, Fml, RattleType, MutBor}
use Rattle.fl_arena.specs.Chains.{Chains}
use Rattle.fl_arena.specs.Cursors.{with_item}
use Rattle.fl_arena.specs.declared.cursors.Cursor.{Cursor}
use Rattle.fl_arena.specs.contracts.chains.Arena.{the_row}

-- the reference lends the item at the cursor: the arena ends with what was last written through it in that place
abbrev pub LendsItem : (T : RattleType) → MutBor (Chains T.Denot) → Cursor → MutBor T.Denot → Fml
LendsItem T a cursor r = Lends (the_row T) T a r (with_item a.now cursor)
