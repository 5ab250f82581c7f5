use Rattle.std.proofs.Common.{sym, ap, ◌∙◌, arith}
use Rattle.fl_arena.specs.Cursors.{cursor_at}
use Rattle.fl_arena.specs.declared.cursors.Cursor.{Cursor}
use Rattle.fl_arena.proofs.FirstLemmas.{at_in_place}
use Rattle.fl_arena.proofs.chains.Arena.index_on.Goals as goal

pub loop-cursor-init : goal.loop-cursor-init
loop-cursor-init g c =
    let first = c.cursor-cursor.ensures.first in
    let index = ap (λ (k : Cursor). k.index) first in
    record {
      here = first ∙ ap (cursor_at c.args.self.now c.args.chain) (sym index);
      not_before = λ k less told. omega (arith, less, index);
    }

pub step-requires : goal.step-requires
step-requires g c = at_in_place c.args.self.now _ _ _ c.loop-cursor.invariant.here
