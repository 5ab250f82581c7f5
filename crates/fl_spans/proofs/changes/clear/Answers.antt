use Rattle.std.proofs.Common.{sym, ap, ◌∙◌}
use Rattle.fl_arena.specs.declared.cursors.Cursor.{Cursor}
use Rattle.fl_spans.proofs.Loops.{no_items, none_from}
use Rattle.fl_spans.proofs.changes.clear.Goals as goal

pub returns-clause-items : goal.returns-clause-items
returns-clause-items g c =
    no_items c.loop-runs.runs c.args.first.now.chain (sym (ap (λ (x : Cursor). x.slot) c.loop-runs.invariant.at)
    ∙ none_from c.loop-runs.first.slot (sym c.is_some.ensures ∙ c.loop-runs-test.false))
