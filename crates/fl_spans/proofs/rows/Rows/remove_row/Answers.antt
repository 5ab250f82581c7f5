use Rattle.std.proofs.Common.{◌≡◌, set, [], sym, ap, ◌∙◌, subst, arith}
use Rattle.std.specs.List.{remove}
use Rattle.fl_arena.specs.Chains.{entries, items}
use Rattle.fl_arena.specs.declared.cursors.Cursor.{Cursor}
use Rattle.fl_spans.specs.Rows.{limit_of, rows, row_lists, number_at, IsRow}
use Rattle.fl_spans.specs.Inside.Kept.{AreRows}
use Rattle.fl_spans.proofs.Values.{number_there}
use Rattle.fl_spans.proofs.RowChanges.{row_gone, rows_gone}
use Rattle.fl_spans.proofs.Calls.{shifted_is, no_entries, row_before, has_room, stands_removed}
use Rattle.fl_spans.proofs.rows.Rows.remove_row.Goals as goal
use Rattle.fl_spans.proofs.rows.Rows.remove_row.Goals.{After-shift}

pub invariant_of-self : goal.invariant_of-self
invariant_of-self g c =
    let s = c.shift.ensures.chains in
    let row = subst (λ w. IsRow w c.args.row.now) (sym c.self.view_is) c.requires.row in
    let chain = ap (λ (x : Cursor). x.chain) c.first_run-run.ensures.first
    ∙ ap (λ w. number_at (entries w.heads c.args.row.now.chain) c.args.row.now.index) (sym c.self.view_is)
    ∙ number_there (entries c.self.inside.heads c.args.row.now.chain) c.args.row.now.index s.moved s.was_there in
    let less = row_before _ _ _ c.self.invariant c.args.row.now row in
    subst (λ a. AreRows a c.clear.new.runs c.self.inside.unused) (sym (shifted_is _ _ _ _ c.self.inside.unused 0 s c.cursor-spare.ensures.first (omega arith)))
    (row_gone _ _ _ _ _ _ s.moved c.self.invariant s.was_there c.clear.ensures.size (λ d apart. c.clear.ensures.others d (λ e. apart (e ∙ chain))) less
    (no_entries c.clear.new.runs s.moved.item.runs (subst (λ m. items c.clear.new.runs m ≡ []) chain c.clear.ensures.items)))

pub returns-clause-rows : goal.returns-clause-rows
returns-clause-rows g c =
    let s = c.shift.ensures.chains in
    let row = subst (λ w. IsRow w c.args.row.now) (sym c.self.view_is) c.requires.row in
    let chain = ap (λ (x : Cursor). x.chain) c.first_run-run.ensures.first
    ∙ ap (λ w. number_at (entries w.heads c.args.row.now.chain) c.args.row.now.index) (sym c.self.view_is)
    ∙ number_there (entries c.self.inside.heads c.args.row.now.chain) c.args.row.now.index s.moved s.was_there in
    let less = row_before _ _ _ c.self.invariant c.args.row.now row in
    ap (λ a. row_lists (record { heads = a; runs = c.clear.new.runs }))
    (shifted_is _ _ _ _ c.self.inside.unused 0 s c.cursor-spare.ensures.first (omega arith))
    ∙ rows_gone _ _ _ _ _ _ s.moved c.self.invariant s.was_there c.clear.ensures.size (λ d apart. c.clear.ensures.others d (λ e. apart (e ∙ chain))) less
    ∙ ap (λ w. set (row_lists w) c.args.row.now.chain (remove (rows w c.args.row.now.chain) c.args.row.now.index)) c.self.view_is

pub returns-clause-size : goal.returns-clause-size
returns-clause-size g c = has_room _ _ _ _ (returns-clause-rows g c) (c.clear.ensures.size.slots ∙ ap limit_of c.self.view_is)

pub returns-clause-row : goal.returns-clause-row
returns-clause-row g c = stands_removed _ _ c.args.row.now _ c.requires.row c.requires.at_row (returns-clause-rows g c) c.shift.ensures.from_cursor
