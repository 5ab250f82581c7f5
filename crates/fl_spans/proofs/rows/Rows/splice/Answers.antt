use Rattle.std.proofs.Common.{◌≡◌, ◌≢◌, ◌+◌, ◌≤◌, not, is_some, length, set, [], sym, ap, ◌∙◌, subst, arith}
use Rattle.fl_arena.specs.Chains.{entries, items}
use Rattle.fl_arena.specs.declared.cursors.Cursor.{Cursor}
use Rattle.fl_spans.specs.Rows.{RowChains, row_cursor, rows, row_lists, runs_at, run_count, limit_of, run_cursor}
use Rattle.fl_spans.specs.Rows.{with_runs, spliced, pieces_of, IsRow}
use Rattle.fl_spans.specs.Inside.Kept.{AreRows}
use Rattle.fl_spans.proofs.Values.{counted, set_runs}
use Rattle.fl_spans.proofs.Loops.{no_items, none_from}
use Rattle.fl_spans.proofs.RowChanges.{row_gone, rows_gone, row_spliced, rows_spliced}
use Rattle.fl_spans.proofs.Calls.{shifted_is, no_entries, has_first, IsSplice, is_splice, with_these, without_any}
use Rattle.fl_spans.proofs.Calls.{has_room, stands_with}
use Rattle.fl_spans.proofs.rows.Rows.splice.Goals as goal
use Rattle.fl_spans.proofs.rows.Rows.splice.Goals.{After-self}

-- where the row and its runs are
at : (g : _) (c : After-self g) → IsSplice c.self.inside.heads c.self.inside.runs c.self.inside.unused c.self.invariant c.args.row.now c.args.at
at g c =
    is_splice _ _ _ c.self.invariant c.args.row.now c.args.at (subst (λ w. IsRow w c.args.row.now) (sym c.self.view_is) c.requires.row) c.requires.at_row
    (c.requires.at ∙ ap (λ w. run_cursor w c.args.row.now.chain c.args.row.now.index c.args.at.index) (sym c.self.view_is))

pub splice_runs-requires-clause-chain : goal.splice_runs-requires-clause-chain
splice_runs-requires-clause-chain g c = (at g (goal.at.splice_runs-requires-clause-chain g c).After-self).in_chains

pub splice_runs-requires-clause-there : goal.splice_runs-requires-clause-there
splice_runs-requires-clause-there g c =
    subst (λ xs. c.args.at.index + c.args.taken ≤ length xs) (at g (goal.at.splice_runs-requires-clause-there g c).After-self).listed
    (subst (λ w. c.args.at.index + c.args.taken ≤ length (runs_at (rows w c.args.row.now.chain) c.args.row.now.index)) (sym c.self.view_is) c.requires.taken)

pub splice_runs-requires-clause-room : goal.splice_runs-requires-clause-room
splice_runs-requires-clause-room g c =
    subst (λ k. k + length (pieces_of c.args.pieces) ≤ c.self.inside.runs.slots + c.args.taken) (counted _ _ _ c.self.invariant)
    (subst (λ w. run_count w + length (pieces_of c.args.pieces) ≤ limit_of w + c.args.taken) (sym c.self.view_is) c.requires.room)

pub cursor-requires : goal.cursor-requires
cursor-requires g c =
    let within = (at g (goal.at.cursor-requires g c).After-self).in_chains in
    let long = c.splice_runs.ensures.size.chains in
    omega (arith, within, long)

pub invariant_of-self : goal.invariant_of-self
invariant_of-self g c =
    let s = c.shift.ensures.chains in
    let here = at g (goal.at.invariant_of-self g c).After-self in
    let same : here.e ≡ s.moved = let both = sym here.found ∙ s.was_there in cc in
    let number = here.number ∙ ap (λ x. x.item.runs) same in
    let none = no_items c.splice_runs.new.runs c.args.at.chain (sym (ap (λ (x : Cursor). x.slot) c.cursor.ensures.first)
    ∙ none_from c.cursor.result.slot (c.is_none.ensures ∙ ap not c.if-is_none.true)) in
    subst (λ a. AreRows a c.splice_runs.new.runs c.self.inside.unused)
    (sym (shifted_is _ _ _ _ c.self.inside.unused 0 s c.cursor-spare.ensures.first (omega arith)))
    (row_gone _ _ _ _ _ _ s.moved c.self.invariant s.was_there c.splice_runs.ensures.size (λ d apart. c.splice_runs.ensures.others d (λ e. apart (e ∙ number)))
    here.less (no_entries c.splice_runs.new.runs s.moved.item.runs (subst (λ m. items c.splice_runs.new.runs m ≡ []) number none)))

pub returns-then-is_none-clause-rows : goal.returns-then-is_none-clause-rows
returns-then-is_none-clause-rows g c =
    let s = c.shift.ensures.chains in
    let here = at g (goal.at.returns-then-is_none-clause-rows g c).After-self in
    let same : here.e ≡ s.moved = let both = sym here.found ∙ s.was_there in cc in
    let number = here.number ∙ ap (λ x. x.item.runs) same in
    let none = no_items c.splice_runs.new.runs c.args.at.chain (sym (ap (λ (x : Cursor). x.slot) c.cursor.ensures.first)
    ∙ none_from c.cursor.result.slot (c.is_none.ensures ∙ ap not c.if-is_none.true)) in
    let v : RowChains g.row.K.Denot g.row.R.Denot = record { heads = c.self.inside.heads; runs = c.self.inside.runs } in
    let spl = ap (λ xs. spliced xs c.args.at.index c.args.taken (pieces_of c.args.pieces)) here.listed ∙ sym c.splice_runs.ensures.items in
    ap (λ a. row_lists (record { heads = a; runs = c.splice_runs.new.runs }))
    (shifted_is _ _ _ _ c.self.inside.unused 0 s c.cursor-spare.ensures.first (omega arith))
    ∙ rows_gone _ _ _ _ _ _ s.moved c.self.invariant s.was_there c.splice_runs.ensures.size
    (λ d apart. c.splice_runs.ensures.others d (λ e. apart (e ∙ number))) here.less
    ∙ ap (set (row_lists v) c.args.row.now.chain) (without_any _ _ _ c.self.invariant (rows v c.args.row.now.chain) c.args.row.now.index
    ∙ ap (with_runs (rows v c.args.row.now.chain) c.args.row.now.index) (sym (spl ∙ none)))
    ∙ ap (λ w. set (row_lists w) c.args.row.now.chain (with_runs (rows w c.args.row.now.chain) c.args.row.now.index
    (spliced (runs_at (rows w c.args.row.now.chain) c.args.row.now.index) c.args.at.index c.args.taken (pieces_of c.args.pieces)))) c.self.view_is

pub invariant_of-self-else-is_none : goal.invariant_of-self-else-is_none
invariant_of-self-else-is_none g c =
    let here = at g (goal.at.invariant_of-self-else-is_none g c).After-self in
    let some = has_first c.splice_runs.new.runs c.args.at.chain (ap (λ (x : Cursor). is_some x.slot) (sym c.cursor.ensures.first) ∙ c.is_none.ensures
    ∙ ap not c.if-is_none.false) in
    row_spliced _ _ _ _ _ _ here.e c.self.invariant here.found c.splice_runs.ensures.size
    (λ d apart. c.splice_runs.ensures.others d (λ e. apart (e ∙ here.number))) here.less
    (subst (λ m. entries c.splice_runs.new.runs m ≢ []) here.number some)

pub returns-else-is_none-clause-rows : goal.returns-else-is_none-clause-rows
returns-else-is_none-clause-rows g c =
    let here = at g (goal.at.returns-else-is_none-clause-rows g c).After-self in
    let some = has_first c.splice_runs.new.runs c.args.at.chain (ap (λ (x : Cursor). is_some x.slot) (sym c.cursor.ensures.first) ∙ c.is_none.ensures
    ∙ ap not c.if-is_none.false) in
    let v : RowChains g.row.K.Denot g.row.R.Denot = record { heads = c.self.inside.heads; runs = c.self.inside.runs } in
    let spl = ap (λ xs. spliced xs c.args.at.index c.args.taken (pieces_of c.args.pieces)) here.listed ∙ sym c.splice_runs.ensures.items in
    rows_spliced _ _ _ _ _ _ here.e c.self.invariant here.found c.splice_runs.ensures.size
    (λ d apart. c.splice_runs.ensures.others d (λ e. apart (e ∙ here.number))) here.less
    ∙ ap (set (row_lists v) c.args.row.now.chain) (ap (set_runs (rows v c.args.row.now.chain) c.args.row.now.index) (ap (items c.splice_runs.new.runs)
    (sym here.number))
    ∙ with_these _ _ _ c.self.invariant (rows v c.args.row.now.chain) c.args.row.now.index (items c.splice_runs.new.runs c.args.at.chain)
    (λ e. some (no_entries c.splice_runs.new.runs c.args.at.chain e))
    ∙ ap (with_runs (rows v c.args.row.now.chain) c.args.row.now.index) (sym spl))
    ∙ ap (λ w. set (row_lists w) c.args.row.now.chain (with_runs (rows w c.args.row.now.chain) c.args.row.now.index
    (spliced (runs_at (rows w c.args.row.now.chain) c.args.row.now.index) c.args.at.index c.args.taken (pieces_of c.args.pieces)))) c.self.view_is

pub returns-then-is_none-clause-size : goal.returns-then-is_none-clause-size
returns-then-is_none-clause-size g c =
    has_room _ _ _ _ (returns-then-is_none-clause-rows g c) (c.splice_runs.ensures.size.slots ∙ ap limit_of c.self.view_is)

pub returns-else-is_none-clause-size : goal.returns-else-is_none-clause-size
returns-else-is_none-clause-size g c =
    has_room _ _ _ _ (returns-else-is_none-clause-rows g c) (c.splice_runs.ensures.size.slots ∙ ap limit_of c.self.view_is)

pub returns-then-is_none-clause-row : goal.returns-then-is_none-clause-row
returns-then-is_none-clause-row g c =
    stands_with _ _ c.args.row.now _ _ c.requires.row c.requires.at_row (returns-then-is_none-clause-rows g c) c.shift.ensures.from_cursor

pub returns-else-is_none-clause-row : goal.returns-else-is_none-clause-row
returns-else-is_none-clause-row g c =
    stands_with _ _ c.args.row.now _ _ c.requires.row c.requires.at_row (returns-else-is_none-clause-rows g c)
    (c.requires.row.at ∙ ap (λ w. row_cursor w c.args.row.now.chain c.args.row.now.index) (sym c.self.view_is))
