use Rattle.std.proofs.Common.{◌≡◌, Some, set, slice_get, sym, ap, ◌∙◌, subst}
use Rattle.std.specs.Option.{option_map}
use Rattle.fl_arena.specs.Chains.{Entry, entries}
use Rattle.fl_arena.specs.Cursors.{cursor_at}
use Rattle.fl_spans.specs.declared.rows.Head.{Head}
use Rattle.fl_spans.specs.Rows.{rows, row_lists, with_key, number_at, limit_of, IsRow, run_cursor}
use Rattle.fl_spans.specs.Inside.Kept.{AreRows}
use Rattle.fl_spans.proofs.Reading.{at_head, entry_there, some_slot}
use Rattle.fl_spans.proofs.Calls.{key_kept, key_rows, numbers_kept, new_head, row_before, has_room}
use Rattle.fl_spans.proofs.rows.Rows.set_key.Goals as goal
use Rattle.fl_spans.proofs.rows.Rows.set_key.Goals.{After-set, In-Some}

-- the head at the cursor
there : (g : _) (c : In-Some g) → (e : Entry (Head g.row.K.Denot))
    × (slice_get (entries c.self.inside.heads c.args.row.now.chain) c.args.row.now.index ≡ Some e)
    × (e.item ≡ c.in-Some.head)
there g c =
    entry_there c.self.inside.heads c.args.row.now.chain c.args.row.now.index c.in-Some.head
    (sym (c.get.ensures.at_index _ _ (at_head _ _ _ c.self.view_is c.args.row.now c.requires.row)) ∙ c.in-Some.is)

pub invariant_of-self : goal.invariant_of-self
invariant_of-self g c =
    let e = there g (goal.at.invariant_of-self g c).In-Some in
    subst (λ a. AreRows a c.self.inside.runs c.self.inside.unused) (sym c.set.ensures.chains)
    (key_kept _ _ _ _ _ e.0 _ c.self.invariant e.1 (ap (λ x. x.runs) (sym e.2)))

pub returns-clause-rows : goal.returns-clause-rows
returns-clause-rows g c =
    let e = there g (goal.at.returns-clause-rows g c).In-Some in
    let less = row_before _ _ _ c.self.invariant c.args.row.now (subst (λ w. IsRow w c.args.row.now) (sym c.self.view_is) c.requires.row) in
    ap (λ a. row_lists (record { heads = a; runs = c.self.inside.runs })) c.set.ensures.chains
    ∙ key_rows _ _ _ _ _ e.0 _ c.self.invariant e.1 (ap (λ x. x.runs) (sym e.2)) less
    ∙ ap (λ w. set (row_lists w) c.args.row.now.chain (with_key (rows w c.args.row.now.chain) c.args.row.now.index c.args.key)) c.self.view_is

pub returns-clause-row : goal.returns-clause-row
returns-clause-row g c =
    let e = there g (goal.at.returns-clause-row g c).In-Some in
    let slot = ap (λ es. option_map (λ x. x.slot) (slice_get (entries es c.args.row.now.chain) c.args.row.now.index)) c.set.ensures.chains
    ∙ ap (option_map (λ x. x.slot)) (new_head _ _ _ _ _ e.0 _ c.self.invariant e.1 (ap (λ x. x.runs) (sym e.2))) in
    ap (λ o. record { chain = c.args.row.now.chain; index = c.args.row.now.index; slot = o }) (some_slot c.args.row.now.slot c.requires.at_row ∙ sym slot)

pub returns-clause-runs : goal.returns-clause-runs
returns-clause-runs g c b i j =
    let e = there g (goal.at.returns-clause-runs g c).In-Some in
    ap (λ a. cursor_at c.self.inside.runs (number_at (entries a b) i) j) c.set.ensures.chains
    ∙ ap (λ m. cursor_at c.self.inside.runs m j) (numbers_kept _ _ _ _ _ e.0 _ c.self.invariant e.1 (ap (λ x. x.runs) (sym e.2)) b i)
    ∙ ap (λ w. run_cursor w b i j) c.self.view_is

pub returns-clause-size : goal.returns-clause-size
returns-clause-size g c = has_room _ _ _ _ (returns-clause-rows g c) (ap limit_of c.self.view_is)
