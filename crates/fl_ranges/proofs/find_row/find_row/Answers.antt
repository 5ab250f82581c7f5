use Rattle.std.proofs.Common.{◌≡◌, false, ◌∷◌, Some, None, drop, slice_get, sym, ap, subst, ◌∙◌}
use Rattle.std.specs.Option.{option_copied}
use Rattle.std.specs.Ordering.{eq_by_cmp}
use Rattle.fl_arena.specs.declared.cursors.Cursor.{Cursor}
use Rattle.fl_spans.specs.Rows.{chain_count, rows, keys, row_cursor}
use Rattle.fl_marks.specs.declared.lock.Key.{Key}
use Rattle.fl_marks.specs.Marking.{key_cmp}
use Rattle.fl_ranges.specs.Placing.{home}
use Rattle.fl_ranges.specs.Inside.LockRows.{key_precedes, AreInOrder, row_index, has_row}
use Rattle.fl_ranges.proofs.RowPlaces.{IsHere, row_here, row_end, index_end, has_here}
use Rattle.fl_ranges.proofs.find_row.find_row.Goals as goal

pub returns-clause-at : goal.returns-clause-at
returns-clause-at c =
    let key = c.args.key.now in
    let chain = home (chain_count c.args.table.now) key.node in
    let rs = rows c.args.table.now chain in
    let at = c.first_row-first.ensures.first ∙ ap (λ n. row_cursor c.args.table.now n 0) c.home.ensures.home in
    let found : slice_get (keys rs) 0 ≡ Some c.in-Some.here.now =
    ap (λ (k : Cursor). slice_get (keys (rows c.args.table.now k.chain)) k.index) (sym at) ∙ sym c.in-Some.ensures.key in
    let h : IsHere rs 0 c.in-Some.here.now = row_here rs 0 c.in-Some.here.now found in
    let before : key_precedes h.row.key key ≡ false =
    ap (λ (k : Key). key_precedes k key) h.key_is ∙ sym c.key_precedes.ensures ∙ c.if-key_precedes.false in
    at ∙ ap (row_cursor c.args.table.now chain) (sym (ap (row_index key) h.rest ∙ index_end key h.row (drop 1 rs) before))

pub returns-clause-own : goal.returns-clause-own
returns-clause-own c =
    let key = c.args.key.now in
    let chain = home (chain_count c.args.table.now) key.node in
    let rs = rows c.args.table.now chain in
    let at = c.first_row-first.ensures.first ∙ ap (λ n. row_cursor c.args.table.now n 0) c.home.ensures.home in
    let found : slice_get (keys rs) 0 ≡ Some c.in-Some.here.now =
    ap (λ (k : Cursor). slice_get (keys (rows c.args.table.now k.chain)) k.index) (sym at) ∙ sym c.in-Some.ensures.key in
    let h : IsHere rs 0 c.in-Some.here.now = row_here rs 0 c.in-Some.here.now found in
    let before : key_precedes h.row.key key ≡ false =
    ap (λ (k : Key). key_precedes k key) h.key_is ∙ sym c.key_precedes.ensures ∙ c.if-key_precedes.false in
    let order : AreInOrder (h.row ∷ drop 1 rs) = subst AreInOrder h.rest (c.requires.table.kept chain).in_order in
    c.is_same.ensures ∙ ap (λ (k : Key). eq_by_cmp key_cmp k key) (sym h.key_is)
    ∙ sym (ap (has_row key) h.rest ∙ has_here key h.row (drop 1 rs) order before)

pub returns-in_default-clause-at : goal.returns-in_default-clause-at
returns-in_default-clause-at c =
    let key = c.args.key.now in
    let chain = home (chain_count c.args.table.now) key.node in
    let rs = rows c.args.table.now chain in
    let at = c.first_row-first.ensures.first ∙ ap (λ n. row_cursor c.args.table.now n 0) c.home.ensures.home in
    let none : slice_get (keys rs) 0 ≡ None =
    ap (λ (k : Cursor). slice_get (keys (rows c.args.table.now k.chain)) k.index) (sym at) ∙ sym c.key.ensures.key ∙ ap option_copied c.in_default.is in
    at ∙ ap (row_cursor c.args.table.now chain) (sym (ap (row_index key) (row_end rs 0 none)))

pub returns-in_default-clause-own : goal.returns-in_default-clause-own
returns-in_default-clause-own c =
    let key = c.args.key.now in
    let chain = home (chain_count c.args.table.now) key.node in
    let rs = rows c.args.table.now chain in
    let at = c.first_row-first.ensures.first ∙ ap (λ n. row_cursor c.args.table.now n 0) c.home.ensures.home in
    let none : slice_get (keys rs) 0 ≡ None =
    ap (λ (k : Cursor). slice_get (keys (rows c.args.table.now k.chain)) k.index) (sym at) ∙ sym c.key.ensures.key ∙ ap option_copied c.in_default.is in
    sym (ap (has_row key) (row_end rs 0 none))
