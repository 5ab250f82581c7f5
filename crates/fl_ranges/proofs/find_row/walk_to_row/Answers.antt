use Rattle.std.proofs.Common.{◌≡◌, ◌+◌, false, drop, None, slice_get, ◌∷◌, sym, ap, subst, ◌∙◌, arith}
use Rattle.std.specs.Option.{option_copied}
use Rattle.std.specs.Ordering.{eq_by_cmp}
use Rattle.fl_arena.specs.declared.cursors.Cursor.{Cursor}
use Rattle.fl_spans.specs.Rows.{chain_count, rows, keys, row_cursor}
use Rattle.fl_marks.specs.declared.lock.Key.{Key}
use Rattle.fl_marks.specs.Marking.{key_cmp}
use Rattle.fl_ranges.specs.Placing.{home}
use Rattle.fl_ranges.specs.Inside.LockRows.{key_precedes, AreInOrder, row_index, has_row}
use Rattle.fl_ranges.proofs.RowPlaces.{IsHere, row_here, row_end, in_order_drop, index_more, index_end, has_more}
use Rattle.fl_ranges.proofs.RowPlaces.{has_here}
use Rattle.fl_ranges.proofs.find_row.walk_to_row.Goals as goal

pub returns-then-not-key_precedes-clause-at : goal.returns-then-not-key_precedes-clause-at
returns-then-not-key_precedes-clause-at c =
    let inv = c.loop-here.invariant in
    let j = c.loop-here.row.index in
    let key = c.args.key.now in
    let rs = rows c.args.table.now (home (chain_count c.args.table.now) key.node) in
    let h : IsHere rs j c.in-Some.here.now =
    row_here rs j c.in-Some.here.now (ap (λ n. slice_get (keys (rows c.args.table.now n)) j) (sym inv.chain) ∙ sym c.in-Some.ensures.key) in
    let before : key_precedes h.row.key key ≡ false =
    ap (λ (k : Key). key_precedes k key) h.key_is ∙ sym c.key_precedes.ensures ∙ c.if-not-key_precedes.true in
    let first = ap (row_index key) h.rest ∙ index_end key h.row (drop (j + 1) rs) before in
    let at : row_index key rs ≡ j = omega (arith, inv.index, first) in
    inv.row.at ∙ (λ i. row_cursor c.args.table.now (inv.chain i) (sym at i))

pub returns-then-not-key_precedes-clause-own : goal.returns-then-not-key_precedes-clause-own
returns-then-not-key_precedes-clause-own c =
    let inv = c.loop-here.invariant in
    let j = c.loop-here.row.index in
    let key = c.args.key.now in
    let rs = rows c.args.table.now (home (chain_count c.args.table.now) key.node) in
    let h : IsHere rs j c.in-Some.here.now =
    row_here rs j c.in-Some.here.now (ap (λ n. slice_get (keys (rows c.args.table.now n)) j) (sym inv.chain) ∙ sym c.in-Some.ensures.key) in
    let before : key_precedes h.row.key key ≡ false =
    ap (λ (k : Key). key_precedes k key) h.key_is ∙ sym c.key_precedes.ensures ∙ c.if-not-key_precedes.true in
    let order : AreInOrder (h.row ∷ drop (j + 1) rs) =
    subst AreInOrder h.rest (in_order_drop rs j (c.requires.table.kept (home (chain_count c.args.table.now) key.node)).in_order) in
    c.is_same.ensures ∙ ap (λ (k : Key). eq_by_cmp key_cmp k key) (sym h.key_is) ∙ sym (inv.own ∙ ap (has_row key) h.rest
    ∙ has_here key h.row (drop (j + 1) rs) order before)

pub loop-here-preserved : goal.loop-here-preserved
loop-here-preserved c =
    let inv = c.loop-here.invariant in
    let j = c.loop-here.row.index in
    let key = c.args.key.now in
    let rs = rows c.args.table.now (home (chain_count c.args.table.now) key.node) in
    let h : IsHere rs j c.in-Some.here.now =
    row_here rs j c.in-Some.here.now (ap (λ n. slice_get (keys (rows c.args.table.now n)) j) (sym inv.chain) ∙ sym c.in-Some.ensures.key) in
    let before = ap (λ (k : Key). key_precedes k key) h.key_is ∙ sym c.key_precedes.ensures ∙ c.if-not-key_precedes.false in
    let index = ap (λ (k : Cursor). k.index) c.next_row.ensures.next in
    let first = ap (row_index key) h.rest ∙ index_more key h.row (drop (j + 1) rs) before in
    record {
      row = c.next_row.ensures.row;
      chain = ap (λ (k : Cursor). k.chain) c.next_row.ensures.next ∙ inv.chain;
      index = rw index (omega (arith, inv.index, first));
      own = inv.own ∙ ap (has_row key) h.rest ∙ has_more key h.row (drop (j + 1) rs) before ∙ ap (λ n. has_row key (drop n rs)) (sym index);
    }

pub returns-clause-at : goal.returns-clause-at
returns-clause-at c =
    let inv = c.loop-here.invariant in
    let j = c.loop-here.row.index in
    let key = c.args.key.now in
    let rs = rows c.args.table.now (home (chain_count c.args.table.now) key.node) in
    let none : slice_get (keys rs) j ≡ None =
    ap (λ n. slice_get (keys (rows c.args.table.now n)) j) (sym inv.chain) ∙ sym c.key.ensures.key ∙ ap option_copied c.in_default.is in
    let last = ap (row_index key) (row_end rs j none) in
    let at : row_index key rs ≡ j = omega (arith, inv.index, last) in
    inv.row.at ∙ (λ i. row_cursor c.args.table.now (inv.chain i) (sym at i))

pub returns-clause-own : goal.returns-clause-own
returns-clause-own c =
    let inv = c.loop-here.invariant in
    let j = c.loop-here.row.index in
    let key = c.args.key.now in
    let rs = rows c.args.table.now (home (chain_count c.args.table.now) key.node) in
    let none : slice_get (keys rs) j ≡ None =
    ap (λ n. slice_get (keys (rows c.args.table.now n)) j) (sym inv.chain) ∙ sym c.key.ensures.key ∙ ap option_copied c.in_default.is in
    sym (inv.own ∙ ap (has_row key) (row_end rs j none))
