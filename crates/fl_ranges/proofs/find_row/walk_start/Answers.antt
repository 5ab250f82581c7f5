use Rattle.std.proofs.Common.{◌≡◌, Some, slice_get, sym, ap, ◌∙◌}
use Rattle.fl_arena.specs.declared.cursors.Cursor.{Cursor}
use Rattle.fl_spans.specs.Rows.{chain_count, rows, keys}
use Rattle.fl_ranges.specs.Placing.{home}
use Rattle.fl_ranges.proofs.RowPlaces.{skipped}
use Rattle.fl_ranges.proofs.find_row.walk_start.Goals as goal

pub returns-then-not-key_precedes-clause-index : goal.returns-then-not-key_precedes-clause-index
returns-then-not-key_precedes-clause-index c =
    let key = c.args.key.now in
    let rs = rows c.args.table.now (home (chain_count c.args.table.now) key.node) in
    let chain = ap (λ (k : Cursor). k.chain) c.last_row-last.ensures.last ∙ c.home-chain.ensures.home in
    let found : slice_get (keys rs) c.last_row-last.result.index ≡ Some c.in-Some.here.now =
    ap (λ n. slice_get (keys (rows c.args.table.now n)) c.last_row-last.result.index) (sym chain) ∙ sym c.in-Some.ensures.key in
    (skipped key rs c.last_row-last.result.index c.in-Some.here.now (c.requires.table.kept (home (chain_count c.args.table.now) key.node)).in_order found
    (sym c.key_precedes.ensures ∙ c.if-not-key_precedes.true)).index

pub returns-then-not-key_precedes-clause-own : goal.returns-then-not-key_precedes-clause-own
returns-then-not-key_precedes-clause-own c =
    let key = c.args.key.now in
    let rs = rows c.args.table.now (home (chain_count c.args.table.now) key.node) in
    let chain = ap (λ (k : Cursor). k.chain) c.last_row-last.ensures.last ∙ c.home-chain.ensures.home in
    let found : slice_get (keys rs) c.last_row-last.result.index ≡ Some c.in-Some.here.now =
    ap (λ n. slice_get (keys (rows c.args.table.now n)) c.last_row-last.result.index) (sym chain) ∙ sym c.in-Some.ensures.key in
    (skipped key rs c.last_row-last.result.index c.in-Some.here.now (c.requires.table.kept (home (chain_count c.args.table.now) key.node)).in_order found
    (sym c.key_precedes.ensures ∙ c.if-not-key_precedes.true)).own
