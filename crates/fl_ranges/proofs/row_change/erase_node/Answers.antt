use Rattle.std.proofs.Common.{◌≡◌, ◌≢◌, ◌+◌, ◌-◌, ◌<◌, List, ◌∷◌, None, length, take, drop, slice_get, sym, ap, subst}
use Rattle.std.proofs.Common.{◌∙◌, arith}
use Rattle.std.specs.List.{AllByRecursion}
use Rattle.std.specs.Option.{option_copied}
use Rattle.fl_arena.specs.declared.cursors.Cursor.{Cursor}
use Rattle.fl_spans.specs.Rows.{chain_count, rows, keys}
use Rattle.fl_marks.specs.declared.lock.Key.{Key}
use Rattle.fl_ranges.specs.Placing.{home}
use Rattle.fl_ranges.specs.Inside.LockRows.{LockRow, AreInOrder}
use Rattle.fl_ranges.proofs.RowPlaces.{row_end, in_order_drop}
use Rattle.fl_ranges.proofs.RowNodes.{IsOff, here, gone_table, gone_marks, gone_rows, gone_long, off_still, off_more}
use Rattle.fl_ranges.proofs.RowNodes.{off_behind, off_all, off_marks}
use Rattle.fl_ranges.proofs.RowNodes.{within_here}
use Rattle.fl_ranges.proofs.row_change.erase_node.Goals as goal

pub loop-key-smaller-then-key-node-2 : goal.loop-key-smaller-then-key-node-2
loop-key-smaller-then-key-node-2 c =
    let inv = c.loop-key.invariant in
    let h = here c.loop-key.table inv.table c.args.node c.loop-key.row inv.row inv.chain c.in-Some.key.now (sym c.in-Some.ensures.key) in
    let inside = within_here (rows c.loop-key.table (home (chain_count c.args.table.now) c.args.node)) c.loop-key.row.index h.row
    (drop (c.loop-key.row.index + 1) (rows c.loop-key.table (home (chain_count c.args.table.now) c.args.node))) h.rest in
    let long = gone_long c.loop-key.table inv.table c.args.node c.loop-key.row inv.row inv.chain c.in-Some.key.now (sym c.in-Some.ensures.key)
    c.if-key-node-2.true c.remove_row.new.self c.remove_row.ensures.rows c.remove_row.ensures.size in
    let index = ap (λ (k : Cursor). k.index) c.remove_row.ensures.cursor in
    let less : length (rows c.remove_row.new.self (home (chain_count c.args.table.now) c.args.node)) - c.remove_row.new.row.index
    < length (rows c.loop-key.table (home (chain_count c.args.table.now) c.args.node)) - c.loop-key.row.index = omega (arith, inside, long, index) in
    less

pub loop-key-preserved-then-key-node-2 : goal.loop-key-preserved-then-key-node-2
loop-key-preserved-then-key-node-2 c =
    let inv = c.loop-key.invariant in
    let index = ap (λ (k : Cursor). k.index) c.remove_row.ensures.cursor in
    record {
      table = gone_table c.loop-key.table inv.table c.args.node c.loop-key.row inv.row inv.chain c.in-Some.key.now (sym c.in-Some.ensures.key)
          c.if-key-node-2.true c.remove_row.new.self c.remove_row.ensures.rows c.remove_row.ensures.size;
      room = c.remove_row.ensures.size.limit ∙ inv.room;
      row = c.remove_row.ensures.row;
      chain = ap (λ (k : Cursor). k.chain) c.remove_row.ensures.cursor ∙ inv.chain;
      marks = gone_marks c.loop-key.table inv.table c.args.node c.loop-key.row inv.row inv.chain c.in-Some.key.now (sym c.in-Some.ensures.key)
          c.if-key-node-2.true c.remove_row.new.self c.remove_row.ensures.rows c.remove_row.ensures.size ∙ inv.marks;
      off = subst (λ n. AllByRecursion (IsOff c.args.node) (take n (rows c.remove_row.new.self (home (chain_count c.args.table.now) c.args.node)))) (sym index)
          (subst (λ (rs : List LockRow). AllByRecursion (IsOff c.args.node) (take c.loop-key.row.index rs))
          (sym (gone_rows c.loop-key.table inv.table c.args.node c.loop-key.row inv.row inv.chain c.in-Some.key.now (sym c.in-Some.ensures.key)
          c.if-key-node-2.true c.remove_row.new.self c.remove_row.ensures.rows c.remove_row.ensures.size))
          (off_still c.args.node (rows c.loop-key.table (home (chain_count c.args.table.now) c.args.node)) c.loop-key.row.index inv.off));
    }

pub loop-key-preserved : goal.loop-key-preserved
loop-key-preserved c =
    let inv = c.loop-key.invariant in
    let h = here c.loop-key.table inv.table c.args.node c.loop-key.row inv.row inv.chain c.in-Some.key.now (sym c.in-Some.ensures.key) in
    let index = ap (λ (k : Cursor). k.index) c.next_row.ensures.next in
    let no = c.if-key-node-2.false in
    let own = ap (λ (k : Key). k.node) h.key_is in
    let differ : h.row.key.node ≢ c.args.node = λ same. omega (arith, no, own, same) in
    record {
      table = inv.table;
      room = inv.room;
      row = c.next_row.ensures.row;
      chain = ap (λ (k : Cursor). k.chain) c.next_row.ensures.next ∙ inv.chain;
      marks = inv.marks;
      off = subst (λ n. AllByRecursion (IsOff c.args.node) (take n (rows c.loop-key.table (home (chain_count c.args.table.now) c.args.node)))) (sym index)
          (off_more c.args.node (rows c.loop-key.table (home (chain_count c.args.table.now) c.args.node)) c.loop-key.row.index h.row
          (drop (c.loop-key.row.index + 1) (rows c.loop-key.table (home (chain_count c.args.table.now) c.args.node))) h.rest differ inv.off);
    }

pub returns-then-key-node-clause-erased : goal.returns-then-key-node-clause-erased
returns-then-key-node-clause-erased c =
    let inv = c.loop-key.invariant in
    let rs = rows c.loop-key.table (home (chain_count c.args.table.now) c.args.node) in
    let h = here c.loop-key.table inv.table c.args.node c.loop-key.row inv.row inv.chain c.in-Some.key.now (sym c.in-Some.ensures.key) in
    let order : AreInOrder (h.row ∷ drop (c.loop-key.row.index + 1) rs) =
    subst AreInOrder h.rest (in_order_drop rs c.loop-key.row.index (inv.table.kept (home (chain_count c.args.table.now) c.args.node)).in_order) in
    let own = ap (λ (k : Key). k.node) h.key_is in
    let past = c.if-key-node.true in
    let behind = off_behind c.args.node h.row (drop (c.loop-key.row.index + 1) rs) order (omega (arith, own, past)) in
    off_marks c.loop-key.table inv.table c.args.node
    (off_all c.args.node rs c.loop-key.row.index inv.off (subst (AllByRecursion (IsOff c.args.node)) (sym h.rest) behind))
    ∙ inv.marks

pub returns-in_default-clause-erased : goal.returns-in_default-clause-erased
returns-in_default-clause-erased c =
    let inv = c.loop-key.invariant in
    let rs = rows c.loop-key.table (home (chain_count c.args.table.now) c.args.node) in
    let none : slice_get (keys rs) c.loop-key.row.index ≡ None =
    ap (λ n. slice_get (keys (rows c.loop-key.table n)) c.loop-key.row.index) (sym inv.chain) ∙ sym c.key.ensures.key ∙ ap option_copied c.in_default.is in
    off_marks c.loop-key.table inv.table c.args.node
    (off_all c.args.node rs c.loop-key.row.index inv.off (subst (AllByRecursion (IsOff c.args.node)) (sym (row_end rs c.loop-key.row.index none)) tt))
    ∙ inv.marks
