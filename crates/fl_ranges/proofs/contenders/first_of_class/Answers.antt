use Rattle.std.proofs.Common.{◌≡◌, Some, None, slice_get, sym, ap, ◌∙◌}
use Rattle.std.specs.Option.{option_copied}
use Rattle.fl_arena.specs.declared.cursors.Cursor.{Cursor}
use Rattle.fl_spans.specs.Rows.{chain_count, rows, keys}
use Rattle.fl_ranges.specs.Placing.{home}
use Rattle.fl_ranges.proofs.ContenderRows.{past_earlier, at_other, at_none}
use Rattle.fl_ranges.proofs.contenders.first_of_class.Goals as goal

pub loop-other-preserved : goal.loop-other-preserved
loop-other-preserved c =
    let v = c.args.table.now in
    let key = c.args.key.now in
    let inv = c.loop-other.invariant in
    let i = c.loop-other.row.index in
    let on = c.next_row.ensures.next in
    let found : slice_get (keys (rows v (home (chain_count v) key.node))) i ≡ Some c.in-Some.other.now =
    ap (λ d. slice_get (keys (rows v d)) i) (sym inv.chain) ∙ sym c.in-Some.ensures.key in
    record {
      row = c.next_row.ensures.row;
      chain = ap (λ (k : Cursor). k.chain) on ∙ inv.chain;
      rest = rw (ap (λ (k : Cursor). k.index) on) (past_earlier key (rows v (home (chain_count v) key.node)) i c.in-Some.other.now found
          (sym c.is_earlier.ensures ∙ c.if-not-is_earlier.false) ∙ inv.rest);
    }

pub returns-then-not-is_earlier-clause-first : goal.returns-then-not-is_earlier-clause-first
returns-then-not-is_earlier-clause-first c =
    let v = c.args.table.now in
    let key = c.args.key.now in
    let inv = c.loop-other.invariant in
    let i = c.loop-other.row.index in
    let found : slice_get (keys (rows v (home (chain_count v) key.node))) i ≡ Some c.in-Some.other.now =
    ap (λ d. slice_get (keys (rows v d)) i) (sym inv.chain) ∙ sym c.in-Some.ensures.key in
    sym (at_other key (rows v (home (chain_count v) key.node)) i c.in-Some.other.now found (sym c.is_earlier.ensures ∙ c.if-not-is_earlier.true)) ∙ inv.rest

pub returns-in_default-clause-first : goal.returns-in_default-clause-first
returns-in_default-clause-first c =
    let v = c.args.table.now in
    let key = c.args.key.now in
    let inv = c.loop-other.invariant in
    let i = c.loop-other.row.index in
    let none : slice_get (keys (rows v (home (chain_count v) key.node))) i ≡ None =
    ap (λ d. slice_get (keys (rows v d)) i) (sym inv.chain) ∙ sym c.key.ensures.key ∙ ap option_copied c.in_default.is in
    sym (at_none key (rows v (home (chain_count v) key.node)) i none) ∙ inv.rest
