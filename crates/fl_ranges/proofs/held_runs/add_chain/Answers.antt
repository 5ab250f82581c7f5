use Rattle.std.proofs.Common.{◌≡◌, ◌∙◌, ◌++◌, sym, ap, Some, None, slice_get}
use Rattle.std.specs.Option.{option_copied}
use Rattle.fl_arena.specs.declared.cursors.Cursor.{Cursor}
use Rattle.fl_spans.specs.Rows.{rows, keys, runs_at}
use Rattle.fl_ranges.specs.Layout.{runs_of}
use Rattle.fl_ranges.proofs.Listing.{row_at, row_more, chain_done}
use Rattle.fl_ranges.proofs.RowPlaces.{row_end}
use Rattle.fl_ranges.proofs.held_runs.add_chain.Goals as goal

pub loop-key-preserved : goal.loop-key-preserved
loop-key-preserved c =
    let chain = c.args.chain in
    let inv = c.loop-key.invariant in
    let i = c.loop-key.row.index in
    let key = c.in-Some.key.now in
    let rs = rows c.args.table.now chain in
    let on = c.next_row.ensures.next in
    let index = ap (λ (k : Cursor). k.index) on in
    let found : slice_get (keys rs) i ≡ Some key = ap (λ n. slice_get (keys (rows c.args.table.now n)) i) (sym inv.chain) ∙ sym c.in-Some.ensures.key in
    record {
      row = c.next_row.ensures.row;
      chain = ap (λ (k : Cursor). k.chain) on ∙ inv.chain;
      rest = row_more runs_of rs i c.next_row.new.row.index (record { key = key; runs = runs_at rs i }) c.loop-key.runs.items _ (row_at rs i key found) index
          (c.in_ok-add_row.ensures ∙ ap (λ n. c.loop-key.runs.items ++ runs_of (record { key = key; runs = runs_at (rows c.args.table.now n) i })) inv.chain)
          ∙ inv.rest;
    }

pub returns : goal.returns
returns c =
    let inv = c.loop-key.invariant in
    let i = c.loop-key.row.index in
    let rs = rows c.args.table.now c.args.chain in
    let none : slice_get (keys rs) i ≡ None =
    ap (λ n. slice_get (keys (rows c.args.table.now n)) i) (sym inv.chain) ∙ sym c.key.ensures.key ∙ ap option_copied c.in_default.is in
    chain_done runs_of rs i _ _ (row_end rs i none) inv.rest
