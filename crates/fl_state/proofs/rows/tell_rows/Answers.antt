use Rattle.std.proofs.Common.{◌≡◌, ◌∙◌, ◌++◌, List, sym, ap, Some, None, map, slice_get}
use Rattle.std.specs.Option.{option_copied}
use Rattle.fl_arena.specs.declared.cursors.Cursor.{Cursor}
use Rattle.fl_marks.specs.declared.lock.Key.{Key}
use Rattle.fl_marks.specs.declared.lock.Mark.{Mark}
use Rattle.fl_order.specs.declared.state_part.StatePart.{StatePart}
use Rattle.fl_ranges.specs.Layout.{runs_of}
use Rattle.fl_spans.specs.Rows.{Row, rows, keys, runs_at}
use Rattle.fl_spans.specs.declared.span.Span.{Span}
use Rattle.fl_state.specs.Inside.Saying.{lock_part}
use Rattle.fl_state.proofs.Walks.{some_more, some_done, map_flat, row_at, row_end}
use Rattle.fl_state.proofs.rows.tell_rows.Goals as goal

abbrev said : Row Key (Span Mark) → List StatePart
said r = map lock_part (runs_of r)

pub loop-key-preserved : goal.loop-key-preserved
loop-key-preserved g c =
    let chain = c.args.chain in
    let inv = c.loop-key.invariant in
    let i = c.loop-key.row.index in
    let key = c.in-Some.key.now in
    let table = c.args.locks.now in
    let rs = rows table chain in
    let on = c.next_row.ensures.next in
    let index = ap (λ (k : Cursor). k.index) on in
    let before = g.S.StateSink.told c.loop-key.sink in
    let found : slice_get (keys rs) i ≡ Some key = ap (λ n. slice_get (keys (rows table n)) i) (sym inv.chain) ∙ sym c.in-Some.ensures.key in
    record {
      row = c.next_row.ensures.row;
      chain = ap (λ (k : Cursor). k.chain) on ∙ inv.chain;
      kept = c.tell_row.ensures.kept ∙ inv.kept;
      rest = some_more said rs i c.next_row.new.row.index (record { key = key; runs = runs_at rs i }) before _ (row_at rs i key found) index
          (c.tell_row.ensures.told c.if-not-tell_row.false ∙ ap (λ n. before ++ said (record { key = key; runs = runs_at (rows table n) i })) inv.chain)
          ∙ inv.rest;
    }

pub returns-clause-told : goal.returns-clause-told
returns-clause-told g c _ =
    let inv = c.loop-key.invariant in
    let i = c.loop-key.row.index in
    let table = c.args.locks.now in
    let rs = rows table c.args.chain in
    let none : slice_get (keys rs) i ≡ None =
    ap (λ n. slice_get (keys (rows table n)) i) (sym inv.chain) ∙ sym c.key.ensures.key ∙ ap option_copied c.in_default.is in
    some_done said rs i _ _ (row_end rs i none) inv.rest ∙ ap (λ l. g.S.StateSink.told c.args.sink.now ++ l) (sym (map_flat lock_part runs_of rs))
