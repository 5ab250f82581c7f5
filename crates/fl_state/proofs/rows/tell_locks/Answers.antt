use Rattle.std.proofs.Common.{◌∙◌, ◌++◌, List, sym, ap, map, arith}
use Rattle.fl_marks.specs.declared.lock.Key.{Key}
use Rattle.fl_marks.specs.declared.lock.Mark.{Mark}
use Rattle.fl_order.specs.declared.state_part.StatePart.{StatePart}
use Rattle.fl_ranges.specs.Layout.{runs_in}
use Rattle.fl_spans.specs.Rows.{Row, row_lists}
use Rattle.fl_spans.specs.declared.span.Span.{Span}
use Rattle.fl_state.specs.Inside.Saying.{lock_part}
use Rattle.fl_state.proofs.Walks.{some_done, map_flat, drop_all}
use Rattle.fl_state.proofs.rows.tell_locks.Goals as goal

abbrev said : List (Row Key (Span Mark)) → List StatePart
said rs = map lock_part (runs_in rs)

pub returns-clause-told : goal.returns-clause-told
returns-clause-told g c _ =
    let lists = row_lists c.args.locks.now in
    let k = c.loop-chain.chain in
    some_done said lists k _ _ (drop_all lists k (omega (arith, c.loop-chain-test.false, c.chain_count-chain-end.ensures))) c.loop-chain.invariant.rest
    ∙ ap (λ l. g.S.StateSink.told c.args.sink.now ++ l) (sym (map_flat lock_part runs_in lists))
