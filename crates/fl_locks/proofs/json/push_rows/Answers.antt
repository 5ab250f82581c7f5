use Rattle.std.proofs.Common.{◌++◌, map, string_bytes, sym, ap, ◌∙◌}
use Rattle.std.specs.List.{join_with_byte}
use Rattle.fl_locks.specs.Json.{row_json}
use Rattle.fl_locks.proofs.Joins.{written}
use Rattle.fl_locks.proofs.json.push_rows.Goals as goal

pub returns : goal.returns
returns c =
    written row_json c.in-Some.first.now c.in-Some.others.now c.loop-row.row-index _ _ _ c.in_ok-push_row.ensures
    c.loop-row.invariant c.loop-row-test.false
    ∙ ap (λ rows. string_bytes c.args.text.now ++ join_with_byte 44 (map row_json rows)) (sym c.in-Some.ensures.cases.0)
