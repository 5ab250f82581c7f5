use Rattle.std.proofs.Common.{sym, ◌∙◌}
use Rattle.fl_ranges_tests.proofs.OneRowLemmas.{struck_row, first_row}
use Rattle.fl_ranges_tests.proofs.tests.spans.set.Goals as goal

pub returns-then-is_some : goal.returns-then-is_some
returns-then-is_some c =
    let told = c.stroke.ensures in
    struck_row c.stroke.result c.args.rows.now c.stroke.new.rows c.first_row-row.result _ c.requires.one_row c.first_row-row.ensures.first
    told.size told.rows told.err told.spans

pub returns-in-Some : goal.returns-in-Some
returns-in-Some c =
    let told = c.insert_row.ensures in
    let no_key = sym c.is_some.ensures ∙ c.if-is_some.false in
    first_row c.insert_row.result c.args.rows.now c.insert_row.new.self c.first_row-row.result c.key.result _ _ c.requires.one_row
    c.first_row-row.ensures.first c.key.ensures.key no_key told.size told.rows told.err
    (record { ordered = c.requires.ordered; bounded = c.requires.in_range })
