use Rattle.std.proofs.Common.{◌≡◌, ◌+◌, ◌++◌, List, ℕ, length, ap, ◌∙◌, arith, length-append}
use Rattle.fl_session.proofs.ListLemmas.{header_long}
use Rattle.fl_session.specs.Whole.{entries_behind}
use Rattle.fl_wire.specs.Listing.{Dirent, fitting, list_spelling}
use Rattle.fl_session.proofs.whole.list.Goals as goal

pub append_entries-requires-clause-header : goal.append_entries-requires-clause-header
append_entries-requires-clause-header c = ap length c.begin_list.ensures ∙ header_long c.args.unique

pub end_list-requires-clause-header : goal.end_list-requires-clause-header
end_list-requires-clause-header c =
    let body : List ℕ = fitting c.min.result (entries_behind c.args.directory.now c.args.node c.args.cookie) in
    let begun = ap length c.begin_list.ensures ∙ header_long c.args.unique in
    let long = ap length c.append_entries.ensures.items ∙ length-append c.begin_list.new.self body in
    omega (arith, begun, long)

pub returns-clause-bytes : goal.returns-clause-bytes
returns-clause-bytes c =
    let entries : List Dirent = entries_behind c.args.directory.now c.args.node c.args.cookie in
    let body : List ℕ = fitting c.min.result entries in
    c.end_list.ensures.ends c.args.unique body
    (c.append_entries.ensures.items ∙ ap (λ front. front ++ body) c.begin_list.ensures)
    ∙ ap (λ most. list_spelling c.args.unique (fitting most entries)) c.min.ensures
