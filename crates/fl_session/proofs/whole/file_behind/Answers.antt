use Rattle.std.proofs.Common.{◌+◌, ◌∷◌, ap, sym, ◌∙◌}
use Rattle.fl_session.proofs.ListLemmas.{first_file, no_file}
use Rattle.fl_session.specs.Whole.{entries_behind}
use Rattle.fl_wire.specs.Listing.{dirent_of}
use Rattle.fl_session.proofs.whole.file_behind.Goals as goal

pub returns-in-None-clause-none : goal.returns-in-None-clause-none
returns-in-None-clause-none c = λ none. no_file c.args.directory.now c.args.cookie c.requires (c.next_linked.ensures.none c.in-None.is)

pub returns-in-Some-clause-some : goal.returns-in-Some-clause-some
returns-in-Some-clause-some c =
    let d = c.args.directory.now in
    let number = c.in-Some.number in
    let node = c.in-Some.node.now in
    first_file d c.args.cookie number node c.requires c.in-Some.ensures.rest
    ∙ ap (λ name. dirent_of number (number + 1) node.mode name ∷ entries_behind d 1 (number + 1)) (sym c.as_bytes.ensures.bytes)
