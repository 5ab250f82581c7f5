use Rattle.fl_dir.proofs.Chained.{slot_there, taken_out}
use Rattle.fl_dir.proofs.chain.take_out.Goals as goal

pub remove-requires-clause-at_item : goal.remove-requires-clause-at_item
remove-requires-clause-at_item g c =
    slot_there c.args.entries.now c.seek-cursor.result c.args.chain c.args.number c.seek-cursor.ensures.at c.seek-cursor.ensures.found c.requires.found

pub returns : goal.returns
returns g c =
    taken_out c.args.entries.now c.remove.new.self c.seek-cursor.result c.args.chain c.args.number c.seek-cursor.ensures.at c.seek-cursor.ensures.found
    c.requires.found c.requires.sorted c.remove.ensures.size c.remove.ensures.items c.remove.ensures.others
