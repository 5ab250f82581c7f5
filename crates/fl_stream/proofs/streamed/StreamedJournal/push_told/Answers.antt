use Rattle.fl_stream.proofs.Prefixes.{stored_behind}
use Rattle.fl_stream.proofs.streamed.StreamedJournal.push_told.Goals as goal

pub returns-clause-stored : goal.returns-clause-stored
returns-clause-stored g c =
    stored_behind c.args.self.now c.push.new.self _ c.push.ensures.manner c.push.ensures.lines c.push.ensures.noted
