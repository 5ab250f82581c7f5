use Rattle.fl_state.proofs.Tellings.{all_tell}
use Rattle.fl_state.proofs.telling.tell_state.Goals as goal

pub returns-clause-told : goal.returns-clause-told
returns-clause-told g c told lawful =
    let arenas = c.arenas-arenas in
    all_tell arenas.result c.args.core.now arenas.ensures.hold arenas.ensures.kept lawful (g.S.StateSink.told c.args.sink.now)
    (g.S.StateSink.told c.tell_all.new.sink) (g.S.StateSink.told c.tell_all-2.new.sink) (g.S.StateSink.told c.tell_locks.new.sink)
    (g.S.StateSink.told c.tell_chain.new.sink) (c.tell_all.ensures.told c.if-not-tell_all.false) (c.tell_all-2.ensures.told c.if-not-tell_all-2.false)
    (c.tell_locks.ensures.told c.if-not-tell_locks.false) (c.tell_chain.ensures.told told)
