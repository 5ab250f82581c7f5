use Rattle.std.proofs.Common.{◌≡◌, map, take}
use Rattle.fl_transport.specs.Collecting.{Collects, outgoing}
use Rattle.fl_transport.specs.Outbox.{writer_of}
use Rattle.fl_wire.specs.Spell.{spelling_of}
use Rattle.fl_session.proofs.replying.Replying.keep_all.Given as goal

-- the replies so far are collected, and none is written
abbrev pub invariant-loop-told : goal.invariant-loop-told
invariant-loop-told g l = record {
  same : l.self.batch.out.writer.ghost_name ≡ l.initial.self.batch.out.writer.ghost_name;
  held : g.W.Write.contents (writer_of l.self.batch.out).now ≡ g.W.Write.contents (writer_of l.initial.self.batch.out).now;
  collected : Collects (outgoing g.W.Write.contents l.initial.self.batch) (outgoing g.W.Write.contents l.self.batch)
      (map spelling_of (take l.told-index l.tolds));
}
