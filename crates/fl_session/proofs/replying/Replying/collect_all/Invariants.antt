use Rattle.std.proofs.Common.{◌≡◌, map, take}
use Rattle.fl_session.specs.Inside.UnderWay.{WritesBehind}
use Rattle.fl_transport.specs.Collecting.{Collects, outgoing}
use Rattle.fl_wire.specs.Spell.{spelling_of}
use Rattle.fl_session.proofs.replying.Replying.collect_all.Given as goal

-- the replies so far are collected, each behind all lines
abbrev pub invariant-loop-told : goal.invariant-loop-told
invariant-loop-told g l = record {
  same : l.self.batch.out.writer.ghost_name ≡ l.initial.self.batch.out.writer.ghost_name;
  desk : (l.desk.lines ≡ l.initial.desk.lines) × (l.desk.present ≡ l.initial.desk.present);
  collected : Collects (outgoing g.W.Write.contents l.initial.self.batch) (outgoing g.W.Write.contents l.self.batch)
      (map spelling_of (take l.told-index l.tolds));
  behind : WritesBehind l.initial.desk l.desk (outgoing g.W.Write.contents l.initial.self.batch)
      (outgoing g.W.Write.contents l.self.batch);
}
