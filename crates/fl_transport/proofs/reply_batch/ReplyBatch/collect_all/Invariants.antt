use Rattle.std.proofs.Common.{◌≡◌, map, take}
use Rattle.fl_wire.specs.Spell.{spelling_of}
use Rattle.fl_transport.specs.Collecting.{Collects, outgoing}
use Rattle.fl_transport.proofs.reply_batch.ReplyBatch.collect_all.Given as goal

-- the replies so far are collected
abbrev pub invariant-loop-told : goal.invariant-loop-told
invariant-loop-told g l = (l.self.out.writer.ghost_name ≡ l.initial.self.out.writer.ghost_name)
    × Collects (outgoing g.W.Write.contents l.initial.self) (outgoing g.W.Write.contents l.self)
    (map spelling_of (take l.told-index l.tolds))
