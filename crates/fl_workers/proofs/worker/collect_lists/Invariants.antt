use Rattle.std.proofs.Common.{take}
use Rattle.fl_workers.specs.Inside.Lists.{entries_for}
use Rattle.fl_workers.specs.Sent.{HasSent}
use Rattle.fl_workers.proofs.worker.collect_lists.Given as goal

-- the lists so far were given or lost
abbrev pub invariant-loop-place : goal.invariant-loop-place
invariant-loop-place g l =
    HasSent (entries_for l.fn.own.author (take l.place l.lists.lists)) l.fn.own l.own l.lost
