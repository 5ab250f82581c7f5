use Rattle.lockd_faults.proofs.WriteLemmas.{written_kept, written_more}
use Rattle.lockd_faults.proofs.streams.begin.Goals.{in-Ok, in-Err}
use Rattle.lockd_faults.proofs.streams.begin.Goals as goal

pub loop-preserved : goal.loop-preserved
loop-preserved g c = elim c.match-write.branch [
  | in-Ok w ↦
      rw w.rest-is
      (written_more c.args.text.now c.loop.rest.now w.in-Ok.n _ _ _ c.loop.invariant w.in-Ok.ensures.bytes)
  | in-Err w ↦
      rw w.rest-is
      (written_kept c.args.text.now c.loop.rest.now _ _ _ c.loop.invariant w.in-Err.ensures.bytes)
]
