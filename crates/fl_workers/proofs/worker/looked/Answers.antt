use Rattle.std.proofs.Common.{refl, subst, sym}
use mathlib.Core.List.{IsPrefix}
use Rattle.fl_workers.proofs.Growing.{prefix_trans}
use Rattle.fl_workers.proofs.WorkedLemmas.{begins_as}
use Rattle.fl_workers.proofs.worker.looked.Goals.{in-Ok, in-Err+in_ok-result-in-Err}
use Rattle.fl_workers.proofs.worker.looked.Goals as goal

pub returns-then-not-only_reads-clause-front : goal.returns-then-not-only_reads-clause-front
returns-then-not-only_reads-clause-front g c = begins_as _ _ refl

pub returns-clause-front : goal.returns-clause-front
returns-clause-front g c =
    let front = g.C.Counter.front in
    let before = front c.args.seat.now in
    elim c.match-look.branch [
      | in-Ok w ↦ subst (λ seat. IsPrefix before (front seat)) (sym w.seat-is) c.look.ensures.front
      | in-Err+in_ok-result-in-Err w ↦
          subst (λ seat. IsPrefix before (front seat)) (sym w.seat-is)
          (prefix_trans before (front w.warm.new.seat) (front w.look-in-Err.new.seat) (subst (IsPrefix before) (sym w.warm.ensures.front) c.look.ensures.front)
          w.look-in-Err.ensures.front)
    ]
