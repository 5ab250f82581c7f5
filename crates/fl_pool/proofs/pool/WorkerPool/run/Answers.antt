use Rattle.std.proofs.Common.{rules}
use denote.Param.Always.{Once-at_one}
use Rattle.fl_pool.proofs.pool.WorkerPool.run.Goals as goal

pub scoped-ran-requires : goal.scoped-ran-requires
scoped-ran-requires g c = Once-at_one _ _ (λ x.
    let asked = c.requires in (
      asked.can,
      (
        asked.ready,
        (
          asked.some,
          (
            search rules,
            search rules,
            search rules,
            search rules,
            search rules,
            search rules,
            search rules,
            search rules,
          ),
        ),
      ),
    ))
