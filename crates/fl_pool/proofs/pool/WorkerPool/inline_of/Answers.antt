use Rattle.std.proofs.Common.{subst}
use Rattle.std.specs.Prelude.{IfSome}
use Rattle.fl_pool.specs.Running.{IsReady}
use Rattle.fl_pool.specs.Working.{reading}
use Rattle.fl_pool.proofs.pool.WorkerPool.inline_of.Goals as goal

pub new-requires : goal.new-requires
new-requires g c =
    let read = reading g.C.Counter.worker g.C.Counter.count g.C.Counter.answered g.C.Counter.front g.C.Counter.stored in
    let ready = subst (λ w. IfSome w (IsReady read g.C.Counter.most_tolds c.args.self.now.intake)) c.in_ok-post.was c.requires in
    record { room = ready.room }

pub returns : goal.returns
returns g c = rw c.in_ok-post.was (
  c.new.ensures.standing,
  c.new.ensures.end,
  c.new.ensures.waiting,
  c.new.ensures.failures.0,
  c.new.ensures.failures.1,
)
