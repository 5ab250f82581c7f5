use Rattle.std.proofs.Common.{◌⊎◌, subst}
use Rattle.lockd_faults.specs.Ending.{Ending}
use Rattle.lockd_resume.specs.Behind.{ServesBehind, ServesNobodyBehind}
use Rattle.lockd_resume.proofs.resume_file.resume_on.Goals as goal

pub returns-in-Ok-ready_under-clause-over : goal.returns-in-Ok-ready_under-clause-over
returns-in-Ok-ready_under-clause-over g c =
    let it : Ending = record {
      status = c.serve_ready.result;
      told = g.F.Write.contents c.args.faults.now;
      told_now = g.F.Write.contents c.serve_ready.new.faults;
    } in
    subst (λ rules. ServesNobodyBehind it ⊎ ServesBehind rules it) c.in-Ok-ready_under.ensures.rules c.serve_ready.ensures.over
