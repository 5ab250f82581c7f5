use Rattle.std.proofs.Common.{inr, refl}
use Rattle.lockd_resume.proofs.BehindLemmas.{serves}
use Rattle.lockd_resume.proofs.resume_file.serve_ready.Goals as goal

pub returns-clause-over : goal.returns-clause-over
returns-clause-over g c =
    let run = c.resume_stream-status.result.1 in
    let over = c.resume_stream-status.ensures.over in
    inr (serves _ _ _ _ _ _ _ _ run _ refl over (c.end_at-status.ensures run.fault _ over.ends))
