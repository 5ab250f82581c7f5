use Rattle.lockd_resume.proofs.Stored.{fewer_there}
use Rattle.lockd_resume.proofs.behind.finish.Goals as goal

pub returns-clause-there : goal.returns-clause-there
returns-clause-there g c = fewer_there g.T.Write.contents _ _ _ c.finish-whole.ensures.front c.into_writer.ensures.there
