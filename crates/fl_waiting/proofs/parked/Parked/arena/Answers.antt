use Rattle.fl_waiting.proofs.parked.Parked.arena.Goals as goal

pub returns-clause-requests : goal.returns-clause-requests
returns-clause-requests c = c.self.view_is

pub returns-clause-linked : goal.returns-clause-linked
returns-clause-linked c = c.keeps_links.ensures
