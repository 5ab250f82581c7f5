use Rattle.std.proofs.Common.{ap, arith}
use Rattle.fl_transport.proofs.InboxLemmas.{drops_first, takes_first}
use Rattle.fl_transport.proofs.inbox.Inbox.skip.Goals as goal

pub returns-clause-taken : goal.returns-clause-taken
returns-clause-taken c message step whole =
    takes_first c.self.inside.buffer.items c.args.self.now.rest _ message c.self.inside.from c.self.inside.filled c.args.len
    c.self.invariant.1 (omega arith) (ap (λ inbox. inbox.rest) c.self.view_is) c.requires.whole.1 c.requires.whole.2 step
    whole

pub returns-clause-rest : goal.returns-clause-rest
returns-clause-rest c =
    drops_first c.self.inside.buffer.items c.args.self.now.rest _ c.self.inside.from c.self.inside.filled c.args.len
    c.self.invariant.1 (omega arith) (ap (λ inbox. inbox.rest) c.self.view_is) c.requires.whole.1 c.requires.whole.2
