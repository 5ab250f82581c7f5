use Rattle.std.proofs.Common.{◌≡◌, ◌-◌, ◌++◌, take, take_at, drop, length, ap, ◌∙◌}
use Rattle.fl_transport.proofs.InboxLemmas.{reads_more}
use Rattle.fl_transport.proofs.inbox.Inbox.fill.Goals as goal

pub returns-in-Ok-clause-read : goal.returns-in-Ok-clause-read
returns-in-Ok-clause-read g c =
    let new = c.read_behind-read.new.buffer in
    let old = c.self.inside.buffer in
    let same : take old.len (new ++ drop (length new) old.items) ≡ new =
    take_at new _ old.len (c.read_behind-read.auto.buffer ∙ c.deref_mut.ensures.len) in
    rw same (reads_more _ _ c.args.self.now.rest old.items c.deref_mut.result.now new c.self.inside.from
    (c.self.inside.filled - c.self.inside.from) c.in-Ok.n (ap (λ inbox. inbox.rest) c.self.view_is)
    c.deref_mut.ensures.value c.read_behind-read.ensures.front c.in-Ok.ensures.read)
