use Rattle.std.proofs.Common.{refl}
use Rattle.fl_workers.proofs.SentLemmas.{one_sent}
use Rattle.fl_workers.specs.Sent.{entry, replies_of}
use Rattle.fl_workers.proofs.worker.collect.Goals as goal

pub returns : goal.returns
returns g c =
    let own = c.args.own.now in
    one_sent (entry own.author (replies_of c.args.response.now)) own c.collect.new.own c.collect.result refl
    c.collect.ensures.appended (λ no. (c.collect.ensures.refused no).1)
