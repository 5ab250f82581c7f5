use Rattle.std.proofs.Common.{◌≡◌, ◌++◌, ◌∷◌, [], rules, take}
use Rattle.hex.specs.Hex.{encode_lower}
use Rattle.lockd_drive.proofs.ExchangeLemmas.{fallen_short, printed_one, unprinted, begun_none, begun_line}
use Rattle.lockd_drive.proofs.exchange.print_reply.Goals as goal

pub returns-in_err-len-clause-stopped : goal.returns-in_err-len-clause-stopped
returns-in_err-len-clause-stopped g c =
    let short = fallen_short c.in_err-len.field-0.0 _ _ (g.O.Write.contents c.args.output.now) c.in_err-len.ensures.stopped in
    search rules

pub returns-in_err-push_line-clause-stopped : goal.returns-in_err-push_line-clause-stopped
returns-in_err-push_line-clause-stopped g c =
    let short = unprinted (take c.in_ok-len.len c.read_reply.new.room) c.in_err-push_line.field-0.0 _ _
    (g.O.Write.contents c.args.output.now) c.in_ok-len.ensures.read c.in_err-push_line.ensures.error in
    search rules

pub returns-clause-done : goal.returns-clause-done
returns-clause-done g c =
    let reply = take c.in_ok-len.len c.read_reply.new.room in
    let line : c.deref.result.now ≡ encode_lower reply ++ 10 ∷ [] = search rules in
    printed_one c.write_all.result reply c.deref.result.now _ _ _ _ c.in_ok-len.ensures.framed c.in_ok-len.ensures.read line
    c.write_all.ensures.written

pub returns-in_err-len-clause-begun : goal.returns-in_err-len-clause-begun
returns-in_err-len-clause-begun g c =
    let stopped = c.in_err-len.ensures.stopped in
    let begun = begun_none 1 stopped.behind _ _ (g.O.Write.contents c.args.output.now) stopped.read in
    search rules

pub returns-in_err-push_line-clause-begun : goal.returns-in_err-push_line-clause-begun
returns-in_err-push_line-clause-begun g c =
    let reply = take c.in_ok-len.len c.read_reply.new.room in
    let begun = begun_none 1 reply _ _ (g.O.Write.contents c.args.output.now) c.in_ok-len.ensures.read in
    search rules

pub returns-clause-begun : goal.returns-clause-begun
returns-clause-begun g c =
    let reply = take c.in_ok-len.len c.read_reply.new.room in
    let line : c.deref.result.now ≡ encode_lower reply ++ 10 ∷ [] = search rules in
    begun_line c.write_all.result reply c.deref.result.now _ _ _ _ c.in_ok-len.ensures.framed c.in_ok-len.ensures.read line
    c.write_all.ensures.begun
