use Rattle.std.proofs.Common.{rules, arith}
use Rattle.lockd_drive.proofs.ExchangeLemmas.{received_more, short_after, begun_after}
use Rattle.lockd_drive.proofs.exchange.print_next.Goals as goal

pub returns-in_err-print_reply-clause-stopped : goal.returns-in_err-print_reply-clause-stopped
returns-in_err-print_reply-clause-stopped g c =
    let short = short_after c.loop.counter c.args.count c.in_err-print_reply.field-0.0 _ _ _ _ _ _ c.loop.invariant
    c.in_err-print_reply.ensures.stopped c.loop-test.true in
    search rules

pub loop-preserved : goal.loop-preserved
loop-preserved g c =
    received_more c.loop.counter 1 _ _ _ _ _ _ _ c.loop.invariant c.in_ok-print_reply.ensures.done

pub returns-in_err-print_reply-clause-begun : goal.returns-in_err-print_reply-clause-begun
returns-in_err-print_reply-clause-begun g c =
    let more = c.loop-test.true in
    let begun = begun_after c.loop.counter 1 c.args.count _ _ _ _ _ _ c.loop.invariant c.in_err-print_reply.ensures.begun
    (omega (arith, more)) in
    search rules
