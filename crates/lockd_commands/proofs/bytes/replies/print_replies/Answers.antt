use Rattle.std.proofs.Common.{◌≡◌, ◌<◌, ap, arith, length, length-append}
use Rattle.std.proofs.lemmas.Grind.{common_steps}
use Rattle.lockd_commands.proofs.ReplyLemmas.{tells_nothing, tells_more, tells_all, next_is}
use Rattle.lockd_commands.proofs.bytes.replies.print_replies.Goals as goal

pub loop-rest-init : goal.loop-rest-init
loop-rest-init c = rw c.new-lines.ensures.items (tells_nothing c.args.sent.now)

pub first_reply-requires-clause-header : goal.first_reply-requires-clause-header
first_reply-requires-clause-header c =
    let some : 0 < length c.loop-rest.rest.now = grind (arith, common_steps) in
    let next = next_is c.args.sent.now c.loop-rest.rest.now c.loop-rest.lines.items c.requires c.loop-rest.invariant
    some in
    next.header

pub first_reply-requires-clause-whole : goal.first_reply-requires-clause-whole
first_reply-requires-clause-whole c =
    let some : 0 < length c.loop-rest.rest.now = grind (arith, common_steps) in
    let next = next_is c.args.sent.now c.loop-rest.rest.now c.loop-rest.lines.items c.requires c.loop-rest.invariant
    some in
    next.whole

pub loop-rest-smaller : goal.loop-rest-smaller
loop-rest-smaller c =
    let some : 0 < length c.loop-rest.rest.now = grind (arith, common_steps) in
    let next = next_is c.args.sent.now c.loop-rest.rest.now c.loop-rest.lines.items c.requires c.loop-rest.invariant
    some in
    let long = ap length c.first_reply.ensures.parts in
    omega (
      arith,
      next.header,
      long,
      c.first_reply.ensures.said,
      length-append c.first_reply.result.0.now
          c.first_reply.result.1.now,
    )

pub loop-rest-preserved : goal.loop-rest-preserved
loop-rest-preserved c =
    let some : 0 < length c.loop-rest.rest.now = grind (arith, common_steps) in
    let next = next_is c.args.sent.now c.loop-rest.rest.now c.loop-rest.lines.items c.requires c.loop-rest.invariant
    some in
    rw c.in_ok-push_line.ensures.line
    (tells_more c.args.sent.now c.loop-rest.rest.now c.first_reply.result.0.now c.first_reply.result.1.now
    c.loop-rest.lines.items c.loop-rest.invariant
    c.first_reply.ensures.parts c.first_reply.ensures.said (omega (arith, next.header, c.first_reply.ensures.said)))

pub returns-clause-lines : goal.returns-clause-lines
returns-clause-lines c =
    let none : length c.loop-rest.rest.now ≡ 0 = grind (arith, common_steps) in
    tells_all c.args.sent.now c.loop-rest.rest.now c.loop-rest.lines.items c.loop-rest.invariant none
