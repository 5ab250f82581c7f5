use Rattle.std.proofs.Common.{◌≤◌, ◌<◌, rules, length, arith}
use Rattle.std.proofs.lemmas.Grind.{common_steps}
use Rattle.fl_wire.specs.Layout.{len_of}
use Rattle.lockd_drive.proofs.FillLemmas.{bad_head, framed_is, read_is, rest_short}
use Rattle.lockd_drive.proofs.reply.read_reply.Goals.{then-len-lt16-via-then-len-lt16}
use Rattle.lockd_drive.proofs.reply.read_reply.Goals.{then-len-lt16-via-else-len-lt16+then-len-gt-MOST_BYTES}
use Rattle.lockd_drive.proofs.reply.read_reply.Goals as goal

pub returns-then-len-lt16-clause-stopped : goal.returns-then-len-lt16-clause-stopped
returns-then-len-lt16-clause-stopped g c =
    let room = c.fill.new.room in
    let long : 4 ≤ length room = grind (arith, common_steps) in
    let said = c.said_len-len.ensures in
    let bad : 16 ≤ len_of room → 8192 < len_of room = elim c.then-len-lt16.branch [
      | then-len-lt16-via-then-len-lt16 w ↦ λ least. let small = w.if-len-lt16.true in absurd (omega arith)
      | then-len-lt16-via-else-len-lt16+then-len-gt-MOST_BYTES w ↦ λ least. let large = w.if-len-gt-MOST_BYTES.true in omega arith
    ] in
    bad_head room _ _ long c.in_ok-fill.ensures.read bad

pub returns-in_err-fill-2-clause-stopped : goal.returns-in_err-fill-2-clause-stopped
returns-in_err-fill-2-clause-stopped g c =
    let len = c.said_len-len.result in
    let least : 16 ≤ len = grind (arith, common_steps) in
    let most : len ≤ 8192 = grind (arith, common_steps) in
    let within : len ≤ length c.fill-2.new.room = grind (arith, common_steps) in
    let stopped =
    rest_short c.fill.new.room c.fill-2.new.room len c.in_err-fill-2.field-0.0 _ _ _ c.in_ok-fill.ensures.read
    c.in_err-fill-2.ensures.stopped c.fill-2.ensures.front c.said_len-len.ensures least most within in
    search rules

pub returns-clause-framed : goal.returns-clause-framed
returns-clause-framed g c =
    let len = c.said_len-len.result in
    let least : 16 ≤ len = grind (arith, common_steps) in
    let most : len ≤ 8192 = grind (arith, common_steps) in
    let within : len ≤ length c.fill-2.new.room = grind (arith, common_steps) in
    framed_is c.fill.new.room c.fill-2.new.room len c.fill-2.ensures.front c.said_len-len.ensures least most within

pub returns-clause-read : goal.returns-clause-read
returns-clause-read g c =
    let len = c.said_len-len.result in
    let least : 4 ≤ len = grind (arith, common_steps) in
    read_is c.fill.new.room c.fill-2.new.room len _ _ _ c.fill-2.ensures.front least c.in_ok-fill.ensures.read
    c.in_ok-fill-2.ensures.read
