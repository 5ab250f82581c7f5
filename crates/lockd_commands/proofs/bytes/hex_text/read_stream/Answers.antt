use Rattle.std.proofs.Common.{rules}
use Rattle.lockd_commands.proofs.HexLemmas.{read_bad, read_more}
use Rattle.lockd_commands.proofs.bytes.hex_text.read_stream.Goals as goal

pub returns-in_err-bytes-clause-error : goal.returns-in_err-bytes-clause-error
returns-in_err-bytes-clause-error c =
    let bad =
    read_bad c.args.text.now c.loop-rest.stream.items c.loop-rest.rest.now c.in-Some.line.now c.in-Some.after.now
    c.loop-rest.number c.in_err-bytes.field-0.0 c.loop-rest.invariant c.in-Some.ensures.first c.in-Some.ensures.behind
    c.in_err-bytes.ensures.error in
    search rules

pub loop-rest-preserved : goal.loop-rest-preserved
loop-rest-preserved c =
    let more =
    read_more c.args.text.now c.loop-rest.stream.items c.loop-rest.rest.now c.in-Some.line.now c.in-Some.after.now
    c.in_ok-bytes.bytes.items c.loop-rest.number c.loop-rest.invariant c.in-Some.ensures.first c.in-Some.ensures.behind
    c.in-Some.ensures.shorter c.in_ok-bytes.ensures.spelled in
    rw (c.in_ok-extend_from_slice.ensures.items, c.deref.ensures.value) more
