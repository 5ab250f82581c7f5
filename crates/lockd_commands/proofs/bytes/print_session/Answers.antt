use Rattle.lockd_commands.proofs.ReplyLemmas.{session_of_vector, held_replies}
use Rattle.lockd_commands.proofs.bytes.print_session.Goals as goal

pub print_replies-requires : goal.print_replies-requires
print_replies-requires c =
    held_replies c.args.rules c.args.stream.now _ c.new-sent.result.items _ c.deref.result.now _ c.run_session-done.result.done
    c.deref.ensures.value
    (record { none = c.new-sent.ensures.items; whole = c.in_ok-fault.ensures.printed.1; served = c.run_session-done.ensures.served })

pub returns-clause-session : goal.returns-clause-session
returns-clause-session c =
    rw c.in_ok-fault.ensures.printed.0
    (session_of_vector c.args.rules c.args.stream.now _ c.new-sent.result.items _ c.deref.result.now
    c.in_ok-lines.lines.items _ c.run_session-done.result.done
    c.deref.ensures.value (record {
      none = c.new-sent.ensures.items;
      whole = c.in_ok-fault.ensures.printed.1;
      served = c.run_session-done.ensures.served;
    })
    c.in_ok-lines.ensures.lines)
