use Rattle.std.proofs.Common.{◌≡◌, rules}
use Rattle.lockd_drive.specs.Drive.{Sends, Waits}
use Rattle.lockd_drive.specs.Drive.Inside.{said_by}
use Rattle.lockd_drive.proofs.ExchangeLemmas.{action_sends, action_stops, action_waits, action_unsent, action_unprinted}
use Rattle.lockd_drive.proofs.exchange.drive_over.Goals.{in-Send+in_ok-write_all-in-Send}
use Rattle.lockd_drive.proofs.exchange.drive_over.Goals.{in-Receive+in_ok-print_next-in-Receive}
use Rattle.lockd_drive.proofs.exchange.drive_over.Goals as goal

pub returns-in_err-print_next-in-Receive-clause-stopped : goal.returns-in_err-print_next-in-Receive-clause-stopped
returns-in_err-print_next-in-Receive-clause-stopped g c =
    let says : said_by c.action-item.result ≡ Waits c.in-Receive.count = search rules in
    let stop = action_stops c.args.actions.now c.loop-action.action-index c.action-item.result c.in-Receive.count
    c.in_err-print_next-in-Receive.field-0.0 _ _ _ _ _ _ _ _ c.loop-action-test.true (search rules) says c.loop-action.invariant
    c.in_err-print_next-in-Receive.ensures.stopped in
    search rules

pub loop-action-preserved : goal.loop-action-preserved
loop-action-preserved g c = elim c.match-action.branch [
  | in-Send+in_ok-write_all-in-Send w ↦
      let says : said_by c.action-item.result ≡ Sends w.deref.result.now = search rules in
      rw (w.replies-is, w.requests-is, w.output-is)
      (action_sends c.args.actions.now c.loop-action.action-index c.action-item.result w.deref.result.now _ _ _ _ _ _ _
      c.loop-action-test.true (search rules) says c.loop-action.invariant w.in_ok-write_all-in-Send.ensures.written)
  | in-Receive+in_ok-print_next-in-Receive w ↦
      let says : said_by c.action-item.result ≡ Waits w.in-Receive.count = search rules in
      rw (w.replies-is, w.requests-is, w.output-is)
      (action_waits c.args.actions.now c.loop-action.action-index c.action-item.result w.in-Receive.count _ _ _ _ _ _ _ _
      c.loop-action-test.true (search rules) says c.loop-action.invariant w.in_ok-print_next-in-Receive.ensures.done)
]

pub returns-in_err-write_all-in-Send-clause-begun : goal.returns-in_err-write_all-in-Send-clause-begun
returns-in_err-write_all-in-Send-clause-begun g c =
    let begun = action_unsent c.args.actions.now c.loop-action.action-index c.action-item.result _ _ _ _ _ _
    c.loop-action-test.true (search rules) c.loop-action.invariant in
    search rules

pub returns-in_err-print_next-in-Receive-clause-begun : goal.returns-in_err-print_next-in-Receive-clause-begun
returns-in_err-print_next-in-Receive-clause-begun g c =
    let says : said_by c.action-item.result ≡ Waits c.in-Receive.count = search rules in
    let begun = action_unprinted c.args.actions.now c.loop-action.action-index c.action-item.result c.in-Receive.count
    _ _ _ _ _ _ _ _ c.loop-action-test.true (search rules) says c.loop-action.invariant
    c.in_err-print_next-in-Receive.ensures.begun in
    search rules
