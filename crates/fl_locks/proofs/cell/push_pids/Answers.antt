use Rattle.std.proofs.Common.{◌++◌, string_bytes, sym, ap, ◌∙◌}
use Rattle.std.specs.Fmt.{decimal}
use Rattle.fl_locks.specs.Cells.{pids_text}
use Rattle.fl_locks.proofs.Joins.{written}
use Rattle.fl_locks.proofs.cell.push_pids.Goals as goal

pub returns : goal.returns
returns c =
    written (λ b. decimal b.pid) c.in-Some.first.now c.in-Some.others.now c.loop-blocker.blocker-index _ _ _ c.in_ok-write.ensures.bytes
    c.loop-blocker.invariant c.loop-blocker-test.false
    ∙ ap (λ blockers. string_bytes c.args.text.now ++ pids_text blockers) (sym c.in-Some.ensures.cases.0)
