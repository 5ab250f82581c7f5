use Rattle.std.proofs.Common.{Some}
use Rattle.fl_workers_tests.proofs.tests.waiting.taken.Given as goal

abbrev pub ghosts-taken_at-N-WriterName : goal.ghosts-taken_at-N-WriterName
ghosts-taken_at-N-WriterName g a = record { writer = a.out.ghost_name; start = Some a.out.now.items }

abbrev pub ghosts-taken_at-N-LogName : goal.ghosts-taken_at-N-LogName
ghosts-taken_at-N-LogName g a = record { log = a.given }

abbrev pub ghosts-taken_at-N-Ledger : goal.ghosts-taken_at-N-Ledger
ghosts-taken_at-N-Ledger g a = record { name = a.sending.name; parts = a.sending.parts }
