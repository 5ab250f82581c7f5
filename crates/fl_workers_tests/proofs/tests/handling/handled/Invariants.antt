use Rattle.std.proofs.Common.{Some}
use Rattle.fl_workers_tests.proofs.tests.handling.handled.Given as goal

abbrev pub ghosts-handled_at-N-WriterName : goal.ghosts-handled_at-N-WriterName
ghosts-handled_at-N-WriterName g a = record { writer = a.out.ghost_name; start = Some a.out.now.items }

abbrev pub ghosts-handled_at-N-LogName : goal.ghosts-handled_at-N-LogName
ghosts-handled_at-N-LogName g a = record { log = a.given }

abbrev pub ghosts-handled_at-N-Ledger : goal.ghosts-handled_at-N-Ledger
ghosts-handled_at-N-Ledger g a = record { name = a.sending.name; parts = a.sending.parts }
