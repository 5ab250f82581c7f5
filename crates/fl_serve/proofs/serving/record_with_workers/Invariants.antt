use Rattle.fl_serve.proofs.serving.record_with_workers.Given as goal

abbrev pub ghosts-run_at-L-BoardName : goal.ghosts-run_at-L-BoardName
ghosts-run_at-L-BoardName g a = record { workers = a.blank.parts; rules = a.staff.rules }

abbrev pub ghosts-run_at-L-Ledger : goal.ghosts-run_at-L-Ledger
ghosts-run_at-L-Ledger g a = record { name = a.blank.name; parts = a.blank.parts }

abbrev pub ghosts-run_at-L-LogName : goal.ghosts-run_at-L-LogName
ghosts-run_at-L-LogName g a = record { log = a.log }

abbrev pub ghosts-run_at-N-WriterName : goal.ghosts-run_at-N-WriterName
ghosts-run_at-N-WriterName g a = record { writer = a.w.ghost_name; start = g.W.Write.contents a.w.now }

abbrev pub ghosts-run_at-N-Ledger : goal.ghosts-run_at-N-Ledger
ghosts-run_at-N-Ledger g a = record { name = a.sending.name; parts = a.sending.parts }

abbrev pub ghosts-run_at-N-LogName : goal.ghosts-run_at-N-LogName
ghosts-run_at-N-LogName g a = record { log = a.given }
