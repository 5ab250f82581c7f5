use Rattle.fl_book_tests.proofs.tests.board.threaded.pool.history_of.Given as goal

abbrev pub ghosts-closed-L-BoardName : goal.ghosts-closed-L-BoardName
ghosts-closed-L-BoardName g a = record { workers = a.blank.parts; rules = a.rules }

abbrev pub ghosts-closed-L-Ledger : goal.ghosts-closed-L-Ledger
ghosts-closed-L-Ledger g a = record { name = a.blank.name; parts = a.blank.parts }

abbrev pub ghosts-closed-L-LogName : goal.ghosts-closed-L-LogName
ghosts-closed-L-LogName g a = record { log = a.log }
