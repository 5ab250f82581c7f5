use Rattle.fl_book_tests.proofs.tests.board.looks.looks_find_nothing_after_many_orders_until_copies_are_made_anew.Given as goal

abbrev pub ghosts-idle-L-BoardName : goal.ghosts-idle-L-BoardName
ghosts-idle-L-BoardName g a = record { workers = a.blank.parts; rules = a.rules }

abbrev pub ghosts-idle-L-Ledger : goal.ghosts-idle-L-Ledger
ghosts-idle-L-Ledger g a = record { name = a.blank.name; parts = a.blank.parts }

abbrev pub ghosts-idle-L-LogName : goal.ghosts-idle-L-LogName
ghosts-idle-L-LogName g a = record { log = a.log }
