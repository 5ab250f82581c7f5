use Rattle.fl_book_tests.proofs.tests.board.alone.an_order_alone_is_given_all_its_replies_by_the_second_try.Given as goal

abbrev pub ghosts-history_of-L-BoardName : goal.ghosts-history_of-L-BoardName
ghosts-history_of-L-BoardName g a = record { workers = a.blank.parts; rules = a.rules }

abbrev pub ghosts-history_of-L-Ledger : goal.ghosts-history_of-L-Ledger
ghosts-history_of-L-Ledger g a = record { name = a.blank.name; parts = a.blank.parts }

abbrev pub ghosts-history_of-L-LogName : goal.ghosts-history_of-L-LogName
ghosts-history_of-L-LogName g a = record { log = a.log }
