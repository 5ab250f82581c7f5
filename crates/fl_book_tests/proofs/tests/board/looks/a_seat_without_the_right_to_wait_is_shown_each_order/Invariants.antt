use Rattle.fl_book_tests.proofs.tests.board.looks.a_seat_without_the_right_to_wait_is_shown_each_order.Given as goal

abbrev pub ghosts-shown_each-L-BoardName : goal.ghosts-shown_each-L-BoardName
ghosts-shown_each-L-BoardName g a = record { workers = a.blank.parts; rules = a.rules }

abbrev pub ghosts-shown_each-L-Ledger : goal.ghosts-shown_each-L-Ledger
ghosts-shown_each-L-Ledger g a = record { name = a.blank.name; parts = a.blank.parts }

abbrev pub ghosts-shown_each-L-LogName : goal.ghosts-shown_each-L-LogName
ghosts-shown_each-L-LogName g a = record { log = a.log }
