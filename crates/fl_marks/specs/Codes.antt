-- How markings are told apart by proofs: as lists of pairs and numbers.
use Rattle.std.specs.Coded.{Coded, coded×, coded_ℕ}
use Rattle.std.specs.FinMap.{code}
use Rattle.fl_marks.specs.contracts.lock.Key as key
use Rattle.fl_marks.specs.contracts.lock.Mark as mark
use Rattle.fl_marks.specs.Marking.{Marking}

-- a marking, as its entries
abbrev pub marking_code : Coded Marking
marking_code = code (coded× (key.the_row).coded coded_ℕ) (mark.the_row).coded
