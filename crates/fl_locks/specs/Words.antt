-- The words for the class and the kind of a lock, as lslocks(8) has them.
use Rattle.std.specs.Prelude.{ℕ, List, codes}
use Rattle.fl_marks.specs.declared.lock.Class.{Class}
use Rattle.fl_marks.specs.declared.lock.Class.TheVariants.{Record, Flock}
use Rattle.fl_marks.specs.declared.lock.Kind.{Kind}
use Rattle.fl_marks.specs.declared.lock.Kind.TheVariants.{Read, Write}

-- a record lock is POSIX, a whole-file lock FLOCK
abbrev pub class_word : Class → List ℕ
class_word Record = codes "POSIX"
class_word Flock = codes "FLOCK"

-- shared or exclusive
abbrev pub kind_word : Kind → List ℕ
kind_word Read = codes "READ"
kind_word Write = codes "WRITE"
