-- What contracts see of a table of locks.
use Rattle.std.specs.Prelude.{ℕ}
use Rattle.fl_marks.specs.Marking.{Marking}

-- how many runs it has room for, how many chains its runs stand on, and the marks
pub record LockTable : Type 0 where
  pub limit : ℕ
  pub chains : ℕ
  pub marking : Marking
