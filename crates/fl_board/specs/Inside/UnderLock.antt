-- What lies under a board's lock.
use Rattle.std.specs.Prelude.{List}
use Rattle.fl_log.specs.Asked.{Ask}

-- the asks that were handed in, and a beginning of them whose lines the journal has stored
pub record UnderLock : Type 0 where
  pub asks : List Ask
  pub stored : List Ask
