-- What contracts see of a judge.
use Rattle.std.specs.Prelude.{List, []}
use Rattle.fl_history.specs.declared.history.Line.{Line}
use Rattle.fl_waiting.specs.declared.rules.Rules.{Rules}

-- the rules that it judges by, and the lines that it heard
pub record Hearing : Type 0 where
  pub rules : Rules
  pub lines : List Line

-- it heard no line
abbrev pub unheard : Rules → Hearing
unheard rules = record { rules = rules; lines = [] }
