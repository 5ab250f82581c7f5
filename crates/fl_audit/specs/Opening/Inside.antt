-- How much of a text is read ahead, and what its first line names. No contract of a public function cites these definitions.
use Rattle.std.specs.Prelude.{◌≡◌, ◌≤◌, ◌⊎◌, ℕ, true, List, length, Option}
use Rattle.std.specs.Io.KnownBytes.{IsAtEnd}
use Rattle.fl_desk.specs.Heads.{NamesRules}
use Rattle.fl_history.specs.declared.history.Line.{Line}
use Rattle.fl_history.specs.declared.history.Line.TheVariants as line
use Rattle.fl_audit.specs.Audit.{has_newline}
use Rattle.fl_order.specs.declared.state_part.StateLine.TheVariants as state
use Rattle.fl_waiting.specs.declared.rules.Rules.{Rules}

-- the first line stands in these bytes, or there is none that ends behind them
abbrev pub IsEnough : List ℕ → Option (List ℕ) → Type 0
IsEnough bytes left = (has_newline bytes ≡ true) ⊎ (700 ≤ length bytes) ⊎ IsAtEnd left

-- the line is the first one of a head, which names these rules
abbrev pub IsHeadUnder : Line → Rules → Type 0
IsHeadUnder (line.State (state.Head head)) rules = NamesRules head rules
IsHeadUnder other rules = ⊥
