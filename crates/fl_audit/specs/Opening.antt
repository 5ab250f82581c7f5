-- The rules that a trace names.
pub mod Inside
use Rattle.std.specs.Prelude.{◌≡◌, ℕ, List, ◌∷◌, ◌++◌, Option, None, Some}
use Rattle.fl_desk.specs.Heads.{NamesRules}
use Rattle.fl_history.specs.declared.history.Line.TheVariants as line
use Rattle.fl_order.specs.declared.state_part.Head.{Head}
use Rattle.fl_order.specs.declared.state_part.StateLine.TheVariants as state
use Rattle.fl_trace.specs.Text.{line_text, LineFits}
use Rattle.fl_waiting.specs.declared.rules.Rules.{Rules}

-- a text begins with the first line of a head, which names these rules
pub record BeginsUnder (text : List ℕ) (rules : Rules) : Type 0 where
  pub head : Head
  pub rest : List ℕ
  pub fits : LineFits (line.State (state.Head head))
  pub spelled : text ≡ line_text (line.State (state.Head head)) ++ 10 ∷ rest
  pub names : NamesRules head rules

-- these are the rules that a text names; none, if it names none
abbrev pub AreNamed : List ℕ → Option Rules → Type 0
AreNamed text None = (rules : Rules) → BeginsUnder text rules → ⊥
AreNamed text (Some rules) = BeginsUnder text rules
