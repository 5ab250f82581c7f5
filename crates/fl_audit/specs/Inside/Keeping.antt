-- What contracts see of a judge, and of what hears the same lines beside it.
use Rattle.std.specs.Prelude.{ℕ, Bool, Option, List, option_map, is_some, refl}
use Rattle.std.specs.Coded.{Coded, code_by, coded_bool, coded_list, coded_option, coded_ℕ, coded×}
use Rattle.fl_audit.specs.Inside.Seams.{end_seen}
use Rattle.fl_audit.specs.Pieces.{End}
use Rattle.fl_audit.specs.declared.beside.Beside.{Beside}
use Rattle.fl_core.specs.Codes.{snapshot_code}
use Rattle.fl_core.specs.State.{Snapshot}
use Rattle.fl_history.specs.contracts.history.Line as line
use Rattle.fl_history.specs.declared.history.Line.{Line}
use Rattle.fl_judge.specs.Hearing.{Hearing}
use Rattle.fl_waiting.specs.contracts.rules.Rules as rules
use Rattle.fl_waiting.specs.declared.rules.Rules.{Rules}

-- whether the last lines are kept, and the end of a piece that they have to go on from, if they have to
pub record Along : Type 0 where
  pub keeps : Bool
  pub end : Option End

-- as contracts see it
abbrev pub along : Beside → Along
along b = record { keeps = is_some b.recent; end = option_map (λ s. end_seen s.end) b.seam }

-- the rules that a judge judges by, the lines that it heard, and what is beside it
pub record Keeping : Type 0 where
  pub rules : Rules
  pub lines : List Line
  pub along : Along

-- a judge that heard this, with that beside it
abbrev pub keeping : Hearing → Along → Keeping
keeping hearing along = record { rules = hearing.rules; lines = hearing.lines; along = along }

-- how proofs tell these apart: as their parts
abbrev pub end_code : Coded End
end_code =
    code_by (Snapshot × ℕ) (coded× snapshot_code coded_ℕ) (λ e. (e.present, e.lines))
    (λ t. record { present = t.0; lines = t.1 }) (λ _. refl)

abbrev pub along_code : Coded Along
along_code =
    code_by (Bool × Option End) (coded× coded_bool (coded_option end_code)) (λ a. (a.keeps, a.end))
    (λ t. record { keeps = t.0; end = t.1 }) (λ _. refl)

abbrev pub keeping_code : Coded Keeping
keeping_code =
    code_by (Rules × (List Line × Along))
    (coded× (rules.the_row).coded (coded× (coded_list (line.the_row).coded) along_code))
    (λ k. (k.rules, (k.lines, k.along))) (λ t. record { rules = t.0; lines = t.1.0; along = t.1.1 }) (λ _. refl)
