-- What is always so of a judge, and of the lines that it heard.
use Rattle.std.specs.Prelude.{◌≡◌, ◌≢◌, ◌↔◌, ℕ, ◌-◌, ◌+◌, ◌^◌, ◌≤◌, Bool, true, false, Option, Some, None}
use Rattle.std.specs.Prelude.{List, [], ◌∷◌, ◌++◌, length, take, drop, map}
use Rattle.std.specs.List.{slice_get}
use Rattle.fl_core.specs.State.{opening, snapshot_of}
use Rattle.fl_counter.specs.Tolds.{HasRoom, Replies}
use Rattle.fl_desk.specs.Heads.{begun_lines, IsToldBy}
use Rattle.fl_desk.specs.Leading.{LeadsTo}
use Rattle.fl_desk.specs.Legal.{IsLegal, orders_asked}
use Rattle.fl_judge.specs.Verdicts.{IsBeginning}
use Rattle.fl_history.specs.declared.history.Line.{Line}
use Rattle.fl_judge.specs.declared.replay.Replay.{Replay}
use Rattle.fl_judge.specs.declared.replay.Stage.TheVariants.{Unheard, Telling, Taking}
use Rattle.fl_judge.specs.Present.{told_lines}
use Rattle.fl_judge.specs.Quiet.{IsQuiet}
use Rattle.fl_order.specs.declared.state_part.Head.{Head}
use Rattle.fl_order.specs.declared.state_part.StatePart.{StatePart}
use Rattle.fl_state.specs.Parts.{part_of}
use Rattle.fl_state.specs.Telling.{told_by}
use Rattle.fl_waiting.specs.declared.rules.Rules.{Rules}

-- lines begin with these
abbrev pub BeginsWith : List Line → List Line → Type 0
BeginsWith first lines = (more : List Line) × (lines ≡ first ++ more)

-- the replies of the last order that weren't heard yet
abbrev pub due_lines : Replay → List Line
due_lines r = told_lines (drop r.told r.tolds.told)

-- The lines lack only the replies that are due: with these they lead to what is there, and a history that begins with
-- the lines, and is legal under the rules of what is there, goes on by these. It knows whether the lines are quiet.
pub record LacksReplies (lines : List Line) (r : Replay) : Type 0 where
  pub leads : LeadsTo (lines ++ due_lines r) r.core
  pub due : (rest : List Line) → IsLegal r.core.rules (lines ++ rest) → BeginsWith (due_lines r) rest
  pub quiet : (r.quiet ≡ true) ↔ IsQuiet r.core.rules lines

-- The lines are a head so far, which tells what is there, and no reply is due. It knows whether the lines are quiet.
pub record LacksGo (lines : List Line) (r : Replay) : Type 0 where
  pub head : Head
  pub parts : List StatePart
  pub begun : lines ≡ begun_lines head parts
  pub told : IsToldBy r.core.rules head parts
  pub there : r.core ≡ snapshot_of (told_by r.core.rules head.node head.fh (map part_of parts))
  pub none : r.tolds.told ≡ []
  pub quiet : (r.quiet ≡ true) ↔ IsQuiet r.core.rules lines

-- A replay led up to these lines: there are none, or they are a head so far, or orders are taken behind them.
pub data LeadsUpTo (lines : List Line) (r : Replay) : Type 0 where
  before_all : r.stage ≡ Unheard → lines ≡ [] → r.tolds.told ≡ [] → LacksReplies lines r → LeadsUpTo lines r
  in_head : r.stage ≡ Telling → LacksGo lines r → LeadsUpTo lines r
  by_orders : r.stage ≡ Taking → lines ≢ [] → LacksReplies lines r → LeadsUpTo lines r

-- Behind lines that a replay led up to comes one more: either it leads up to that too, or no legal history begins
-- with them.
abbrev pub GoesOnAlike : Replay → Line → Bool → Replay → Type 0
GoesOnAlike before l true after = (lines : List Line) → LeadsUpTo lines before → LeadsUpTo (lines ++ l ∷ []) after
GoesOnAlike before l false after =
    (lines : List Line) → LeadsUpTo lines before → IsBeginning before.core.rules (lines ++ l ∷ []) → ⊥

-- the lines before this one, counted from 1, are a beginning of a legal history, and the lines with it aren't
pub record DiffersIn (rules : Rules) (lines : List Line) (n : ℕ) : Type 0 where
  pub from : 1 ≤ n
  pub within : n ≤ length lines
  pub before : IsBeginning rules (take (n - 1) lines)
  pub wrong : IsBeginning rules (take n lines) → ⊥

-- what is known of the lines, where they differ and where they don't
abbrev pub Stands : List Line → Replay → Option ℕ → Type 0
Stands lines r None = LeadsUpTo lines r
Stands lines r (Some n) = DiffersIn r.core.rules lines n

-- there is room for all replies that one order can give under these rules, and no more are there
abbrev pub AreOfOne : Rules → Replies → Type 0
AreOfOne rules tolds = HasRoom rules tolds × (length tolds.told ≤ rules.parked + 1)

-- these are the rules; the replies are those of one order, and before the first line nothing is there
pub record IsReady (rules : Rules) (r : Replay) : Type 0 where
  pub under : r.core.rules ≡ rules
  pub room : AreOfOne rules r.tolds
  pub fresh : r.stage ≡ Unheard → r.core ≡ snapshot_of (opening rules)

-- so many lines were heard, not too many, and that is known of them
pub record IsHeard (lines : List Line) (heard : ℕ) (r : Replay) (differs : Option ℕ) : Type 0 where
  pub count : heard ≡ length lines
  pub few : heard ≤ 2 ^ 63
  pub stands : Stands lines r differs
  pub ready : IsReady r.core.rules r

-- Where the lines differ, this one stands there, and a replay led up to those before it.
abbrev pub IsStoppedAt : List Line → Replay → Option ℕ → Option Line → Type 0
IsStoppedAt lines r None found = found ≡ None
IsStoppedAt lines r (Some n) found = (found ≡ slice_get lines (n - 1)) × LeadsUpTo (take (n - 1) lines) r

-- so many of the lines are orders, and that is known of the line that differs
pub record IsNoted (lines : List Line) (orders : ℕ) (r : Replay) (differs : Option ℕ) (found : Option Line) : Type 0 where
  pub asked : orders ≡ orders_asked lines
  pub stopped : IsStoppedAt lines r differs found
