-- In a quiet history that opens calm owners never wait in a circle.
use Rattle.std.proofs.Common.{◌≡◌, ℕ, ◌+◌, false, cond, List, [], ◌∷◌, ◌++◌, map, count_by}
use Rattle.std.proofs.lemmas.List.Sums.{sum_by-cons}
use Rattle.std.proofs.Common.{append_assoc, append-nil, ap, sym, ◌∙◌, subst, arith}
use Rattle.fl_waiting.specs.Circle.{waiter_of, blocks, IsPath}
use Rattle.fl_core.specs.Settling.{present}
use Rattle.fl_core.specs.Stages.{asked_by, IsTakenInStages}
use Rattle.fl_core.specs.State.{Snapshot, opening, snapshot_of}
use Rattle.fl_core.specs.Step.{next, replies}
use Rattle.fl_waiting.specs.Waiting.{AllWait, AreApart}
use Rattle.fl_desk.specs.Leading.{LeadsTo}
use Rattle.fl_counter.specs.Answered.{step_lines}
use Rattle.fl_desk.specs.Legal.{IsLegal, nothing, headed, step, HasNoHead, is_state}
use Rattle.fl_desk.specs.Replay.{state_after}
use Rattle.fl_history.specs.declared.history.Line.{Line}
use Rattle.fl_history.specs.declared.history.Line.TheVariants as line
use Rattle.fl_order.specs.declared.order.Order.{Order}
use Rattle.fl_order.specs.declared.state_part.StateLine.TheVariants as state
use Rattle.fl_order.specs.declared.state_part.StatePart.{StatePart}
use Rattle.fl_judge.specs.Quiet.{asks_while_waiting, IsQuiet, IsCalm, OpensCalm, HasNoCircles}
use Rattle.fl_judge.proofs.Stages.{IsSound, step_sound}
use Rattle.fl_waiting.specs.declared.rules.Rules.{Rules}

-- lines without a head begin with none
pub headless_calm : (rules : Rules) (lines : List Line) → HasNoHead lines → OpensCalm rules lines
headless_calm rules lines without front rest is head =
    let first = line.State (state.Head head.head) in
    let others = map (λ (part : StatePart). line.State (state.Part part)) head.parts ++ line.State state.Go ∷ [] in
    let all : HasNoHead (first ∷ (others ++ rest)) = subst HasNoHead (is ∙ ap (λ ls. ls ++ rest) head.spelled) without in
    let one : count_by is_state (first ∷ (others ++ rest)) ≡ 1 + count_by is_state (others ++ rest) =
    sum_by-cons (λ (l : Line). cond (is_state l) 1 0) first (others ++ rest) in
    absurd (omega (arith, all, one))

module _ (leads_on : (lines : List Line) (p : Snapshot) (worker : ℕ) (order : Order) → LeadsTo lines p →
    LeadsTo (lines ++ step_lines worker order (replies p order)) (next p order))
    (leads : (rules : Rules) (lines : List Line) → IsLegal rules lines → LeadsTo lines (snapshot_of (state_after rules lines)))
    (stay : (rules : Rules) (lines : List Line) → (state_after rules lines).rules ≡ rules) where
  abbrev present_of : Rules → List Line → Snapshot
  present_of rules lines = snapshot_of (state_after rules lines)

  -- what an order leads to
  next_of : (rules : Rules) (before : List Line) (worker : ℕ) (order : Order) → IsLegal rules before
      → next (present_of rules before) order ≡ present_of rules (before ++ step_lines worker order (replies (present_of rules before) order))
  next_of rules before worker order legal =
      let p = present_of rules before in
      (leads_on before p worker order (leads rules before legal)).stands
      ∙ ap (λ r. present_of r (before ++ step_lines worker order (replies p order))) (stay rules before)

  -- a beginning of quiet lines is quiet
  quiet_before : (rules : Rules) (before rest lines : List Line) → lines ≡ before ++ rest → IsQuiet rules lines → IsQuiet rules before
  quiet_before rules before rest lines is quiet b worker order r here =
      quiet b worker order (r ++ rest) (is ∙ ap (λ l. l ++ rest) here ∙ append_assoc b (line.Asked worker order ∷ r) rest)

  -- one of lines that open calm does
  calm_before : (rules : Rules) (before rest lines : List Line) → lines ≡ before ++ rest → OpensCalm rules lines → OpensCalm rules before
  calm_before rules before rest lines is calm front others here =
      calm front (others ++ rest) (is ∙ ap (λ l. l ++ rest) here ∙ append_assoc front others rest)

  module _ (stages : (p : Snapshot) (order : Order) → AllWait p.rules p.marking p.view.parked → AreApart p.view.parked →
      IsTakenInStages p.rules order (present p.marking p.view.parked) (present (next p order).marking (next p order).view.parked)) where
    abbrev IsSoundAt : Snapshot → Type 0
    IsSoundAt p = IsSound p.rules (present p.marking p.view.parked)

    sound_next : (p : Snapshot) (order : Order) → AllWait p.rules p.marking p.view.parked → AreApart p.view.parked
        → asks_while_waiting (asked_by order.op) p.view.parked ≡ false → IsSoundAt p → IsSoundAt (next p order)
    sound_next p order waiting apart quiet sound =
        step_sound p.rules order (present p.marking p.view.parked) (present (next p order).marking (next p order).view.parked) (stages p order waiting apart) quiet sound

    none_waits : (rules : Rules) (first : ℕ) (others : List ℕ) → IsPath waiter_of (blocks (snapshot_of (opening rules)).rules (snapshot_of (opening rules)).marking) [] first others first → ⊥
    none_waits rules first [] path = absurd (omega (arith, path.among.1))
    none_waits rules first (second ∷ others) path = absurd (omega (arith, (path.0).among.1))

    opening_sound : (rules : Rules) → IsSoundAt (snapshot_of (opening rules))
    opening_sound rules = record { lone = tt; free = none_waits rules }

    sound : (rules : Rules) (lines : List Line) → IsLegal rules lines → IsQuiet rules lines → OpensCalm rules lines → IsSoundAt (present_of rules lines)
    sound rules lines nothing quiet calm = opening_sound rules
    sound rules lines (headed head) quiet calm =
        let told = calm lines [] (sym (append-nil lines)) head in
        record { lone = told.lone; free = told.straight }
    sound rules lines (step before worker order legal is) quiet calm =
        let p = present_of rules before in
        let tolds = replies p order in
        let l = leads rules before legal in
        subst IsSoundAt (next_of rules before worker order legal ∙ ap (present_of rules) (sym is))
        (sound_next p order l.waiting l.apart (quiet before worker order (map (λ told. line.Told told) tolds) is)
        (sound rules before legal (quiet_before rules before (step_lines worker order tolds) lines is quiet)
        (calm_before rules before (step_lines worker order tolds) lines is calm)))

    pub stays_calm : (rules : Rules) (lines : List Line) → IsQuiet rules lines → OpensCalm rules lines → IsLegal rules lines → IsCalm (present_of rules lines)
    stays_calm rules lines quiet calm legal =
        let s = sound rules lines legal quiet calm in
        record { lone = s.lone; straight = s.free }

    pub no_circles : (rules : Rules) (lines : List Line) → IsQuiet rules lines → OpensCalm rules lines → HasNoCircles rules lines
    no_circles rules lines quiet calm before rest is legal =
        (sound rules before legal (quiet_before rules before rest lines is quiet) (calm_before rules before rest lines is calm)).free
