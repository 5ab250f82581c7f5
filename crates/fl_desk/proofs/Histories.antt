-- A legal history with one more order is legal, and what is there after it is what the history gives.
use Rattle.std.proofs.Common.{◌≡◌, ℕ, cond, Option, Some, None, List, [], ◌∷◌, ◌++◌, map, append_assoc, refl, ap, sym}
use Rattle.std.proofs.Common.{◌∙◌, subst}
use Rattle.std.proofs.lemmas.List.Sums.{fold-append}
use Rattle.std.specs.List.{fold}
use Rattle.std.proofs.lemmas.Bool.{eq-eqb, ne_eqb}
use Rattle.fl_desk.specs.Replay.{Reading, unread, committed, read_reply, read_line, state_at_end, state_after}
use Rattle.fl_desk.specs.Replay.{all_later, AllOthers}
use Rattle.fl_counter.specs.Answered.{step_lines}
use Rattle.fl_desk.specs.Legal.{IsLegal, nothing, step}
use Rattle.fl_desk.specs.Kept.{IsKept}
use Rattle.fl_core.specs.State.{View, State, Snapshot, opening, snapshot_of}
use Rattle.fl_core.specs.Effects.{Effect, at_once, later, followed_by, told_first, replied, recorded}
use Rattle.fl_core.specs.Restored.{Part, a_node, a_file, a_lock, a_request, told_part}
use Rattle.fl_core.specs.Step.{next, replies}
use Rattle.fl_desk.specs.Heads.{with_state}
use Rattle.fl_waiting.specs.Waiting.{AllWait, AreApart}
use Rattle.fl_desk.specs.Leading.{LeadsTo}
use Rattle.fl_history.specs.declared.history.Line.{Line}
use Rattle.fl_history.specs.declared.history.Line.TheVariants as line
use Rattle.fl_order.specs.declared.told.Told.{Told}
use Rattle.fl_order.specs.declared.order.Order.{Order}
use Rattle.fl_order.specs.declared.state_part.StateLine.{StateLine}
use Rattle.fl_order.specs.declared.state_part.StateLine.TheVariants as state
use Rattle.fl_state.specs.Parts.{part_of}
use Rattle.fl_marks.specs.Conflict.{IsLawful}
use Rattle.fl_waiting.specs.declared.rules.Rules.{Rules}

-- ---- how the lines of a step are read

-- an order that was asked is read from the state before it
read_asked : (rules : Rules) (lines : List Line) (worker : ℕ) (order : Order) (tolds : List Told)
    → state_after rules (lines ++ step_lines worker order tolds)
    ≡ state_at_end (fold read_line (record { state = state_after rules lines; waiting = Some order }) (map (λ told. line.Told told) tolds))
read_asked rules lines worker order tolds = ap state_at_end (fold-append read_line (unread rules) lines (step_lines worker order tolds))

-- once no order waits for its own reply, each reply answers a parked request
read_later : (tolds : List Told) (s : State) →
    state_at_end (fold read_line (record { state = s; waiting = None }) (map (λ told. line.Told told) tolds)) ≡ all_later tolds s
read_later [] s = refl
read_later (told ∷ tolds) s = read_later tolds (recorded (later told) s)

-- two effects, one after the other
recorded_twice : (f g : View → Effect) (s : State) → recorded g (recorded f s) ≡ recorded (λ v. followed_by g (f v)) s
recorded_twice f g s =
    let e = f s.view in
    λ i. record { rules = s.rules; view = (g e.view).view; changes = sym (append_assoc (g e.view).changes e.changes s.changes) i }

later_recorded : (tolds : List Told) (f : View → Effect) (s : State) →
    all_later tolds (recorded f s) ≡ recorded (λ v. fold (λ e t. followed_by (later t) e) (f v) tolds) s
later_recorded [] f s = refl
later_recorded (told ∷ tolds) f s = ap (all_later tolds) (recorded_twice f (later told) s) ∙ later_recorded tolds (λ v. followed_by (later told) (f v)) s

-- the state after lines and one more step
pub read_step : (rules : Rules) (lines : List Line) (worker : ℕ) (order : Order) (tolds : List Told) →
    state_after rules (lines ++ step_lines worker order tolds) ≡ recorded (replied order tolds) (state_after rules lines)
read_step rules lines worker order [] = read_asked rules lines worker order []
read_step rules lines worker order (told ∷ tolds) =
    read_asked rules lines worker order (told ∷ tolds)
    ∙ read_later tolds (recorded (told_first order told) (state_after rules lines))
    ∙ later_recorded tolds (told_first order told) (state_after rules lines)

-- one more step whose first reply is its own
pub read_own : (rules : Rules) (lines : List Line) (worker : ℕ) (order : Order) (told : Told) (tolds : List Told) → told.unique ≡ order.unique
    → state_after rules (lines ++ step_lines worker order (told ∷ tolds))
    ≡ all_later tolds (recorded (at_once order (Some told.result)) (state_after rules lines))
read_own rules lines worker order told tolds own =
    read_asked rules lines worker order (told ∷ tolds)
    ∙ read_later tolds (recorded (told_first order told) (state_after rules lines))
    ∙ ap (λ b. all_later tolds (recorded (λ v. cond b (at_once order (Some told.result) v) (followed_by (later told) (at_once order None v)))
    (state_after rules lines)))
    (eq-eqb told.unique order.unique own)

-- one more step without a reply of its own
pub read_none : (rules : Rules) (lines : List Line) (worker : ℕ) (order : Order) (tolds : List Told) → AllOthers order.unique tolds
    → state_after rules (lines ++ step_lines worker order tolds) ≡ all_later tolds (recorded (at_once order None) (state_after rules lines))
read_none rules lines worker order [] others = read_asked rules lines worker order []
read_none rules lines worker order (told ∷ tolds) others =
    read_asked rules lines worker order (told ∷ tolds)
    ∙ read_later tolds (recorded (told_first order told) (state_after rules lines))
    ∙ ap (λ b. all_later tolds (recorded (λ v. cond b (at_once order (Some told.result) v) (followed_by (later told) (at_once order None v)))
    (state_after rules lines)))
    (ne_eqb told.unique order.unique others.0)
    ∙ ap (all_later tolds) (sym (recorded_twice (at_once order None) (later told) (state_after rules lines)))

-- ---- the rules stay

committed_keeps : (waiting : Option Order) (s : State) → (committed waiting s).rules ≡ s.rules
committed_keeps None s = refl
committed_keeps (Some order) s = refl

reply_keeps : (waiting : Option Order) (told : Told) (s : State) → (read_reply waiting told s).rules ≡ s.rules
reply_keeps None told s = refl
reply_keeps (Some order) told s = refl

part_keeps : (part : Part) (s : State) → (told_part part s).rules ≡ s.rules
part_keeps (a_node number node) s = refl
part_keeps (a_file fh node) s = refl
part_keeps (a_lock r) s = refl
part_keeps (a_request r) s = refl

state_keeps : (l : StateLine) (s : State) → (with_state l s).rules ≡ s.rules
state_keeps (state.Head head) s = refl
state_keeps (state.Part part) s = part_keeps (part_of part) s
state_keeps state.Go s = refl

reading_keeps : (r : Reading) (lines : List Line) → (state_at_end (fold read_line r lines)).rules ≡ (r.state).rules
reading_keeps r [] = committed_keeps r.waiting r.state
reading_keeps r (line.Asked worker order ∷ lines) =
    reading_keeps (read_line r (line.Asked worker order)) lines ∙ committed_keeps r.waiting r.state
reading_keeps r (line.Told told ∷ lines) =
    reading_keeps (read_line r (line.Told told)) lines ∙ reply_keeps r.waiting told r.state
reading_keeps r (line.State l ∷ lines) =
    reading_keeps (read_line r (line.State l)) lines ∙ state_keeps l (committed r.waiting r.state) ∙ committed_keeps r.waiting r.state

-- no line changes them
pub rules_stay : (rules : Rules) (lines : List Line) → (state_after rules lines).rules ≡ rules
rules_stay rules lines = reading_keeps (unread rules) lines

-- ---- what a desk keeps

-- nothing at first
pub opened_kept : (rules : Rules) (lines : List Line) (present : Snapshot) → lines ≡ [] → present ≡ snapshot_of (opening rules) → IsLawful present.marking
    → IsKept lines present
opened_kept rules lines present none is lawful =
    let same : rules ≡ present.rules = ap (λ (p : Snapshot). p.rules) (sym is) in
    record {
      legal = subst (IsLegal present.rules) (sym none) nothing;
      stands = is ∙ (λ i. snapshot_of (state_after (same i) (sym none i)));
      lawful = lawful;
    }

pub taken_kept : (lines given new : List Line) (present after : Snapshot) (worker : ℕ) (order : Order) (tolds shown : List Told) → IsKept lines present
    → given ≡ lines → tolds ≡ replies present order → ((s : State) → snapshot_of s ≡ present → snapshot_of (recorded (replied order tolds) s) ≡ after)
    → (IsLawful present.marking → IsLawful after.marking) → shown ≡ tolds → new ≡ given ++ step_lines worker order shown → IsKept new after
taken_kept lines given new present after worker order tolds shown kept given_is tolds_is goes lawful shown_is new_is =
    let rules = present.rules in
    let all : new ≡ lines ++ step_lines worker order tolds = new_is ∙ (λ i. given_is i ++ step_lines worker order (shown_is i)) in
    let reads : snapshot_of (recorded (replied order tolds) (state_after rules lines)) ≡ after =
    goes (state_after rules lines) (sym kept.stands) in
    let same : rules ≡ after.rules = ap (λ (p : Snapshot). p.rules) kept.stands ∙ ap (λ (p : Snapshot). p.rules) reads in
    record {
      legal = subst (λ r. IsLegal r new) same (step lines worker order kept.legal
          (all ∙ ap (λ t. lines ++ step_lines worker order t) (tolds_is ∙ ap (λ (p : Snapshot). replies p order) kept.stands)));
      stands = sym reads ∙ ap snapshot_of (sym (read_step rules lines worker order tolds) ∙ ap (state_after rules) (sym all))
          ∙ ap (λ r. snapshot_of (state_after r new)) same;
      lawful = lawful kept.lawful;
    }

-- ---- what lines lead to

-- what a step's replies give
pub record Steps : Type 0 where
  pub read : (p : Snapshot) (order : Order) (s : State) → AllWait p.rules p.marking p.view.parked → AreApart p.view.parked → snapshot_of s ≡ p
      → snapshot_of (recorded (replied order (replies p order)) s) ≡ next p order
  pub waiting : (p : Snapshot) (order : Order) → AllWait p.rules (next p order).marking (next p order).view.parked
  pub apart : (p : Snapshot) (order : Order) → AllWait p.rules p.marking p.view.parked → AreApart p.view.parked → AreApart (next p order).view.parked
  pub opens : (rules : Rules) → IsLawful (snapshot_of (opening rules)).marking
  pub lawful : (p : Snapshot) (order : Order) → AllWait p.rules p.marking p.view.parked → AreApart p.view.parked → IsLawful p.marking
      → IsLawful (next p order).marking

module _ (steps : Steps) where
  -- no lines lead to the opening
  pub nothing_leads : (rules : Rules) → LeadsTo [] (snapshot_of (opening rules))
  nothing_leads rules = record { legal = nothing; stands = refl; waiting = tt; apart = tt; lawful = steps.opens rules }

  -- one order more leads on
  pub leads_on : (lines : List Line) (p : Snapshot) (worker : ℕ) (order : Order) → LeadsTo lines p
      → LeadsTo (lines ++ step_lines worker order (replies p order)) (next p order)
  leads_on lines p worker order leads =
      let tolds = replies p order in
      let read = steps.read p order (state_after p.rules lines) leads.waiting leads.apart (sym leads.stands) in
      record {
        legal = step lines worker order leads.legal (ap (λ (q : Snapshot). lines ++ step_lines worker order (replies q order)) leads.stands);
        stands = sym read ∙ ap snapshot_of (sym (read_step p.rules lines worker order tolds));
        waiting = steps.waiting p order;
        apart = steps.apart p order leads.waiting leads.apart;
        lawful = steps.lawful p order leads.waiting leads.apart leads.lawful;
      }
