-- What a replay leads up to, line by line.
use Rattle.std.proofs.Common.{◌≡◌, ◌≢◌, ◌↔◌, ℕ, zero, suc, ◌+◌, Bool, true, false, not, ◌&&◌, ◌⊎◌, inl, inr, Option, Some, None, List}
use Rattle.std.proofs.Common.{[], ◌∷◌, ◌++◌, drop, slice_get}
use Rattle.std.proofs.Common.{append_assoc, refl, ap, sym, ◌∙◌, subst}
use Rattle.std.proofs.lemmas.List.{append-nil}
use Rattle.std.proofs.lemmas.Option.{none-some}
use Rattle.std.proofs.Math.Numerals.{add-one}
use Rattle.std.proofs.Math.Seq.{drop-nil}
use Rattle.std.specs.Option.{is_some}
use Rattle.fl_core.specs.State.{Snapshot}
use Rattle.fl_core.specs.Stages.{asked_by}
use Rattle.fl_core.specs.Step.{next, replies}
use Rattle.fl_counter.specs.Answered.{step_lines}
use Rattle.fl_desk.specs.Leading.{LeadsTo, GoesOn, ends, goes, heads}
use Rattle.fl_desk.specs.Legal.{IsLegal}
use Rattle.fl_judge.specs.Verdicts.{IsBeginning, IsInsideHead}
use Rattle.fl_history.specs.declared.history.Line.{Line}
use Rattle.fl_history.specs.declared.history.Line.TheVariants as line
use Rattle.fl_judge.specs.declared.replay.Replay.{Replay}
use Rattle.fl_judge.specs.declared.replay.Stage.TheVariants.{Unheard, Telling, Taking}
use Rattle.fl_judge.specs.Inside.Heard.{BeginsWith, due_lines, LacksReplies, LeadsUpTo, before_all, in_head, by_orders, GoesOnAlike}
use Rattle.fl_order.specs.declared.order.Order.{Order}
use Rattle.fl_order.specs.declared.told.Told.{Told}
use Rattle.fl_order.specs.declared.state_part.StateLine.{StateLine}
use Rattle.fl_judge.proofs.Quiets.{quiet_nothing, quiet_beside, quiet_asked}
use Rattle.fl_judge.specs.Present.{told_lines}
use Rattle.fl_judge.specs.Quiet.{asks_while_waiting, IsQuiet}

-- ---- what is left of a list from a place on

none_left : {A : Type 0} (xs : List A) (k : ℕ) → slice_get xs k ≡ None → drop k xs ≡ []
none_left [] k e = drop-nil k
none_left (x ∷ xs) zero e = absurd (none-some x (sym e))
none_left (x ∷ xs) (suc k) e = none_left xs k e

same_some : {A : Type 0} (x y : A) → ◌≡◌ {A = Option A} (Some x) (Some y) → x ≡ y
same_some x y e = cc e

pub left_from : {A : Type 0} (xs : List A) (k : ℕ) (x : A) → slice_get xs k ≡ Some x → drop k xs ≡ x ∷ drop (suc k) xs
left_from [] k x e = absurd (none-some x e)
left_from (y ∷ xs) zero x e = ap (λ z. z ∷ xs) (same_some y x e)
left_from (y ∷ xs) (suc k) x e = left_from xs k x e

-- nothing is in a list that has nothing
pub nothing_there : {A : Type 0} (xs : List A) (k : ℕ) (x : A) → xs ≡ [] → slice_get xs k ≡ Some x → ⊥
nothing_there [] k x e is = none-some x is
nothing_there (y ∷ xs) k x e is = cc e

-- ---- one line more

-- a line, and what stands behind it
pub behind : (lines rest : List Line) (l : Line) → (lines ++ l ∷ []) ++ rest ≡ lines ++ l ∷ rest
behind lines rest l = append_assoc lines (l ∷ []) rest

pub same_head : {A : Type 0} (x y : A) (xs ys : List A) → x ∷ xs ≡ y ∷ ys → x ≡ y
same_head x y xs ys e = cc e

same_tail : {A : Type 0} (x y : A) (xs ys : List A) → x ∷ xs ≡ y ∷ ys → xs ≡ ys
same_tail x y xs ys e = cc e

pub not_empty : (lines : List Line) (l : Line) → lines ++ l ∷ [] ≢ []
not_empty [] l e = cc e
not_empty (x ∷ lines) l e = cc e

-- no reply is due, since no order is taken
pub no_due_lines : (r : Replay) → r.tolds.told ≡ [] → due_lines r ≡ []
no_due_lines r none = ap (λ t. told_lines (drop r.told t)) none ∙ ap told_lines (drop-nil r.told)

-- no line is heard
pub opens : (r : Replay) → r.stage ≡ Unheard → LeadsTo [] r.core → r.tolds.told ≡ [] → r.quiet ≡ true → LeadsUpTo [] r
opens r stage leads none quiet =
    let e : due_lines r ≡ [] = no_due_lines r none in
    before_all stage refl none (record {
      leads = subst (λ l. LeadsTo l r.core) (sym e) leads;
      due = λ rest legal. (rest, sym (ap (λ l. l ++ rest) e));
      quiet = quiet_nothing r.core.rules r.quiet quiet;
    })

-- where a reply is due orders are taken
taken : (lines : List Line) (r : Replay) (due : Told) → slice_get r.tolds.told r.told ≡ Some due → LeadsUpTo lines r
    → (r.stage ≡ Taking) × LacksReplies lines r
taken lines r due is (before_all stage empty none lacks) = absurd (nothing_there r.tolds.told r.told due none is)
taken lines r due is (in_head stage lacks) = absurd (nothing_there r.tolds.told r.told due lacks.none is)
taken lines r due is (by_orders stage some lacks) = (stage, lacks)

-- the reply that is due
pub told_on : (before after : Replay) (due : Told) → slice_get before.tolds.told before.told ≡ Some due → after.core ≡ before.core → after.tolds.told ≡ before.tolds.told
    → after.told ≡ before.told + 1 → after.quiet ≡ before.quiet → after.stage ≡ before.stage
    → (lines : List Line) → LeadsUpTo lines before → LeadsUpTo (lines ++ line.Told due ∷ []) after
told_on before after due is core tolds told quiet stage lines up =
    let l = line.Told due in
    let was = taken lines before due is up in
    let lacks = was.1 in
    let e : due_lines before ≡ l ∷ due_lines after =
    ap told_lines (left_from before.tolds.told before.told due is ∙ (λ i. due ∷ drop (sym (told ∙ add-one before.told) i) (sym tolds i))) in
    by_orders (stage ∙ was.0) (not_empty lines l) (record {
      leads = subst (λ p. LeadsTo ((lines ++ l ∷ []) ++ due_lines after) p) (sym core)
          (subst (λ ls. LeadsTo ls before.core) (ap (λ d. lines ++ d) e ∙ sym (behind lines (due_lines after) l)) lacks.leads);
      due = λ rest legal.
          let w = lacks.due (l ∷ rest) (subst (IsLegal before.core.rules) (behind lines rest l)
          (subst (λ (p : Snapshot). IsLegal p.rules ((lines ++ l ∷ []) ++ rest)) core legal)) in
          (w.0, same_tail l l rest (due_lines after ++ w.0) (w.1 ∙ ap (λ d. d ++ w.0) e));
      quiet = subst (λ q. (q ≡ true) ↔ IsQuiet after.core.rules (lines ++ l ∷ [])) (sym quiet)
          (subst (λ (p : Snapshot). (before.quiet ≡ true) ↔ IsQuiet p.rules (lines ++ l ∷ [])) (sym core)
          (quiet_beside before.core.rules lines l before.quiet (λ worker order is. cc is) lacks.quiet));
    })

-- a legal history goes on by it
pub due_first : (lines : List Line) (r : Replay) (due : Told) → slice_get r.tolds.told r.told ≡ Some due → LeadsUpTo lines r
    → (rest : List Line) → IsLegal r.core.rules (lines ++ rest) → (others : List Line) × (rest ≡ line.Told due ∷ others)
due_first lines r due is up rest legal =
    let w = (taken lines r due is up).1.due rest legal in
    (told_lines (drop (suc r.told) r.tolds.told) ++ w.0, w.1 ∙ ap (λ t. told_lines t ++ w.0) (left_from r.tolds.told r.told due is))

-- another line stands where a reply is due
pub told_wrong : (before : Replay) (due : Told) (l : Line) → slice_get before.tolds.told before.told ≡ Some due → l ≢ line.Told due
    → (lines : List Line) → LeadsUpTo lines before → IsBeginning before.core.rules (lines ++ l ∷ []) → ⊥
told_wrong before due l is other lines up b =
    let w = due_first lines before due is up (l ∷ b.rest) (subst (IsLegal before.core.rules) (behind lines b.rest l) b.legal) in
    other (same_head l (line.Told due) b.rest w.0 w.1)

pub none_is_due : (o : Option Told) → (is_some o ≡ true → ⊥) → o ≡ None
none_is_due None none = refl
none_is_due (Some due) none = absurd (none refl)

-- if no reply is due, the lines are legal, unless they are a head so far
pub all_told : (r : Replay) (lines : List Line) → slice_get r.tolds.told r.told ≡ None → LacksReplies lines r → LeadsTo lines r.core
all_told r lines none lacks =
    subst (λ l. LeadsTo l r.core) (ap (λ t. lines ++ told_lines t) (none_left r.tolds.told r.told none) ∙ append-nil lines) lacks.leads

pub lacking : (lines : List Line) (r : Replay) → (r.stage ≡ Telling → ⊥) → LeadsUpTo lines r → LacksReplies lines r
lacking lines r other (before_all stage empty none lacks) = lacks
lacking lines r other (in_head stage lacks) = absurd (other stage)
lacking lines r other (by_orders stage some lacks) = lacks

pub legal_or_inside : (r : Replay) (lines : List Line) → slice_get r.tolds.told r.told ≡ None → LeadsUpTo lines r
    → IsLegal r.core.rules lines ⊎ IsInsideHead lines
legal_or_inside r lines none (before_all stage empty _ lacks) = inl (all_told r lines none lacks).legal
legal_or_inside r lines none (in_head stage lacks) = inr (record { head = lacks.head; parts = lacks.parts; begun = lacks.begun })
legal_or_inside r lines none (by_orders stage some lacks) = inl (all_told r lines none lacks).legal

-- ---- orders

abbrev pub GoesByOrders : Type 0
GoesByOrders = (before rest : List Line) (p : Snapshot) → LeadsTo before p → IsLegal p.rules (before ++ rest) → GoesOn before p rest

abbrev pub LeadsOn : Type 0
LeadsOn = (lines : List Line) (p : Snapshot) (worker : ℕ) (order : Order) → LeadsTo lines p →
    LeadsTo (lines ++ step_lines worker order (replies p order)) (next p order)

-- what goes on behind legal lines
on_behind : GoesByOrders → (before : Replay) (lines : List Line) (l : Line) → LeadsTo lines before.core
    → (b : IsBeginning before.core.rules (lines ++ l ∷ [])) → GoesOn lines before.core (l ∷ b.rest)
on_behind goes_on before lines l leads b = goes_on lines (l ∷ b.rest) before.core leads (subst (IsLegal before.core.rules) (behind lines b.rest l) b.legal)

-- a reply stands where an order is due
pub order_wrong : GoesByOrders → (before : Replay) (told : Told) → slice_get before.tolds.told before.told ≡ None
    → (lines : List Line) → LacksReplies lines before → IsBeginning before.core.rules (lines ++ line.Told told ∷ []) → ⊥
order_wrong goes_on before told none lines lacks b = no_order (on_behind goes_on before lines (line.Told told) (all_told before lines none lacks) b)
  where
    no_order : GoesOn lines before.core (line.Told told ∷ b.rest) → ⊥
    no_order (ends e) = cc e
    no_order (goes worker order rest e) = cc e
    no_order (heads empty head rest e) = cc e

-- what stands behind an order in what the lines lead to
replies_next : (lines : List Line) (p : Snapshot) (worker : ℕ) (order : Order) (rest : List Line) → GoesOn lines p (line.Asked worker order ∷ rest)
    → BeginsWith (told_lines (replies p order)) rest
replies_next lines p worker order rest (ends e) = absurd (cc e)
replies_next lines p worker order rest (goes w o more e) =
    let head : line.Asked worker order ≡ line.Asked w o = same_head (line.Asked worker order) (line.Asked w o) rest (told_lines (replies p o) ++ more) e in
    let same : o ≡ order = cc head in
    (more, same_tail (line.Asked worker order) (line.Asked w o) rest (told_lines (replies p o) ++ more) e ∙ ap (λ x. told_lines (replies p x) ++ more) same)
replies_next lines p worker order rest (heads empty head more e) = absurd (cc e)

-- an order
pub order_on : LeadsOn → GoesByOrders → (before after : Replay) (worker : ℕ) (order : Order) → slice_get before.tolds.told before.told ≡ None
    → after.core ≡ next before.core order → after.tolds.told ≡ replies before.core order → after.told ≡ 0
    → after.quiet ≡ (before.quiet && not (asks_while_waiting (asked_by order.op) before.core.view.parked)) → after.stage ≡ Taking
    → (lines : List Line) → LacksReplies lines before → LeadsUpTo (lines ++ line.Asked worker order ∷ []) after
order_on leads_on goes_on before after worker order none core tolds told quiet stage lines lacks =
    let l = line.Asked worker order in
    let so_far = all_told before lines none lacks in
    let asks = asks_while_waiting (asked_by order.op) before.core.view.parked in
    let e : due_lines after ≡ told_lines (replies before.core order) = λ i. told_lines (drop (told i) (tolds i)) in
    by_orders stage (not_empty lines l) (record {
      leads = subst (λ p. LeadsTo ((lines ++ l ∷ []) ++ due_lines after) p) (sym core)
          (subst (λ ls. LeadsTo ls (next before.core order)) (sym (behind lines (due_lines after) l ∙ ap (λ d. lines ++ l ∷ d) e))
          (leads_on lines before.core worker order so_far));
      due = λ rest legal.
          let w = replies_next lines before.core worker order rest
          (goes_on lines (l ∷ rest) before.core so_far (subst (IsLegal before.core.rules) (behind lines rest l)
          (subst (λ (p : Snapshot). IsLegal p.rules ((lines ++ l ∷ []) ++ rest)) core legal))) in
          (w.0, w.1 ∙ ap (λ d. d ++ w.0) (sym e));
      quiet = subst (λ q. (q ≡ true) ↔ IsQuiet after.core.rules (lines ++ l ∷ [])) (sym quiet)
          (subst (λ (p : Snapshot). ((before.quiet && not asks) ≡ true) ↔ IsQuiet p.rules (lines ++ l ∷ [])) (sym core)
          (quiet_asked before.core.rules lines worker order before.quiet asks lacks.quiet
          (ap (λ (p : Snapshot). asks_while_waiting (asked_by order.op) p.view.parked) so_far.stands)));
    })

-- if a line of a head comes, no reply is due
none_due : (tolds : List Told) (s : StateLine) (rest more : List Line) → line.State s ∷ rest ≡ told_lines tolds ++ more → told_lines tolds ≡ []
none_due [] s rest more e = refl
none_due (told ∷ tolds) s rest more e = absurd (cc e)

-- a line of a head stands behind a whole head, or behind an order
pub state_late : GoesByOrders → (before : Replay) (s : StateLine) → before.stage ≡ Taking
    → (lines : List Line) → LeadsUpTo lines before → IsBeginning before.core.rules (lines ++ line.State s ∷ []) → ⊥
state_late goes_on before s taking lines (before_all stage empty none lacks) b = cc (stage, taking)
state_late goes_on before s taking lines (in_head stage lacks) b = cc (stage, taking)
state_late goes_on before s taking lines (by_orders stage some lacks) b = none_goes (on_behind goes_on before lines (line.State s) leads b)
  where
    leads : LeadsTo lines before.core
    leads =
        let w = lacks.due (line.State s ∷ b.rest) (subst (IsLegal before.core.rules) (behind lines b.rest (line.State s)) b.legal) in
        subst (λ ls. LeadsTo ls before.core)
        (ap (λ d. lines ++ d) (none_due (drop before.told before.tolds.told) s b.rest w.0 w.1) ∙ append-nil lines) lacks.leads

    none_goes : GoesOn lines before.core (line.State s ∷ b.rest) → ⊥
    none_goes (ends e) = cc e
    none_goes (goes worker order rest e) = cc e
    none_goes (heads empty head rest e) = some empty

-- ---- in the words of `take`

pub alike : (before after : Replay) (l : Line) (b : Bool) → b ≡ true → ((lines : List Line) → LeadsUpTo lines before → LeadsUpTo (lines ++ l ∷ []) after)
    → GoesOnAlike before l b after
alike before after l b is on = subst (λ b. GoesOnAlike before l b after) (sym is) on

pub unlike : (before after : Replay) (l : Line) (b : Bool) → b ≡ false
    → ((lines : List Line) → LeadsUpTo lines before → IsBeginning before.core.rules (lines ++ l ∷ []) → ⊥) → GoesOnAlike before l b after
unlike before after l b is wrong = subst (λ b. GoesOnAlike before l b after) (sym is) wrong
