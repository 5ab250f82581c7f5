-- A legal history goes order by order.
use Rattle.std.proofs.Common.{◌≡◌, ℕ, ◌⊎◌, inl, inr, Bool, true, false, List, [], ◌∷◌, ◌++◌, map, refl, ap, sym, ◌∙◌, subst}
use Rattle.fl_counter.specs.Answered.{step_lines}
use Rattle.fl_desk.specs.Legal.{IsLegal, nothing, headed, step}
use Rattle.fl_desk.specs.Leading.{LeadsTo, GoesOn, ends, goes, heads}
use Rattle.fl_desk.specs.Replay.{state_after}
use Rattle.fl_core.specs.State.{Snapshot, snapshot_of}
use Rattle.fl_core.specs.Restored.{Part}
use Rattle.fl_core.specs.Step.{next, replies}
use Rattle.fl_desk.proofs.Histories.{Steps, leads_on, nothing_leads, rules_stay}
use Rattle.fl_desk.proofs.Givens.{asks, asks_append, asks_head, no_reply, replies_first}
use Rattle.fl_desk.proofs.Heads.{begins, head_leads, is_closed, open_before, read_head, same_tail, told}
use Rattle.fl_history.specs.declared.history.Line.{Line}
use Rattle.fl_history.specs.declared.history.Line.TheVariants as line
use Rattle.fl_order.specs.declared.told.Told.{Told}
use Rattle.fl_order.specs.declared.order.Order.{Order}
use Rattle.fl_order.specs.declared.state_part.StateLine.{StateLine}
use Rattle.fl_state.specs.Parts.{part_of}
use Rattle.fl_state.specs.Telling.{AreTold, IsFit, told_by}
use Rattle.fl_waiting.specs.declared.rules.Rules.{Rules}

-- ---- what a legal history leads to

-- the state that a head tells is fit
abbrev pub Fitting : Type 0
Fitting = (rules : Rules) (node fh : ℕ) (parts : List Part) → AreTold rules node fh parts → IsFit (snapshot_of (told_by rules node fh parts))

pub legal_leads : Steps → Fitting → (rules : Rules) {lines : List Line} → IsLegal rules lines → LeadsTo lines (snapshot_of (state_after rules lines))
legal_leads steps fitting rules nothing = nothing_leads steps rules
legal_leads steps fitting rules (headed {lines} h) =
    let s = told rules h.head h.parts in
    let all = head_leads rules h.head h.parts h.told (fitting rules h.head.node h.head.fh (map part_of h.parts) h.told.fit) in
    let read : s ≡ state_after rules lines = sym (read_head rules h.head h.parts) ∙ ap (state_after rules) (sym h.spelled) in
    subst (LeadsTo lines) (ap snapshot_of read) (subst (λ l. LeadsTo l (snapshot_of s)) (sym h.spelled) all)
legal_leads steps fitting rules (step before worker order {lines} legal is) =
    let p = snapshot_of (state_after rules before) in
    let so_far = legal_leads steps fitting rules legal in
    let all = subst (λ l. LeadsTo l (next p order)) (sym is) (leads_on steps before p worker order so_far) in
    subst (LeadsTo lines) (all.stands ∙ ap (λ r. snapshot_of (state_after r lines)) (rules_stay rules before)) all

-- ---- what stands before an order, and before a line of a head

same_head : {A : Type 0} {x y : A} {xs ys : List A} → x ∷ xs ≡ y ∷ ys → x ≡ y
same_head e = cc e

not_empty : {A : Type 0} (xs rest : List A) (x : A) → [] ≡ xs ++ x ∷ rest → ⊥
not_empty [] rest x e = cc e
not_empty (y ∷ xs) rest x e = cc e

abbrev is_reply : Line → Bool
is_reply (line.Told told) = true
is_reply _ = false

-- only replies stand among replies
all_replies : (xs rest : List Line) (x : Line) (tolds : List Told) → is_reply x ≡ false → xs ++ x ∷ rest ≡ map (λ told. line.Told told) tolds → ⊥
all_replies xs rest x [] other e = not_empty xs rest x (sym e)
all_replies [] rest x (told ∷ tolds) other e = absurd (cc (ap is_reply (same_head e), other))
all_replies (y ∷ xs) rest x (told ∷ tolds) other e = all_replies xs rest x tolds other (same_tail e)

-- any other line is the last order, or stands before it
abbrev OrderOrBefore : List Line → List Line → Line → Line → Type 0
OrderOrBefore xs ys x order = ((xs ≡ ys) × (x ≡ order)) ⊎ ((more : List Line) × (ys ≡ xs ++ x ∷ more))

order_or_before : (xs ys rest : List Line) (x : Line) (worker : ℕ) (order : Order) (tolds : List Told) → is_reply x ≡ false
    → xs ++ x ∷ rest ≡ ys ++ step_lines worker order tolds → OrderOrBefore xs ys x (line.Asked worker order)
order_or_before [] [] rest x worker order tolds other e = inl (refl, same_head e)
order_or_before [] (y ∷ ys) rest x worker order tolds other e = inr (ys, ap (λ l. l ∷ ys) (sym (same_head e)))
order_or_before (y ∷ xs) [] rest x worker order tolds other e = absurd (all_replies xs rest x tolds other (same_tail e))
order_or_before (x ∷ xs) (y ∷ ys) rest z worker order tolds other e = go (same_head e) (order_or_before xs ys rest z worker order tolds other (same_tail e))
  where
    go : x ≡ y → OrderOrBefore xs ys z (line.Asked worker order) → OrderOrBefore (x ∷ xs) (y ∷ ys) z (line.Asked worker order)
    go h (inl t) = inl (λ i. h i ∷ t.0 i, t.1)
    go h (inr t) = inr (t.0, λ i. sym h i ∷ t.1 i)

before_order : (rules : Rules) {lines : List Line} → IsLegal rules lines → (xs rest : List Line) (w : ℕ) (a : Order) → lines ≡ xs ++ line.Asked w a ∷ rest
    → IsLegal rules xs
unfolding asks
before_order rules nothing xs rest w a e = absurd (not_empty xs rest (line.Asked w a) e)
before_order rules (headed h) xs rest w a e =
    absurd (not_empty (asks xs) (asks rest) (w, a)
    (sym (ap asks h.spelled ∙ asks_head h.head h.parts) ∙ ap asks e ∙ asks_append xs (line.Asked w a ∷ rest)))
before_order rules (step before v b legal is) xs rest w a e =
    go (order_or_before xs before rest (line.Asked w a) v b _ refl (sym e ∙ is)) (λ more. before_order rules legal xs more w a)
  where
    go : OrderOrBefore xs before (line.Asked w a) (line.Asked v b) → ((more : List Line) → before ≡ xs ++ line.Asked w a ∷ more → IsLegal rules xs)
        → IsLegal rules xs
    go (inl same) earlier = subst (IsLegal rules) (sym same.0) legal
    go (inr m) earlier = earlier m.0 m.1

pub asked_legal : (rules : Rules) (before rest : List Line) (worker : ℕ) (order : Order) → IsLegal rules (before ++ line.Asked worker order ∷ rest)
    → IsLegal rules before
asked_legal rules before rest worker order all = before_order rules all before rest worker order refl

-- no line of a head stands behind a legal beginning
pub before_state : (rules : Rules) {lines : List Line} → IsLegal rules lines → (xs rest : List Line) (s : StateLine) → IsLegal rules xs
    → lines ≡ xs ++ line.State s ∷ rest → xs ≡ []
before_state rules nothing xs rest s front e = absurd (not_empty xs rest (line.State s) e)
before_state rules (headed h) xs rest s front e =
    is_closed rules front (open_before h.head h.parts xs rest (line.State s) (sym h.spelled ∙ e))
before_state rules (step before v b legal is) xs rest s front e =
    go (order_or_before xs before rest (line.State s) v b _ refl (sym e ∙ is)) (λ more. before_state rules legal xs more s front)
  where
    go : OrderOrBefore xs before (line.State s) (line.Asked v b) → ((more : List Line) → before ≡ xs ++ line.State s ∷ more → xs ≡ []) → xs ≡ []
    go (inl same) earlier = absurd (cc (same.1))
    go (inr m) earlier = earlier m.0 m.1

-- ---- what comes behind a legal beginning

pub goes_on : (before rest : List Line) (p : Snapshot) → LeadsTo before p → IsLegal p.rules (before ++ rest) → GoesOn before p rest
goes_on before [] p leads all = ends refl
goes_on before (line.Told told ∷ rest) p leads all = absurd (no_reply p.rules before rest told leads.legal all)
goes_on before (line.Asked worker order ∷ rest) p leads all =
    let first = replies_first p.rules before rest worker order leads.legal all in
    goes worker order first.0
    (ap (λ l. line.Asked worker order ∷ l)
    (first.1 ∙ ap (λ (q : Snapshot). map (λ told. line.Told told) (replies q order) ++ first.0) (sym leads.stands)))
goes_on before (line.State s ∷ rest) p leads all =
    let none = before_state p.rules all before rest s leads.legal refl in
    let first = begins p.rules s rest (subst (λ b. IsLegal p.rules (b ++ line.State s ∷ rest)) none all) in
    heads none first.0 rest (ap (λ s. line.State s ∷ rest) first.1)
