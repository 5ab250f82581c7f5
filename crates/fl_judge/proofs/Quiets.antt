-- Whether lines are quiet, line by line.
use Rattle.std.proofs.Common.{◌≡◌, ◌≢◌, ◌↔◌, ℕ, Bool, true, false, not, ◌&&◌, ◌⊎◌, inl, inr, ⊎_elim, List, [], ◌∷◌, ◌++◌}
use Rattle.std.proofs.Common.{length, refl, ap, sym, ◌∙◌, subst, arith, append_assoc, length-append}
use Rattle.fl_core.specs.Stages.{asked_by}
use Rattle.fl_desk.specs.Replay.{state_after}
use Rattle.fl_history.specs.declared.history.Line.{Line}
use Rattle.fl_history.specs.declared.history.Line.TheVariants as line
use Rattle.fl_order.specs.declared.order.Order.{Order}
use Rattle.fl_judge.specs.Quiet.{asks_while_waiting, IsQuiet}
use Rattle.fl_waiting.specs.declared.rules.Rules.{Rules}

-- a line among lines and one more: it is that one, or one of the lines
abbrev Found : List Line → Line → List Line → Line → Type 0
Found lines l before x = ((lines ≡ before) × (l ≡ x)) ⊎ ((more : List Line) × (lines ≡ before ++ x ∷ more))

found : (lines before rest : List Line) (l x : Line) → lines ++ l ∷ [] ≡ before ++ x ∷ rest → Found lines l before x
found [] [] rest l x e = inl (refl, cc e)
found [] (b ∷ before) rest l x e =
    let long = ap length e in
    absurd (omega (arith, long, length-append before (x ∷ rest)))
found (y ∷ lines) [] rest l x e = let same : y ≡ x = cc e in inr (lines, ap (λ z. z ∷ lines) same)
found (y ∷ lines) (b ∷ before) rest l x e =
    let head : y ≡ b = cc e in
    let tail : lines ++ l ∷ [] ≡ before ++ x ∷ rest = cc e in
    ⊎_elim (λ here. inl (ap (λ ls. y ∷ ls) here.0 ∙ ap (λ z. z ∷ before) head, here.1))
    (λ (there : (more : List Line) × (lines ≡ before ++ x ∷ more)).
    inr (there.0, ap (λ ls. y ∷ ls) there.1 ∙ ap (λ z. z ∷ (before ++ x ∷ there.0)) head))
    (found lines before rest l x tail)

-- lines before one more are quiet if all are
quiet_before : (rules : Rules) (lines : List Line) (l : Line) → IsQuiet rules (lines ++ l ∷ []) → IsQuiet rules lines
quiet_before rules lines l quiet before worker order rest is =
    quiet before worker order (rest ++ l ∷ [])
    (ap (λ ls. ls ++ l ∷ []) is ∙ append_assoc before (line.Asked worker order ∷ rest) (l ∷ []))

-- a line more, which asks nothing
pub quiet_beside : (rules : Rules) (lines : List Line) (l : Line) (quiet : Bool) → ((worker : ℕ) (order : Order) → l ≢ line.Asked worker order)
    → (quiet ≡ true) ↔ IsQuiet rules lines → (quiet ≡ true) ↔ IsQuiet rules (lines ++ l ∷ [])
quiet_beside rules lines l quiet other known = (
  λ so before worker order rest is. ⊎_elim (λ here. absurd (other worker order here.1))
      (λ (there : (more : List Line) × (lines ≡ before ++ line.Asked worker order ∷ more)).
      (known.0 so) before worker order there.0 there.1)
      (found lines before rest l (line.Asked worker order) is),
  λ all. known.1 (quiet_before rules lines l all),
)

both : (a b : Bool) → (a && not b) ≡ true → (a ≡ true) × (b ≡ false)
both true false e = (refl, refl)
both true true e = absurd (cc e)
both false b e = absurd (cc e)

neither : (a b : Bool) → a ≡ true → b ≡ false → (a && not b) ≡ true
neither a b x y = λ i. x i && not (y i)

-- an order more
pub quiet_asked : (rules : Rules) (lines : List Line) (worker : ℕ) (order : Order) (quiet asks : Bool) → (quiet ≡ true) ↔ IsQuiet rules lines
    → asks ≡ asks_while_waiting (asked_by order.op) (state_after rules lines).view.parked
    → ((quiet && not asks) ≡ true) ↔ IsQuiet rules (lines ++ line.Asked worker order ∷ [])
quiet_asked rules lines worker order quiet asks known is = (
  λ so before w o rest at.
      let two = both quiet asks so in
      ⊎_elim
      (λ (here : (lines ≡ before) × (line.Asked worker order ≡ line.Asked w o)).
      let same : order ≡ o = cc here.1 in
      subst (λ (o : Order). asks_while_waiting (asked_by o.op) (state_after rules before).view.parked ≡ false) same
      (subst (λ ls. asks_while_waiting (asked_by order.op) (state_after rules ls).view.parked ≡ false) here.0 (sym is ∙ two.1)))
      (λ (there : (more : List Line) × (lines ≡ before ++ line.Asked w o ∷ more)). (known.0 two.0) before w o there.0 there.1)
      (found lines before rest (line.Asked worker order) (line.Asked w o) at),
  λ all. neither quiet asks (known.1 (quiet_before rules lines (line.Asked worker order) all)) (is ∙ all lines worker order [] refl),
)

-- no line is quiet
pub quiet_nothing : (rules : Rules) (quiet : Bool) → quiet ≡ true → (quiet ≡ true) ↔ IsQuiet rules []
quiet_nothing rules quiet is = (
  λ _ before worker order rest at. absurd (let long = ap length at in omega (arith, long, length-append before (line.Asked worker order ∷ rest))),
  λ _. is,
)
