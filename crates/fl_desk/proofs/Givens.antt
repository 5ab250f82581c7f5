-- A legal history is its head, if it has one, and what its orders give.
use Rattle.std.proofs.Common.{◌≡◌, ℕ, ◌⊎◌, inl, inr, List, [], ◌∷◌, ◌++◌, map, append_assoc, append-nil, refl, sym, ap}
use Rattle.std.proofs.Common.{◌∙◌, subst}
use Rattle.std.proofs.lemmas.List.{append_cancel_left}
use Rattle.fl_counter.specs.Answered.{step_lines}
use Rattle.fl_desk.specs.Heads.{IsHead, begun_lines, head_lines}
use Rattle.fl_desk.specs.Legal.{IsLegal, nothing, headed, step}
use Rattle.fl_desk.specs.Replay.{state_after}
use Rattle.fl_core.specs.Step.{replies_in}
use Rattle.fl_history.specs.declared.history.Line.{Line}
use Rattle.fl_history.specs.declared.history.Line.TheVariants as line
use Rattle.fl_order.specs.declared.told.Told.{Told}
use Rattle.fl_order.specs.declared.order.Order.{Order}
use Rattle.fl_order.specs.declared.state_part.Head.{Head}
use Rattle.fl_order.specs.declared.state_part.StateLine.TheVariants as state
use Rattle.fl_order.specs.declared.state_part.StatePart.{StatePart}
use Rattle.fl_waiting.specs.declared.rules.Rules.{Rules}

-- ---- the head and the orders of lines, and the lines that orders give

-- the lines of heads that come first
unfoldable pub front_of : List Line → List Line
front_of [] = []
front_of (line.Asked worker order ∷ lines) = []
front_of (line.Told told ∷ lines) = []
front_of (line.State s ∷ lines) = line.State s ∷ front_of lines

unfoldable pub asks : List Line → List (ℕ × Order)
asks [] = []
asks (line.Asked worker order ∷ lines) = (worker, order) ∷ asks lines
asks (line.Told told ∷ lines) = asks lines
asks (line.State s ∷ lines) = asks lines

-- an order with the replies that it gets after these lines
abbrev pub answers : Rules → List Line → (ℕ × Order) → List Line
answers rules before a = step_lines a.0 a.1 (replies_in (state_after rules before) a.1)

-- what orders give after these lines
unfoldable pub given : Rules → List Line → List (ℕ × Order) → List Line
given rules before [] = []
given rules before (a ∷ as_asked) = answers rules before a ++ given rules (before ++ answers rules before a) as_asked

-- these lines, and what orders give after them
abbrev whole : Rules → List Line → List (ℕ × Order) → List Line
whole rules before as_asked = before ++ given rules before as_asked

front_append : (xs ys : List Line) → front_of ys ≡ [] → front_of (xs ++ ys) ≡ front_of xs
unfolding front_of
front_append [] ys none = none
front_append (line.Asked worker order ∷ xs) ys none = refl
front_append (line.Told told ∷ xs) ys none = refl
front_append (line.State s ∷ xs) ys none = ap (λ l. line.State s ∷ l) (front_append xs ys none)

pub asks_append : (xs ys : List Line) → asks (xs ++ ys) ≡ asks xs ++ asks ys
unfolding asks
asks_append [] ys = refl
asks_append (line.Asked worker order ∷ xs) ys = ap (λ l. (worker, order) ∷ l) (asks_append xs ys)
asks_append (line.Told told ∷ xs) ys = asks_append xs ys
asks_append (line.State s ∷ xs) ys = asks_append xs ys

asks_tolds : (tolds : List Told) → asks (map (λ told. line.Told told) tolds) ≡ []
unfolding asks
asks_tolds [] = refl
asks_tolds (told ∷ tolds) = asks_tolds tolds

-- lines of a head come first in a head, and that is all of it
pub front_parts : (parts : List StatePart) (rest : List Line)
    → front_of (map (λ part. line.State (state.Part part)) parts ++ rest)
    ≡ map (λ part. line.State (state.Part part)) parts ++ front_of rest
unfolding front_of
front_parts [] rest = refl
front_parts (part ∷ parts) rest = ap (λ l. line.State (state.Part part) ∷ l) (front_parts parts rest)

pub front_begun : (head : Head) (parts : List StatePart) (rest : List Line)
    → front_of (begun_lines head parts ++ rest) ≡ begun_lines head parts ++ front_of rest
unfolding front_of
front_begun head parts rest = ap (λ l. line.State (state.Head head) ∷ l) (front_parts parts rest)

-- a whole head has no other lines
front_head : (head : Head) (parts : List StatePart) → front_of (head_lines head parts) ≡ head_lines head parts
unfolding front_of
front_head head parts = front_begun head parts (line.State state.Go ∷ [])

-- no order stands in a head
pub asks_head : (head : Head) (parts : List StatePart) → asks (head_lines head parts) ≡ []
unfolding asks
asks_head head [] = refl
asks_head head (part ∷ parts) = asks_head head parts

-- what orders give behind what others gave
whole_append : (rules : Rules) (before : List Line) (xs ys : List (ℕ × Order))
    → whole rules before (xs ++ ys) ≡ whole rules before xs ++ given rules (whole rules before xs) ys
unfolding given
whole_append rules before [] ys = ap (λ b. b ++ given rules b ys) (sym (append-nil before))
whole_append rules before (a ∷ xs) ys =
    let s = answers rules before a in
    sym (append_assoc before s (given rules (before ++ s) (xs ++ ys))) ∙ whole_append rules (before ++ s) xs ys
    ∙ ap (λ b. b ++ given rules b ys) (append_assoc before s (given rules (before ++ s) xs))

-- what comes first in a legal history is a whole head, or nothing
pub has_front : (rules : Rules) {lines : List Line} → IsLegal rules lines → (front_of lines ≡ []) ⊎ IsHead rules (front_of lines)
unfolding front_of
has_front rules nothing = inl refl
has_front rules (headed {lines} h) =
    inr (subst (IsHead rules) (h.spelled ∙ sym (ap front_of h.spelled ∙ front_head h.head h.parts)) h)
has_front rules (step before worker order {lines} legal e) =
    let s = answers rules before (worker, order) in
    subst (λ l. (l ≡ []) ⊎ IsHead rules l) (sym (ap front_of e ∙ front_append before s refl)) (has_front rules legal)

-- a legal history is what comes first, and what its orders give
legal_is : (rules : Rules) {lines : List Line} → IsLegal rules lines → lines ≡ whole rules (front_of lines) (asks lines)
unfolding asks given front_of
legal_is rules nothing = refl
legal_is rules (headed {lines} h) =
    let l = head_lines h.head h.parts in
    let first : front_of lines ≡ l = ap front_of h.spelled ∙ front_head h.head h.parts in
    let none : asks lines ≡ [] = ap asks h.spelled ∙ asks_head h.head h.parts in
    h.spelled ∙ sym (append-nil l) ∙ (λ i. whole rules (sym first i) (sym none i))
legal_is rules (step before worker order {lines} legal e) =
    let a : ℕ × Order = (worker, order) in
    let s = answers rules before a in
    let first : front_of lines ≡ front_of before = ap front_of e ∙ front_append before s refl in
    let all : asks lines ≡ asks before ++ a ∷ [] =
    ap asks e ∙ asks_append before s ∙ ap (λ l. asks before ++ a ∷ l) (asks_tolds (replies_in (state_after rules before) order)) in
    e ∙ ap (λ l. before ++ l) (sym (append-nil s)) ∙ ap (λ b. b ++ given rules b (a ∷ [])) (legal_is rules legal)
    ∙ sym (whole_append rules (front_of before) (asks before) (a ∷ [])) ∙ (λ i. whole rules (sym first i) (sym all i))

-- so what stands behind a legal beginning is what the orders there give, if no line of a head comes first
pub behind : (rules : Rules) (before tail : List Line) → front_of tail ≡ [] → IsLegal rules before → IsLegal rules (before ++ tail)
    → tail ≡ given rules before (asks tail)
behind rules before tail none legal all =
    append_cancel_left before tail (given rules before (asks tail)) (
    legal_is rules all ∙ (λ i. whole rules (front_append before tail none i) (asks_append before tail i))
    ∙ whole_append rules (front_of before) (asks before) (asks tail)
    ∙ ap (λ b. b ++ given rules b (asks tail)) (sym (legal_is rules legal)))

-- ---- what comes behind a legal beginning

-- no reply where an order is due
pub no_reply : (rules : Rules) (before rest : List Line) (told : Told) → IsLegal rules before → IsLegal rules (before ++ line.Told told ∷ rest) → ⊥
unfolding given front_of
no_reply rules before rest told legal all =
    go (asks (line.Told told ∷ rest)) (behind rules before (line.Told told ∷ rest) refl legal all)
  where
    go : (xs : List (ℕ × Order)) → line.Told told ∷ rest ≡ given rules before xs → ⊥
    go [] e = cc e
    go (a ∷ xs) e = cc e

-- what stands behind an order is its replies first
pub replies_first : (rules : Rules) (before rest : List Line) (worker : ℕ) (order : Order) → IsLegal rules before
    → IsLegal rules (before ++ line.Asked worker order ∷ rest)
    → (more : List Line) × (rest ≡ map (λ told. line.Told told) (replies_in (state_after rules before) order) ++ more)
unfolding asks given front_of
replies_first rules before rest worker order legal all =
    let a : ℕ × Order = (worker, order) in (
      given rules (before ++ answers rules before a) (asks rest),
      append_cancel_left (line.Asked worker order ∷ []) rest _ (behind rules before (line.Asked worker order ∷ rest) refl legal all),
    )
