-- Histories without a head.
use Rattle.std.proofs.Common.{◌≡◌, ◌≢◌, ℕ, ◌+◌, ◌↔◌, cond, List, [], ◌∷◌, ◌++◌, map, count_by, refl, sym, subst, arith}
use Rattle.std.proofs.lemmas.List.Sums.{sum_by-append, sum_by-cons}
use Rattle.fl_counter.specs.Answered.{step_lines}
use Rattle.fl_desk.proofs.Givens.{answers, asks, behind, front_of, given}
use Rattle.fl_desk.proofs.Orders.{before_state}
use Rattle.fl_core.specs.Step.{replies_in}
use Rattle.fl_desk.specs.Legal.{HasNoHead, IsLegal, is_state}
use Rattle.fl_desk.specs.Replay.{state_after}
use Rattle.fl_history.specs.declared.history.Line.{Line}
use Rattle.fl_history.specs.declared.history.Line.TheVariants as line
use Rattle.fl_order.specs.declared.order.Order.{Order}
use Rattle.fl_order.specs.declared.told.Told.{Told}
use Rattle.fl_waiting.specs.declared.rules.Rules.{Rules}

counts : (xs ys : List Line) → count_by is_state (xs ++ ys) ≡ count_by is_state xs + count_by is_state ys
counts xs ys = sum_by-append (λ x. cond (is_state x) 1 0) xs ys

pub both_without : (xs ys : List Line) → HasNoHead (xs ++ ys) ↔ (HasNoHead xs × HasNoHead ys)
both_without xs ys =
    let all = counts xs ys in (λ none. (omega (arith, all, none), omega (arith, all, none)), λ none. omega (arith, all, none.0, none.1))

tolds_without : (tolds : List Told) → HasNoHead (map (λ told. line.Told told) tolds)
tolds_without [] = refl
tolds_without (told ∷ tolds) = tolds_without tolds

pub step_without : (lines : List Line) (worker : ℕ) (order : Order) (tolds : List Told) → HasNoHead lines → HasNoHead (lines ++ step_lines worker order tolds)
step_without lines worker order tolds none =
    let all = counts lines (step_lines worker order tolds) in let replies = tolds_without tolds in omega (arith, all, none, replies)

-- no line of a head comes first
pub no_front : (lines : List Line) → HasNoHead lines → front_of lines ≡ []
unfolding front_of
no_front [] none = refl
no_front (line.Asked worker order ∷ lines) none = refl
no_front (line.Told told ∷ lines) none = refl
no_front (line.State s ∷ lines) none =
    let all = sum_by-cons (λ x. cond (is_state x) 1 0) (line.State s) lines in absurd (omega (arith, all, none))

-- what orders give has no head
given_without : (rules : Rules) (before : List Line) (as_asked : List (ℕ × Order)) → HasNoHead (given rules before as_asked)
unfolding given
given_without rules before [] = refl
given_without rules before (a ∷ as_asked) =
    let s = answers rules before a in
    (both_without s (given rules (before ++ s) as_asked)).1 (tolds_without (replies_in (state_after rules before) a.1), given_without rules (before ++ s) as_asked)

-- what stands behind a legal beginning has none
pub behind_without : (rules : Rules) (before rest : List Line) → before ≢ [] → IsLegal rules before → IsLegal rules (before ++ rest) → HasNoHead rest
unfolding front_of
behind_without rules before (line.State s ∷ rest) some legal all = absurd (some (before_state rules all before rest s legal refl))
behind_without rules before [] some legal all = refl
behind_without rules before (line.Asked worker order ∷ rest) some legal all =
    let lines = line.Asked worker order ∷ rest in
    subst HasNoHead (sym (behind rules before lines refl legal all)) (given_without rules before (asks lines))
behind_without rules before (line.Told told ∷ rest) some legal all =
    let lines = line.Told told ∷ rest in
    subst HasNoHead (sym (behind rules before lines refl legal all)) (given_without rules before (asks lines))
