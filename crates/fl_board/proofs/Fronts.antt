-- The longer of what was handed in at a place and what was shown there.
use Rattle.std.proofs.Common.{◌≡◌, ℕ, ◌<◌, ◌≤◌, nat_le, Bool, true, false, List, [], ◌∷◌, ◌++◌, length, length-append}
use Rattle.std.proofs.Common.{Result, Ok, Err, IfOk, OnErr, ap, sym, ◌∙◌, subst, arith}
use Rattle.std.proofs.lemmas.Bool.Decides.{nat_tests}
use Rattle.std.specs.Prelude.{if◌then◌else◌}
use mathlib.Core.List.{IsPrefix}
use Rattle.fl_board.proofs.Prefixes.{no_longer, of_itself}
use Rattle.fl_record.specs.Seats.{Place}
use Rattle.fl_board.specs.Shown.{front_of}
use Rattle.fl_record.specs.Shown.{AreHandedIn, IsHandedIn, IsShown, KeepsHanded}
use Rattle.fl_counter.specs.Answered.{AreBehind, answered_by, step_lines}
use Rattle.fl_desk.specs.Answered.{IsAnsweredAfter}
use Rattle.fl_history.specs.declared.history.Line.{Line}
use Rattle.fl_order.specs.declared.errno.Errno.{Errno}
use Rattle.fl_order.specs.declared.order.Order.{Order}
use Rattle.fl_order.specs.declared.told.Answer.{Answer}
use Rattle.fl_order.specs.declared.told.Told.{Told}
use Rattle.fl_waiting.specs.declared.rules.Rules.{Rules}

reaches : (m n : ℕ) → m ≤ n → nat_le m n ≡ true
reaches m n le = grind (arith, nat_tests)

falls_short : (m n : ℕ) → n < m → nat_le m n ≡ false
falls_short m n lt = grind (arith, nat_tests)

-- what begins with both begins with the longer
begins_either : (b : Bool) (seen handed lines : List Line) → IsPrefix handed lines → IsPrefix seen lines
    → IsPrefix (if b then seen else handed) lines
begins_either true seen handed lines had saw = saw
begins_either false seen handed lines had saw = had

begins_front : (place : Place) (lines : List Line) → IsPrefix place.handed lines → IsPrefix place.seen lines
    → IsPrefix (front_of place) lines
begins_front place lines = begins_either (nat_le (length place.handed) (length place.seen)) place.seen place.handed lines

-- ---- orders that were handed in

longer_by_step : (worker : ℕ) (order : Order) (tolds : List Told) (lines : List Line)
    → length lines < length (lines ++ step_lines worker order tolds)
longer_by_step worker order tolds lines = omega (arith, length-append lines (step_lines worker order tolds))

-- once an order was handed in, the history up to it is the longer
front_handed : (rules : Rules) (old new : Place) (order : Order) (tolds : List Told) → IsHandedIn rules old order tolds new
    → front_of new ≡ new.handed
front_handed rules old new order tolds one =
    let seen : length new.seen ≤ length one.before =
    omega (arith, no_longer old.seen one.before one.saw, ap length one.seen) in
    let longer : length new.seen < length new.handed =
    omega (arith, seen, ap length one.handed, longer_by_step old.worker order tolds one.before) in
    ap (λ b. if b then new.seen else new.handed) (falls_short (length new.handed) (length new.seen) longer)

-- each order stands behind what was handed in and shown before
pub handed_in_behind : (rules : Rules) (old new : Place) (orders : List Order) (lists : List (List Told))
    → AreHandedIn rules old orders lists new → AreBehind old.worker (front_of old) orders lists (front_of new)
handed_in_behind rules old new orders [] handed = ap front_of handed
handed_in_behind rules old new [] (ts ∷ lists) handed = absurd handed
handed_in_behind rules old new (o ∷ orders) (ts ∷ lists) handed =
    let one = handed.2 in
    let rest : AreBehind old.worker (front_of handed.0) orders lists (front_of new) =
    subst (λ w. AreBehind w (front_of handed.0) orders lists (front_of new)) handed.1
    (handed_in_behind rules handed.0 new orders lists handed.3) in (
      one.before,
      begins_front old one.before one.had one.saw,
      subst (λ (f : List Line). AreBehind old.worker f orders lists (front_of new))
          (front_handed rules old handed.0 o ts one ∙ one.handed) rest,
    )

-- ---- looks

-- once a look was shown, what was shown is the longer
front_shown : (rules : Rules) (old new : Place) (order : Order) (answer : Result Answer Errno) → KeepsHanded old new
    → IsShown rules old order answer new → front_of new ≡ new.seen
front_shown rules old new order answer same shown =
    let le : length new.handed ≤ length new.seen =
    omega (arith, ap length same.handed, no_longer old.handed new.seen shown.had) in
    ap (λ b. if b then new.seen else new.handed) (reaches (length new.handed) (length new.seen) le)

module _ {E : Type 0} where
  pub look_front : (rules : Rules) (old new : Place) (order : Order) (result : Result (Result Answer Errno) E)
      → KeepsHanded old new → IfOk result (λ answer. IsShown rules old order answer new) → OnErr result (new ≡ old)
      → IsPrefix (front_of old) (front_of new)
  look_front rules old new order (Ok answer) same shown refused =
      subst (IsPrefix (front_of old)) (sym (front_shown rules old new order answer same shown))
      (begins_front old new.seen shown.had shown.saw)
  look_front rules old new order (Err fault) same shown refused = of_itself (front_of old) (front_of new) (ap front_of refused)

  pub look_had : (rules : Rules) (old new : Place) (order : Order) (result : Result (Result Answer Errno) E)
      → KeepsHanded old new → IfOk result (λ answer. IsShown rules old order answer new)
      → IfOk result (λ _. IsPrefix (answered_by old.worker old.handed) (answered_by old.worker (front_of new)))
  look_had rules old new order (Ok answer) same shown =
      subst (λ l. IsPrefix (answered_by old.worker old.handed) (answered_by old.worker l))
      (sym (front_shown rules old new order answer same shown)) shown.answered
  look_had rules old new order (Err fault) same shown = tt

  pub look_shown : (rules : Rules) (old new : Place) (order : Order) (result : Result (Result Answer Errno) E)
      → KeepsHanded old new → IfOk result (λ answer. IsShown rules old order answer new)
      → IfOk result (λ answer. IsAnsweredAfter rules (front_of new) order answer)
  look_shown rules old new order (Ok answer) same shown =
      subst (λ l. IsAnsweredAfter rules l order answer) (sym (front_shown rules old new order answer same shown)) shown.answer
  look_shown rules old new order (Err fault) same shown = tt
