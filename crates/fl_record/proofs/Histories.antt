-- The history that asks make.
use Rattle.std.proofs.Common.{◌≡◌, ◌↔◌, ℕ, List, [], ◌∷◌, ◌++◌, map, refl, ap, sym, ◌∙◌, subst, append_assoc}
use Rattle.std.proofs.lemmas.List.{append-nil}
use Rattle.std.proofs.lemmas.List.Sums.{fold-append}
use Rattle.std.specs.List.{fold}
use mathlib.Core.List.{IsPrefix}
use Rattle.fl_record.specs.Asks.{lines_in, lines_from, history_of, stepped, present_after}
use Rattle.fl_core.specs.State.{Snapshot, opening, snapshot_of}
use Rattle.fl_core.specs.Step.{next, replies}
use Rattle.fl_desk.specs.Leading.{LeadsTo}
use Rattle.fl_desk.specs.Legal.{HasNoHead}
use Rattle.fl_counter.specs.Answered.{step_lines}
use Rattle.fl_history.specs.declared.history.Line.{Line}
use Rattle.fl_history.specs.declared.history.Line.TheVariants as line
use Rattle.fl_order.specs.declared.order.Order.{Order}
use Rattle.fl_order.specs.declared.told.Told.{Told}
use Rattle.fl_log.specs.Asked.{Ask}
use Rattle.fl_waiting.specs.declared.rules.Rules.{Rules}

-- one ask more
pub present_more : (rules : Rules) (asks : List Ask) (ask : Ask)
    → present_after rules (asks ++ ask ∷ []) ≡ stepped (present_after rules asks) ask
present_more rules asks ask = fold-append stepped (snapshot_of (opening rules)) asks (ask ∷ [])

lines_append : (p : Snapshot) (xs ys : List Ask) → lines_from p (xs ++ ys) ≡ lines_from p xs ++ lines_from (fold stepped p xs) ys
lines_append p [] ys = refl
lines_append p (x ∷ xs) ys =
    ap (λ l. lines_in p x ++ l) (lines_append (stepped p x) xs ys)
    ∙ sym (append_assoc (lines_in p x) (lines_from (stepped p x) xs) (lines_from (fold stepped (stepped p x) xs) ys))

pub history_more : (rules : Rules) (asks : List Ask) (ask : Ask)
    → history_of rules (asks ++ ask ∷ []) ≡ history_of rules asks ++ lines_in (present_after rules asks) ask
history_more rules asks ask =
    lines_append (snapshot_of (opening rules)) asks (ask ∷ [])
    ∙ ap (λ l. history_of rules asks ++ l) (append-nil (lines_in (present_after rules asks) ask))

-- a beginning of the asks makes a beginning of the history, behind which whole steps come
pub history_goes_on : (rules : Rules) (xs ys : List Ask) (p : IsPrefix xs ys)
    → history_of rules xs ++ lines_from (present_after rules xs) p.0 ≡ history_of rules ys
history_goes_on rules xs ys p = sym (lines_append (snapshot_of (opening rules)) xs p.0) ∙ ap (history_of rules) p.1

pub history_begins : (rules : Rules) (xs ys : List Ask) → IsPrefix xs ys → IsPrefix (history_of rules xs) (history_of rules ys)
history_begins rules xs ys p = (lines_from (present_after rules xs) p.0, history_goes_on rules xs ys p)

-- it has no head
pub no_head : ((lines : List Line) (worker : ℕ) (order : Order) (tolds : List Told) → HasNoHead lines → HasNoHead (lines ++ step_lines worker order tolds))
    → ((xs ys : List Line) → HasNoHead (xs ++ ys) ↔ (HasNoHead xs × HasNoHead ys)) → (p : Snapshot) (asks : List Ask) → HasNoHead (lines_from p asks)
no_head step both p [] = refl
no_head step both p (ask ∷ asks) = (both (lines_in p ask) (lines_from (stepped p ask) asks)).1
    (step [] ask.worker ask.order (replies p ask.order) refl, no_head step both (stepped p ask) asks)

-- ---- the asks are read off the history

abbrev asks_in : List Line → List Ask
asks_in [] = []
asks_in (line.Asked worker order ∷ lines) = record { worker = worker; order = order } ∷ asks_in lines
asks_in (line.Told told ∷ lines) = asks_in lines
asks_in (line.State state ∷ lines) = asks_in lines

asks_in_more : (xs ys : List Line) → asks_in (xs ++ ys) ≡ asks_in xs ++ asks_in ys
asks_in_more [] ys = refl
asks_in_more (line.Asked worker order ∷ xs) ys = ap (λ l. record { worker = worker; order = order } ∷ l) (asks_in_more xs ys)
asks_in_more (line.Told told ∷ xs) ys = asks_in_more xs ys
asks_in_more (line.State state ∷ xs) ys = asks_in_more xs ys

asks_in_tolds : (tolds : List Told) (rest : List Line) → asks_in (map (λ told. line.Told told) tolds ++ rest) ≡ asks_in rest
asks_in_tolds [] rest = refl
asks_in_tolds (t ∷ ts) rest = asks_in_tolds ts rest

asks_read : (p : Snapshot) (asks : List Ask) → asks_in (lines_from p asks) ≡ asks
asks_read p [] = refl
asks_read p (ask ∷ asks) = ap (λ l. ask ∷ l) (asks_in_tolds (replies p ask.order) (lines_from (stepped p ask) asks) ∙ asks_read (stepped p ask) asks)

-- if a history begins another, so do its asks
pub asks_begin : (rules : Rules) (xs ys : List Ask) → IsPrefix (history_of rules xs) (history_of rules ys) → IsPrefix xs ys
asks_begin rules xs ys p = (
  asks_in p.0,
  (λ i. sym (asks_read (snapshot_of (opening rules)) xs) i ++ asks_in p.0)
      ∙ sym (asks_in_more (history_of rules xs) p.0) ∙ ap asks_in p.1 ∙ asks_read (snapshot_of (opening rules)) ys,
)

-- asks change no rules
pub same_rules : (p : Snapshot) (asks : List Ask) → (fold stepped p asks).rules ≡ p.rules
same_rules p [] = refl
same_rules p (ask ∷ asks) = same_rules (stepped p ask) asks

-- asks lead on
pub asks_from : ((lines : List Line) (p : Snapshot) (worker : ℕ) (order : Order) → LeadsTo lines p
    → LeadsTo (lines ++ step_lines worker order (replies p order)) (next p order))
    → (lines : List Line) (p : Snapshot) (asks : List Ask) → LeadsTo lines p → LeadsTo (lines ++ lines_from p asks) (fold stepped p asks)
asks_from law lines p [] leads = subst (λ (l : List Line). LeadsTo l p) (sym (append-nil lines)) leads
asks_from law lines p (ask ∷ asks) leads =
    subst (λ (l : List Line). LeadsTo l (fold stepped (stepped p ask) asks)) (append_assoc lines (lines_in p ask) (lines_from (stepped p ask) asks))
    (asks_from law (lines ++ lines_in p ask) (stepped p ask) asks (law lines p ask.worker ask.order leads))
