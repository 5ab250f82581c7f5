-- Lines that are a head, whole and alone.
use Rattle.std.proofs.Common.{◌≡◌, ◌≢◌, ℕ, ◌+◌, ◌<◌, cond, Option, List, [], ◌∷◌, ◌++◌, length, map}
use Rattle.std.proofs.Common.{refl, ap, sym, ◌∙◌, subst, arith, append-nil}
use Rattle.std.proofs.lemmas.List.Sums.{sum_by-cons}
use Rattle.fl_core.specs.State.{snapshot_of}
use Rattle.fl_core.specs.Step.{replies_in}
use Rattle.fl_counter.specs.Answered.{step_lines}
use Rattle.fl_desk.specs.Heads.{begun_lines, head_lines, IsHead}
use Rattle.fl_desk.specs.Legal.{is_asked, orders_asked, IsLegal, nothing, headed, step}
use Rattle.fl_desk.specs.Replay.{state_after}
use Rattle.fl_history.specs.declared.history.Line.{Line}
use Rattle.fl_history.specs.declared.history.Line.TheVariants as line
use Rattle.fl_judge.specs.Hearing.{Hearing}
use Rattle.fl_judge.specs.Inside.Heard.{due_lines, Stands}
use Rattle.fl_judge.specs.Present.{HasPresent}
use Rattle.fl_judge.specs.Verdicts.{IsInsideHead}
use Rattle.fl_judge.specs.declared.replay.Replay.{Replay}
use Rattle.fl_judge.proofs.Heads.{GoesByParts}
use Rattle.fl_judge.proofs.Verdicts.{seen, present_lacks, legal_present}
use Rattle.fl_order.specs.declared.order.Order.{Order}
use Rattle.fl_order.specs.declared.state_part.Head.{Head}
use Rattle.fl_order.specs.declared.state_part.StateLine.TheVariants as state
use Rattle.fl_order.specs.declared.state_part.StatePart.{StatePart}
use Rattle.fl_waiting.specs.declared.rules.Rules.{Rules}

-- ---- two ways to cut a list

data Cut {A : Type 0} (xs ys zs rest : List A) : Type 0 where
  inside : (more : List A) → xs ≡ zs ++ more → Cut xs ys zs rest
  past : (m : A) (ms : List A) → zs ≡ xs ++ m ∷ ms → ys ≡ m ∷ (ms ++ rest) → Cut xs ys zs rest

cut : {A : Type 0} (xs ys zs rest : List A) → xs ++ ys ≡ zs ++ rest → Cut xs ys zs rest
cut [] ys [] rest is = inside [] refl
cut [] ys (z ∷ zs) rest is = past z zs refl is
cut (x ∷ xs) ys [] rest is = inside (x ∷ xs) refl
cut (x ∷ xs) ys (z ∷ zs) rest is = go (cut xs ys zs rest (cc is))
  where
    same : x ≡ z
    same = cc is

    go : Cut xs ys zs rest → Cut (x ∷ xs) ys (z ∷ zs) rest
    go (inside more e) = inside more (λ i. same i ∷ e i)
    go (past m ms e f) = past m ms (λ i. sym same i ∷ e i) f

-- ---- part of a head

mapped : {A B : Type 0} (f : A → B) (xs : List A) (ys zs : List B) → map f xs ≡ ys ++ zs → (front : List A) × (ys ≡ map f front)
mapped f xs [] zs is = ([], refl)
mapped f [] (y ∷ ys) zs is = absurd (cc is)
mapped f (x ∷ xs) (y ∷ ys) zs is =
    let rest = mapped f xs ys zs (cc is) in
    let same : f x ≡ y = cc is in (x ∷ rest.0, λ i. sym same i ∷ rest.1 i)

begun_part : (head : Head) (parts : List StatePart) (lines more : List Line) → lines ≢ [] → begun_lines head parts ≡ lines ++ more → IsInsideHead lines
begun_part head parts [] more some is = absurd (some refl)
begun_part head parts (l ∷ lines) more some is =
    let rest = mapped (λ (part : StatePart). line.State (state.Part part)) parts lines more (cc is) in
    let same : line.State (state.Head head) ≡ l = cc is in
    record { head = head; parts = rest.0; begun = λ i. sym same i ∷ rest.1 i }

-- ---- with no order there is nothing else

one_more : (l : Line) (ls : List Line) → orders_asked (l ∷ ls) ≡ cond (is_asked l) 1 0 + orders_asked ls
one_more l ls = sum_by-cons (λ (l : Line). cond (is_asked l) 1 0) l ls

asked_one : (worker : ℕ) (order : Order) (xs ms : List Line) → orders_asked (xs ++ line.Asked worker order ∷ ms) ≡ 0 → ⊥
asked_one worker order [] ms none = let more = one_more (line.Asked worker order) ms in absurd (omega (arith, none, more))
asked_one worker order (x ∷ xs) ms none =
    let more = one_more x (xs ++ line.Asked worker order ∷ ms) in
    asked_one worker order xs ms (omega (arith, none, more))

-- an order, and what it is answered there
abbrev asked_lines : Rules → List Line → ℕ → Order → List Line
asked_lines rules before worker order = step_lines worker order (replies_in (state_after rules before) order)

no_orders : (rules : Rules) (lines rest all : List Line) → IsLegal rules all → all ≡ lines ++ rest → lines ≢ [] → orders_asked lines ≡ 0 → (IsInsideHead lines → ⊥) → IsHead rules lines
no_orders rules [] rest all legal is some none outside = absurd (some refl)
no_orders rules (l ∷ lines) rest all nothing is some none outside = absurd (cc is)
no_orders rules (l ∷ lines) rest all (headed h) is some none outside = go (cut (begun_lines h.head h.parts) (line.State state.Go ∷ []) (l ∷ lines) rest (sym h.spelled ∙ is))
  where
    last : (ms : List Line) → [] ≡ ms ++ rest → ms ≡ []
    last [] e = refl
    last (m ∷ ms) e = absurd (cc e)

    go : Cut (begun_lines h.head h.parts) (line.State state.Go ∷ []) (l ∷ lines) rest → IsHead rules (l ∷ lines)
    go (inside more e) = absurd (outside (begun_part h.head h.parts (l ∷ lines) more some e))
    go (past m ms e f) =
        let first : line.State state.Go ≡ m = cc f in
        let end = last ms (cc f) in
        record {
          head = h.head;
          parts = h.parts;
          spelled = e ∙ (λ i. begun_lines h.head h.parts ++ sym first i ∷ end i);
          told = h.told;
        }
no_orders rules (l ∷ lines) rest all (step before worker order legal e) is some none outside =
    go (λ more f. no_orders rules (l ∷ lines) more before legal f some none outside) (cut before (asked_lines rules before worker order) (l ∷ lines) rest (sym e ∙ is))
  where
    go : ((more : List Line) → before ≡ (l ∷ lines) ++ more → IsHead rules (l ∷ lines)) → Cut before (asked_lines rules before worker order) (l ∷ lines) rest → IsHead rules (l ∷ lines)
    go shorter (inside more f) = shorter more f
    go shorter (past m ms f g) =
        let first : line.Asked worker order ≡ m = cc g in
        absurd (asked_one worker order before ms (sym (ap orders_asked (f ∙ (λ i. before ++ sym first i ∷ ms))) ∙ none))

-- a head has no order
head_asks_none : (head : Head) (parts : List StatePart) → orders_asked (head_lines head parts) ≡ 0
head_asks_none head parts =
    let more = one_more (line.State (state.Head head)) (map (λ (part : StatePart). line.State (state.Part part)) parts ++ line.State state.Go ∷ []) in
    let rest = each parts in
    omega (arith, more, rest)
  where
    each : (parts : List StatePart) → orders_asked (map (λ (part : StatePart). line.State (state.Part part)) parts ++ line.State state.Go ∷ []) ≡ 0
    each [] = let more = one_more (line.State state.Go) [] in omega (arith, more)
    each (part ∷ parts) =
        let more = one_more (line.State (state.Part part)) (map (λ (part : StatePart). line.State (state.Part part)) parts ++ line.State state.Go ∷ []) in
        let rest = each parts in
        omega (arith, more, rest)

-- ---- in the words of the judge

pub is_head : (now : Hearing) → (0 < length now.lines) × (orders_asked now.lines ≡ 0) → HasPresent now.rules now.lines → IsHead now.rules now.lines
is_head now none has =
    no_orders now.rules now.lines has.begins.rest (now.lines ++ has.begins.rest) has.begins.legal refl
    (λ e. let long = ap length e in let some = none.0 in omega (arith, long, some)) none.1 has.outside

pub head_asks : (rules : Rules) (lines : List Line) → IsHead rules lines → (0 < length lines) × (orders_asked lines ≡ 0)
head_asks rules lines h = (let long = ap length h.spelled in omega (arith, long), ap orders_asked h.spelled ∙ head_asks_none h.head h.parts)

pub head_present : GoesByParts → (rules : Rules) (lines : List Line) → IsHead rules lines → HasPresent rules lines
head_present goes_on rules lines h = legal_present goes_on rules lines (headed h)

-- what a legal history leads to is there
pub legal_is : (lines : List Line) (now : Hearing) (r : Replay) (o : Option ℕ) → seen r lines ≡ now → HasPresent now.rules now.lines → IsLegal now.rules now.lines
    → Stands lines r o → r.core ≡ snapshot_of (state_after now.rules now.lines)
legal_is lines now r o same has legal stands =
    let lacks = present_lacks lines now r o same has stands in
    let all : IsLegal r.core.rules (lines ++ []) =
    subst (IsLegal r.core.rules) (sym (append-nil lines)) (subst (λ (x : Hearing). IsLegal x.rules x.lines) (sym same) legal) in
    let w = lacks.due [] all in
    let none : due_lines r ≡ [] = front (due_lines r) w.0 w.1 in
    lacks.leads.stands ∙ ap (λ ls. snapshot_of (state_after r.core.rules (lines ++ ls))) none
    ∙ ap (λ ls. snapshot_of (state_after r.core.rules ls)) (append-nil lines) ∙ ap (λ (x : Hearing). snapshot_of (state_after x.rules x.lines)) same
  where
    front : (xs ys : List Line) → [] ≡ xs ++ ys → xs ≡ []
    front [] ys e = refl
    front (x ∷ xs) ys e = absurd (cc e)
