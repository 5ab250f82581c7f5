-- What became of orders that were handed in together.
use Rattle.std.proofs.Common.{◌≡◌, ℕ, ◌+◌, ◌<◌, ◌≤◌, Bool, false, List, [], ◌∷◌, ◌++◌, map, take, length}
use Rattle.std.proofs.Common.{refl, sym, ap, ◌∙◌, arith, subst}
use Rattle.fl_counter.specs.Answered.{Answered, AreAnsweredLast, AreBehind, IsAnsweredLast, answered, answered_by, step_lines}
use Rattle.fl_counter.specs.Asked.{Orders}
use Rattle.fl_history.specs.declared.history.Line.{Line}
use Rattle.fl_log.specs.Growing.{Grows}
use Rattle.fl_order.specs.declared.order.Order.{Order}
use Rattle.fl_order.specs.declared.told.Told.{Told}
use Rattle.fl_workers.proofs.Growing.{none_more, one_more, then_more}
use Rattle.fl_workers.proofs.WorkedLemmas.{begins_as}
use Rattle.fl_workers.specs.Inside.Lists.{entries_for}
use Rattle.fl_workers.specs.Sent.{HasSent, entry, replies_to}
use Rattle.fl_workers.specs.Worked.{AreInTurn, AreStored, HasWorked, Outcome, Shows, Standing, answers, entry_for}
use Rattle.fl_workers.specs.Worked.{handed, order_of, some_refused}

-- the first of these orders were handed in, each with its list of replies
abbrev handed_each : Orders → List (List Told) → List Outcome
handed_each orders [] = []
handed_each [] (tolds ∷ lists) = []
handed_each (order ∷ orders) (tolds ∷ lists) = handed order tolds ∷ handed_each orders lists

each_order : (orders : Orders) (lists : List (List Told))
    → take (length lists) orders ≡ map order_of (handed_each orders lists)
each_order orders [] = refl
each_order [] (tolds ∷ lists) = refl
each_order (order ∷ orders) (tolds ∷ lists) = ap (λ l. order ∷ l) (each_order orders lists)

each_answer : (before now : List Answered) (orders : Orders) (lists : List (List Told)) (count count_now : ℕ)
    → AreAnsweredLast before orders lists now → count_now ≡ count + length lists
    → Grows before now count count_now (answers (handed_each orders lists))
each_answer before now orders [] count count_now same counted =
    let still : count ≡ count_now = omega arith in
    subst (λ l. Grows before l count count_now []) (sym same)
    (subst (λ n. Grows before before count n []) still (none_more before count))
each_answer before now [] (tolds ∷ lists) count count_now never counted = absurd never
each_answer before now (order ∷ orders) (tolds ∷ lists) count count_now last counted =
    let it = answered order tolds in
    then_more before last.0 now count (count + 1) count_now (it ∷ []) (answers (handed_each orders lists))
    (one_more before last.1.others last.0 count (count + 1) it last.1.had last.1.is refl)
    (each_answer last.0 now orders lists (count + 1) count_now last.2 (omega arith))

-- each stands behind what was handed in and shown before
each_behind : (shows : Shows) (worker : ℕ) (from to : List Line) (had : List Answered) (orders : Orders)
    (lists : List (List Told)) → AreBehind worker from orders lists to
    → AreInTurn shows worker from had (handed_each orders lists) to
each_behind shows worker from to had orders [] same = begins_as from to same
each_behind shows worker from to had [] (tolds ∷ lists) never = absurd never
each_behind shows worker from to had (order ∷ orders) (tolds ∷ lists) behind = (
  behind.0,
  behind.1,
  each_behind shows worker (behind.0 ++ step_lines worker order tolds) to (had ++ answered order tolds ∷ []) orders lists
      behind.2,
)

-- the lines of all that were handed in are stored, or none was
each_stored : (p q : Standing) (orders : Orders) (lists : List (List Told)) → q.worker ≡ p.worker
    → AreAnsweredLast p.answered orders lists q.answered → (0 < length lists → AreStored q)
    → (length lists ≡ 0 → q.stored ≡ p.stored) → AreStored p → AreStored q
each_stored p q orders [] worker same stored no_more before =
    (λ i. answered_by (worker i) (no_more refl i)) ∙ before ∙ sym same
each_stored p q orders (tolds ∷ lists) worker last stored no_more before = stored (omega arith)

none_refused : (orders : Orders) (lists : List (List Told)) → false ≡ some_refused (handed_each orders lists)
none_refused orders [] = refl
none_refused [] (tolds ∷ lists) = refl
none_refused (order ∷ orders) (tolds ∷ lists) = none_refused orders lists

each_entry : (author : ℕ) (before now : List Answered) (orders : Orders) (lists : List (List Told))
    → AreAnsweredLast before orders lists now
    → entries_for author lists ≡ map (entry_for author) (handed_each orders lists)
each_entry author before now orders [] last = refl
each_entry author before now [] (tolds ∷ lists) never = absurd never
each_entry author before now (order ∷ orders) (tolds ∷ lists) last =
    ap (λ l. entry author (replies_to tolds) ∷ l) (each_entry author last.0 now orders lists last.2)

pub few_lists : (before now : List Answered) (orders : Orders) (lists : List (List Told))
    → AreAnsweredLast before orders lists now → length lists ≤ length orders
few_lists before now orders [] last = omega arith
few_lists before now [] (tolds ∷ lists) never = absurd never
few_lists before now (order ∷ orders) (tolds ∷ lists) last =
    let rest = few_lists last.0 now orders lists last.2 in omega arith

-- the first of these orders were handed in together, and the replies to each were given or lost
pub lists_handed : (shows : Shows) (orders : Orders) (lists : List (List Told)) (p q : Standing) (lost : Bool)
    → q.worker ≡ p.worker → q.count ≡ p.count + length lists
    → AreAnsweredLast p.answered orders lists q.answered → AreBehind p.worker p.front orders lists q.front
    → (0 < length lists → AreStored q) → (length lists ≡ 0 → q.stored ≡ p.stored)
    → HasSent (entries_for p.sent.author lists) p.sent q.sent lost
    → HasWorked shows (take (length lists) orders) p q false lost
lists_handed shows orders lists p q lost worker more last behind stored no_more sent = record {
  outcomes = handed_each orders lists;
  are = each_order orders lists;
  worker = worker;
  handed = each_answer p.answered q.answered orders lists p.count q.count last more;
  shown = λ had among. each_behind shows p.worker p.front q.front had orders lists behind;
  stored = each_stored p q orders lists worker last stored no_more;
  refused = none_refused orders lists;
  sent = subst (λ owed. HasSent owed p.sent q.sent lost)
      (each_entry p.sent.author p.answered q.answered orders lists last) sent;
}

-- an order was handed in alone, and the replies to it were given or lost
pub one_handed : (shows : Shows) (order : Order) (tolds gave : List Told) (p q : Standing) (lost : Bool)
    → q.worker ≡ p.worker → q.count ≡ p.count + 1 → IsAnsweredLast p.answered order tolds q.answered
    → AreBehind p.worker p.front (order ∷ []) (tolds ∷ []) q.front → AreStored q → gave ≡ tolds
    → HasSent (entry p.sent.author (replies_to gave) ∷ []) p.sent q.sent lost
    → HasWorked shows (order ∷ []) p q false lost
one_handed shows order tolds gave p q lost worker more last behind stored same sent =
    lists_handed shows (order ∷ []) (tolds ∷ []) p q lost worker more (q.answered, last, refl) behind (λ some. stored)
    (λ none. absurd (omega (arith, none)))
    (subst (λ l. HasSent (entry p.sent.author (replies_to l) ∷ []) p.sent q.sent lost) same sent)
