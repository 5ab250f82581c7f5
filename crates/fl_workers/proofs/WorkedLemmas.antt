-- What became of orders at one seat, and what was given to be sent for them.
use Rattle.std.proofs.Common.{◌≡◌, ℕ, Bool, true, false, List, [], ◌∷◌, ◌++◌}
use Rattle.std.proofs.Common.{refl, sym, ap, ◌∙◌, subst, append_assoc, append-nil}
use Rattle.std.specs.Prelude.{◌||◌}
use Rattle.std.proofs.lemmas.List.{map-append}
use mathlib.Core.List.{IsPrefix}
use Rattle.fl_counter.specs.Answered.{Answered, answered, answered_by, step_lines}
use Rattle.fl_counter.specs.Asked.{Orders}
use Rattle.fl_history.specs.declared.history.Line.{Line}
use Rattle.fl_log.specs.Growing.{Grows}
use Rattle.fl_order.specs.Order.{kind_of, only_reads}
use Rattle.fl_order.specs.declared.order.Order.{Order}
use Rattle.fl_order.specs.declared.told.Told.{Told}
use Rattle.fl_transport.specs.Response.{lost}
use Rattle.fl_workers.proofs.Growing.{among_more, none_more, prefix_trans, then_more}
use Rattle.fl_workers.proofs.SentLemmas.{each_sent, neither, none_sent}
use Rattle.fl_workers.specs.Sent.{HasSent, entry, replies_of, replies_to}
use Rattle.fl_workers.specs.Worked.{AreInTurn, AreStored, HasDone, HasWorked, Outcome, Shows, Standing, answer_of}
use Rattle.fl_workers.specs.Worked.{answers, entry_for, handed, is_refused, looked, order_of, refused, some_refused}

or_assoc : (a b c : Bool) → (a || (b || c)) ≡ ((a || b) || c)
or_assoc true b c = refl
or_assoc false b c = refl

begins_itself : (lines : List Line) → IsPrefix lines lines
begins_itself lines = ([], append-nil lines)

-- the same, by another name of it
pub begins_as : (lines now : List Line) → now ≡ lines → IsPrefix lines now
begins_as lines now same = subst (IsPrefix lines) (sym same) (begins_itself lines)

answers_append : (xs ys : List Outcome) → answers (xs ++ ys) ≡ answers xs ++ answers ys
answers_append [] ys = refl
answers_append (x ∷ xs) ys =
    ap (λ l. answer_of x ++ l) (answers_append xs ys) ∙ sym (append_assoc (answer_of x) (answers xs) (answers ys))

refused_append : (xs ys : List Outcome) → some_refused (xs ++ ys) ≡ (some_refused xs || some_refused ys)
refused_append [] ys = refl
refused_append (x ∷ xs) ys =
    ap (λ b. is_refused x || b) (refused_append xs ys) ∙ or_assoc (is_refused x) (some_refused xs) (some_refused ys)

-- ---- where each stands

-- what stands behind a history stands behind its beginnings
turn_from : (shows : Shows) (worker : ℕ) (from mid to : List Line) (had : List Answered) (os : List Outcome)
    → IsPrefix from mid → AreInTurn shows worker mid had os to → AreInTurn shows worker from had os to
turn_from shows worker from mid to had [] begins turn = prefix_trans from mid to begins turn
turn_from shows worker from mid to had (handed order tolds ∷ os) begins turn =
    (turn.0, prefix_trans from mid turn.0 begins turn.1, turn.2)
turn_from shows worker from mid to had (looked order result at ∷ os) begins turn =
    (turn.0, prefix_trans from mid at begins turn.1, turn.2, turn.3, turn.4)
turn_from shows worker from mid to had (refused order ∷ os) begins turn =
    turn_from shows worker from mid to had os begins turn

-- these in turn, and then those
turn_then : (shows : Shows) (worker : ℕ) (from mid to : List Line) (had : List Answered) (xs ys : List Outcome)
    → AreInTurn shows worker from had xs mid → AreInTurn shows worker mid (had ++ answers xs) ys to
    → AreInTurn shows worker from had (xs ++ ys) to
turn_then shows worker from mid to had [] ys first second =
    turn_from shows worker from mid to had ys first
    (subst (λ l. AreInTurn shows worker mid l ys to) (append-nil had) second)
turn_then shows worker from mid to had (handed order tolds ∷ xs) ys first second =
    let it = answered order tolds ∷ [] in (
      first.0,
      first.1,
      turn_then shows worker (first.0 ++ step_lines worker order tolds) mid to (had ++ it) xs ys first.2
          (subst (λ l. AreInTurn shows worker mid l ys to) (sym (append_assoc had it (answers xs))) second),
    )
turn_then shows worker from mid to had (looked order result at ∷ xs) ys first second = (
  first.0,
  first.1,
  first.2,
  first.3,
  turn_then shows worker at mid to had xs ys first.4 second,
)
turn_then shows worker from mid to had (refused order ∷ xs) ys first second =
    turn_then shows worker from mid to had xs ys first second

-- ---- what was done

-- nothing yet
pub none_worked : (shows : Shows) (here : Standing) (any lost : Bool) → any ≡ false
    → HasWorked shows [] here here any lost
none_worked shows here any lost none = record {
  outcomes = [];
  are = refl;
  worker = refl;
  handed = none_more here.answered here.count;
  shown = λ had among. begins_itself here.front;
  stored = λ before. before;
  refused = none;
  sent = none_sent here.sent lost;
}

-- these orders, and then those
pub then_worked : (shows : Shows) (xs ys : Orders) (p q r : Standing) (any more all lost more_lost all_lost : Bool)
    → (all ≡ (any || more)) × (all_lost ≡ (lost || more_lost)) → HasWorked shows xs p q any lost
    → HasWorked shows ys q r more more_lost → HasWorked shows (xs ++ ys) p r all all_lost
then_worked shows xs ys p q r any more all lost more_lost all_lost both first second = record {
  outcomes = first.outcomes ++ second.outcomes;
  are = (λ i. first.are i ++ second.are i) ∙ sym (map-append order_of first.outcomes second.outcomes);
  worker = second.worker ∙ first.worker;
  handed = subst (Grows p.answered r.answered p.count r.count) (sym (answers_append first.outcomes second.outcomes))
      (then_more p.answered q.answered r.answered p.count q.count r.count (answers first.outcomes)
      (answers second.outcomes) first.handed second.handed);
  shown = λ had among.
      turn_then shows p.worker p.front q.front r.front had first.outcomes second.outcomes (first.shown had among)
      (subst (λ n. AreInTurn shows n q.front (had ++ answers first.outcomes) second.outcomes r.front) first.worker
      (second.shown (had ++ answers first.outcomes) (first.handed.among had among)));
  stored = λ before. second.stored (first.stored before);
  refused = both.0 ∙ (λ i. first.refused i || second.refused i) ∙ sym (refused_append first.outcomes second.outcomes);
  sent = each_sent entry_for first.outcomes second.outcomes p.sent q.sent r.sent lost more_lost all_lost
      (λ none. neither lost more_lost (sym both.1 ∙ none)) first.sent second.sent;
}

-- ---- one order, or none

-- nothing was taken
none_handed : (p q : Standing) → (q.count ≡ p.count) × (q.answered ≡ p.answered)
    → Grows p.answered q.answered p.count q.count []
none_handed p q kept = subst (λ n. Grows p.answered q.answered p.count n []) (sym kept.0)
    (subst (λ l. Grows p.answered l p.count p.count []) (sym kept.1) (none_more p.answered p.count))

-- what is stored stays so
still_stored : (p q : Standing) → q.worker ≡ p.worker → q.answered ≡ p.answered → q.stored ≡ p.stored → AreStored p
    → AreStored q
still_stored p q worker same stored before = (λ i. answered_by (worker i) (stored i)) ∙ before ∙ sym same

-- it was looked for one, and nothing could be shown
pub looked_in_vain : (shows : Shows) (p q : Standing) → q.worker ≡ p.worker
    → (q.count ≡ p.count) × (q.answered ≡ p.answered) → q.stored ≡ p.stored → IsPrefix p.front q.front
    → q.sent ≡ p.sent → HasWorked shows [] p q false false
looked_in_vain shows p q worker kept stored front same = record {
  outcomes = [];
  are = refl;
  worker = worker;
  handed = none_handed p q kept;
  shown = λ had among. front;
  stored = still_stored p q worker kept.1 stored;
  refused = refl;
  sent = subst (λ sent. HasSent [] p.sent sent false) (sym same) (none_sent p.sent false);
}

-- it was looked for
pub one_looked : (shows : Shows) (order : Order) (told : Told) (p q : Standing) (lost : Bool)
    → q.worker ≡ p.worker → (q.count ≡ p.count) × (q.answered ≡ p.answered) → q.stored ≡ p.stored
    → IsPrefix p.front q.front → only_reads order.op ≡ true → IsPrefix p.answered (answered_by p.worker q.front)
    → (told.unique ≡ order.unique) × shows q.front order told.result
    → HasSent (entry p.sent.author (replies_to (told ∷ [])) ∷ []) p.sent q.sent lost
    → HasWorked shows (order ∷ []) p q false lost
one_looked shows order told p q lost worker kept stored front reads begins shown sent = record {
  outcomes = looked order told.result q.front ∷ [];
  are = refl;
  worker = worker;
  handed = none_handed p q kept;
  shown = λ had among. (
    reads,
    front,
    among_more had p.answered (answered_by p.worker q.front) begins among,
    shown.1,
    begins_itself q.front,
  );
  stored = still_stored p q worker kept.1 stored;
  refused = refl;
  sent = subst (λ (u : ℕ). HasSent (entry p.sent.author (replies_to (record { unique = u; result = told.result } ∷ []))
      ∷ []) p.sent q.sent lost) shown.0 sent;
}

-- it was refused
pub one_refused : (shows : Shows) (order : Order) (p q : Standing) (any gone : Bool) → any ≡ true
    → q.worker ≡ p.worker → (q.count ≡ p.count) × (q.answered ≡ p.answered) → q.stored ≡ p.stored → q.front ≡ p.front
    → HasSent (entry p.sent.author (replies_of (lost (kind_of order.op) order.unique)) ∷ []) p.sent q.sent gone
    → HasWorked shows (order ∷ []) p q any gone
one_refused shows order p q any gone is worker kept stored front sent = record {
  outcomes = refused order ∷ [];
  are = refl;
  worker = worker;
  handed = none_handed p q kept;
  shown = λ had among. begins_as p.front q.front front;
  stored = still_stored p q worker kept.1 stored;
  refused = is;
  sent = sent;
}

-- ---- a worker, and the orders that its end took

pub none_done : (shows : Shows) (taken : Orders) (here : Standing) (any lost : Bool) → any ≡ false
    → HasDone shows taken taken here here any lost
none_done shows taken here any lost none =
    record { took = []; is = sym (append-nil taken); worked = none_worked shows here any lost none }

pub done_more : (shows : Shows) (taken before after batch : Orders) (p q r : Standing)
    (any more all lost more_lost all_lost : Bool) → (all ≡ (any || more)) × (all_lost ≡ (lost || more_lost))
    → HasDone shows taken before p q any lost → after ≡ before ++ batch
    → HasWorked shows batch q r more more_lost → HasDone shows taken after p r all all_lost
done_more shows taken before after batch p q r any more all lost more_lost all_lost both so_far next now = record {
  took = so_far.took ++ batch;
  is = next ∙ ap (λ l. l ++ batch) so_far.is ∙ append_assoc taken so_far.took batch;
  worked = then_worked shows so_far.took batch p q r any more all lost more_lost all_lost both so_far.worked now;
}
