-- What became of the orders that each worker took.
use Rattle.std.proofs.Common.{◌≡◌, ℕ, Bool, true, false, true≢false, List, [], ◌∷◌, ◌++◌, All, length, map, sum_by}
use Rattle.std.proofs.Common.{refl, sym, ap, ◌∙◌, subst, arith, append_assoc}
use Rattle.std.specs.Prelude.{◌||◌, flat_map, if◌then◌else◌, nat_le}
use Rattle.std.proofs.lemmas.List.{length-map}
use Rattle.std.proofs.lemmas.List.Elements.{All-cons, All-head, All-nil, All-tail}
use Rattle.std.proofs.lemmas.List.Sums.{sum_by-append, sum_by-cons}
use mathlib.Core.List.{IsPrefix}
use mathlib.Core.List.Sublistᴰ as sublist
use Rattle.fl_record.specs.Seats.{Place}
use Rattle.fl_board.specs.Shown.{front_of}
use Rattle.fl_board.specs.Shown.{HasAllOf}
use Rattle.fl_counter.specs.Answered.{Answered, answered, answered_by, step_lines}
use Rattle.fl_desk.specs.Answered.{IsAnsweredAfter}
use Rattle.fl_history.specs.declared.history.Line.{Line}
use Rattle.fl_intake.specs.Often.{Weight}
use Rattle.fl_log.specs.Appended.{Appended, HasAll as HasAllEntries}
use Rattle.fl_log.specs.Growing.{Grows}
use Rattle.fl_pool.specs.Working.{IsDone as IsDoneAt, Work as WorkAt, some_is}
use Rattle.fl_serve.specs.Inside.Seated.{by_place}
use Rattle.fl_serve.proofs.GrowingLemmas.{all_grown, by_begins, just_these}
use Rattle.fl_serve.specs.Serve.{IsAnswered, IsKeptIn, Part, orders_of}
use Rattle.fl_waiting.specs.declared.rules.Rules.{Rules}
use Rattle.fl_workers.specs.Sent.{entries_of}
use Rattle.fl_workers.specs.Worked.{AreInTurn, Outcome, Shows, answers, entry_for, handed, looked, order_of, refused}
use Rattle.fl_workers.specs.Worked.{some_refused}
use Rattle.fl_workers.specs.declared.entry.ReplyEntry.{ReplyEntry}

abbrev pub Work : Type 0
Work = WorkAt Place

abbrev pub IsDone : Rules → Work → Type 0
IsDone rules work = IsDoneAt by_place (IsAnsweredAfter rules) work

abbrev pub author_of : ReplyEntry → ℕ
author_of e = e.author

prefix_trans : (xs ys zs : List Line) → IsPrefix xs ys → IsPrefix ys zs → IsPrefix xs zs
prefix_trans xs ys zs p q = (p.0 ++ q.0, sym (append_assoc xs p.0 q.0) ∙ ap (λ l. l ++ q.0) p.1 ∙ q.1)

-- what stands in turn up to some history does so up to a longer one
turn_to : (shows : Shows) (worker : ℕ) (from to on : List Line) (had : List Answered) (os : List Outcome)
    → IsPrefix to on → AreInTurn shows worker from had os to → AreInTurn shows worker from had os on
turn_to shows worker from to on had [] more turn = prefix_trans from to on turn more
turn_to shows worker from to on had (handed order tolds ∷ os) more turn = (
  turn.0,
  turn.1,
  turn_to shows worker (turn.0 ++ step_lines worker order tolds) to on (had ++ answered order tolds ∷ []) os more turn.2,
)
turn_to shows worker from to on had (looked order result at ∷ os) more turn =
    (turn.0, turn.1, turn.2, turn.3, turn_to shows worker at to on had os more turn.4)
turn_to shows worker from to on had (refused order ∷ os) more turn = turn_to shows worker from to on had os more turn

-- the history begins with all that was handed in or shown
front_begins : (history : List Line) (place : Place) → HasAllOf history place → IsPrefix (front_of place) history
front_begins history place has =
    elim (nat_le (length place.handed) (length place.seen))
    as (λ b. IsPrefix (if b then place.seen else place.handed) history) [ true ↦ has.saw | false ↦ has.had ]

module _ (rules : Rules) where
  -- a worker, with what became of its orders
  abbrev part_of : (work : Work) → IsDone rules work → Part
  part_of work done = record { worker = work.seat.worker; outcomes = done.outcomes }

  abbrev pub parts_of : (works : List Work) → All (IsDone rules) works → List Part
  parts_of [] each = []
  parts_of (w ∷ works) each =
      part_of w (All-head (IsDone rules) w works each) ∷ parts_of works (All-tail (IsDone rules) w works each)

  pub same_workers : (works : List Work) (each : All (IsDone rules) works)
      → map (λ (p : Part). p.worker) (parts_of works each) ≡ map (λ (p : Place). p.worker) (map (λ (w : Work). w.seat) works)
  same_workers [] each = refl
  same_workers (w ∷ works) each = ap (λ l. w.seat.worker ∷ l) (same_workers works (All-tail (IsDone rules) w works each))

  -- they took the orders that were worked on
  pub same_orders : (weight : Weight) (works : List Work) (each : All (IsDone rules) works)
      → sum_by weight (flat_map orders_of (parts_of works each)) ≡ sum_by (λ (w : Work). sum_by weight w.orders) works
  same_orders weight [] each = refl
  same_orders weight (w ∷ works) each =
      let done = All-head (IsDone rules) w works each in
      let rest = parts_of works (All-tail (IsDone rules) w works each) in
      omega (
        arith,
        sum_by-append weight (map order_of done.outcomes) (flat_map orders_of rest),
        ap (sum_by weight) done.are,
        same_orders weight works (All-tail (IsDone rules) w works each),
        sum_by-cons (λ (w : Work). sum_by weight w.orders) w works,
      )

  -- the history answers those that were handed in, and has all that was shown
  answered_one : (history : List Line) (w : Work) (done : IsDone rules w) → HasAllOf history w.seat
      → IsAnswered rules history (part_of w done)
  answered_one history w done has = record {
    handed = just_these (answered_by w.seat.worker w.seat.handed) (answered_by w.seat.worker history) w.seat.count
        (answers done.outcomes) done.handed has.answered has.count;
    shown = turn_to (IsAnsweredAfter rules) w.seat.worker [] (front_of w.seat) history [] done.outcomes
        (front_begins history w.seat has) (done.shown [] (sublist.refl []));
  }

  pub answered_each : (history : List Line) (works : List Work) (each : All (IsDone rules) works)
      → All (HasAllOf history) (map (λ (w : Work). w.seat) works)
      → All (IsAnswered rules history) (parts_of works each)
  answered_each history [] each has = All-nil (IsAnswered rules history)
  answered_each history (w ∷ works) each has =
      let P = HasAllOf history in
      let places = map (λ (w : Work). w.seat) works in
      All-cons (IsAnswered rules history) _ _
      (answered_one history w (All-head (IsDone rules) w works each) (All-head P w.seat places has))
      (answered_each history works (All-tail (IsDone rules) w works each) (All-tail P w.seat places has))

  -- what is stored has those that were handed in
  kept_one : (history stored : List Line) (w : Work) (done : IsDone rules w) → HasAllOf history w.seat
      → IsPrefix w.seat.stored stored → IsKeptIn stored (part_of w done)
  kept_one history stored w done has begins = record {
    front = w.seat.stored;
    begins = begins;
    all = done.stored refl ∙ all_grown (answered_by w.seat.worker w.seat.handed) (answered_by w.seat.worker history)
        w.seat.count (answers done.outcomes) done.handed has.answered has.count;
  }

  pub kept_each : (history stored : List Line) (works : List Work) (each : All (IsDone rules) works)
      → All (HasAllOf history) (map (λ (w : Work). w.seat) works)
      → All (λ (p : Place). IsPrefix p.stored stored) (map (λ (w : Work). w.seat) works)
      → All (IsKeptIn stored) (parts_of works each)
  kept_each history stored [] each has begin = All-nil (IsKeptIn stored)
  kept_each history stored (w ∷ works) each has begin =
      let P = HasAllOf history in
      let Q : Place → Type 0 = λ p. IsPrefix p.stored stored in
      let places = map (λ (w : Work). w.seat) works in
      All-cons (IsKeptIn stored) _ _
      (kept_one history stored w (All-head (IsDone rules) w works each) (All-head P w.seat places has)
      (All-head Q w.seat places begin))
      (kept_each history stored works (All-tail (IsDone rules) w works each) (All-tail P w.seat places has)
      (All-tail Q w.seat places begin))

  -- they handed in as many as their places count
  pub as_many_handed : (works : List Work) (each : All (IsDone rules) works)
      → sum_by (λ (p : Part). length (answers p.outcomes)) (parts_of works each)
      ≡ sum_by (λ (p : Place). p.count) (map (λ (w : Work). w.seat) works)
  as_many_handed [] each = refl
  as_many_handed (w ∷ works) each =
      let done = All-head (IsDone rules) w works each in
      let others = All-tail (IsDone rules) w works each in
      omega (
        arith,
        sum_by-cons (λ (p : Part). length (answers p.outcomes)) (part_of w done) (parts_of works others),
        sum_by-cons (λ (p : Place). p.count) w.seat (map (λ (w : Work). w.seat) works),
        done.handed.counted,
        as_many_handed works others,
      )

  -- some order of theirs was refused if some worker says so
  pub same_refused : (works : List Work) (each : All (IsDone rules) works)
      → some_is (map (λ (w : Work). w.any) works) ≡ some_is (map (λ (p : Part). some_refused p.outcomes) (parts_of works each))
  same_refused [] each = refl
  same_refused (w ∷ works) each =
      (λ i. (All-head (IsDone rules) w works each).refused i || same_refused works (All-tail (IsDone rules) w works each) i)

  -- ---- what they gave to be sent

  both_false : (a b : Bool) → (a || b) ≡ false → (a ≡ false) × (b ≡ false)
  both_false true b e = absurd (true≢false e)
  both_false false b e = (refl, e)

  gave_one : (log : List ReplyEntry) (w : Work) (done : IsDone rules w) → w.lost ≡ false → HasAllEntries author_of log w.sent
      → (entries_of w.seat.worker log ≡ map (entry_for w.seat.worker) done.outcomes)
      × (w.sent.count ≡ length done.outcomes)
  gave_one log w done none has =
      let worker = w.seat.worker in
      let grown = subst (Grows [] (entries_of worker w.sent.upto) 0 w.sent.count) (done.sent.all none) done.sent.grown in
      let count : length (entries_of worker log) ≡ w.sent.count = subst (λ n. length (entries_of n log) ≡ w.sent.count) done.sent.author has.count in (
        just_these (entries_of worker w.sent.upto) (entries_of worker log) w.sent.count (map (entry_for worker) done.outcomes)
            grown (by_begins author_of worker w.sent.upto log has.had) count,
        omega (arith, grown.counted, length-map done.outcomes (entry_for worker)),
      )

  pub gave_each : (log : List ReplyEntry) (works : List Work) (each : All (IsDone rules) works)
      → some_is (map (λ (w : Work). w.lost) works) ≡ false
      → All (HasAllEntries author_of log) (map (λ (w : Work). w.sent) works)
      → All (λ (p : Part). entries_of p.worker log ≡ map (entry_for p.worker) p.outcomes) (parts_of works each)
      × (sum_by (λ (a : Appended ReplyEntry). a.count) (map (λ (w : Work). w.sent) works)
      ≡ sum_by (λ (p : Part). length p.outcomes) (parts_of works each))
  gave_each log [] each none has = (All-nil _, refl)
  gave_each log (w ∷ works) each none has =
      let neither = both_false w.lost (some_is (map (λ (w : Work). w.lost) works)) none in
      let done = All-head (IsDone rules) w works each in
      let others = All-tail (IsDone rules) w works each in
      let P = HasAllEntries author_of log in
      let sents = map (λ (w : Work). w.sent) works in
      let Q : Part → Type 0 = λ p. entries_of p.worker log ≡ map (entry_for p.worker) p.outcomes in
      let this = gave_one log w done neither.0 (All-head P w.sent sents has) in
      let those = gave_each log works others neither.1 (All-tail P w.sent sents has) in (
        All-cons Q (part_of w done) (parts_of works others) this.0 those.0,
        omega (
          arith,
          sum_by-cons (λ (a : Appended ReplyEntry). a.count) w.sent sents,
          sum_by-cons (λ (p : Part). length p.outcomes) (part_of w done) (parts_of works others),
          this.1,
          those.1,
        ),
      )
