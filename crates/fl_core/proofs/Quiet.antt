-- An order that is told an error itself changes nothing.
use Rattle.std.proofs.Common.{◌≡◌, ◌≢◌, ℕ, zero, suc, ◌<◌, false, Option, Some, None, Result, Ok, Err, List, [], ◌∷◌}
use Rattle.std.proofs.Common.{◌++◌, slice_index_or, length, refl, sym, ap, ◌∙◌, subst, arith}
use Rattle.std.specs.List.{AllByRecursion}
use Rattle.fl_core.specs.Effects.{answered, by_reply, leaving, made}
use Rattle.fl_core.specs.First.{own}
use Rattle.fl_core.specs.Inside.Parts.{left_by, left_if, with_parked}
use Rattle.fl_core.specs.Replies.{ended_by, ended_if, ending_of}
use Rattle.fl_counter.specs.Tolds.{own_replies}
use Rattle.fl_core.specs.Settling.{Settled}
use Rattle.fl_core.specs.State.{Snapshot, View}
use Rattle.fl_core.specs.Step.{settling, with_present, ChangesNothing}
use Rattle.fl_waiting.specs.Waiting.{is_parked, AllWait}
use Rattle.fl_core.specs.declared.ending.Ending.{Ending}
use Rattle.fl_waiting.specs.declared.parked.Request.{Request}
use Rattle.fl_core.proofs.Effects.{AreOthers}
use Rattle.fl_core.proofs.Settlings.{settled_none}
use Rattle.fl_core.proofs.Steps.{both_others, settled_others, ended_apart, ends_alike, made_by}
use Rattle.fl_core.proofs.Taken.{all_passing, none_of}
use Rattle.fl_order.specs.declared.errno.Errno.{Errno}
use Rattle.fl_order.specs.declared.order.Op.{Op}
use Rattle.fl_order.specs.declared.order.Op.TheVariants.{Lookup, Release}
use Rattle.fl_order.specs.declared.order.Order.{Order}
use Rattle.fl_order.specs.declared.told.Answer.{Answer}
use Rattle.fl_order.specs.declared.told.Told.{Told}

-- among replies of other uniques there is none of this one
none_told : (order : Order) (result : Result Answer Errno) (tolds : List Told) → AreOthers order.unique tolds
    → (k : ℕ) → k < length tolds → slice_index_or tolds k (own order result) ≡ own order result → ⊥
none_told order result [] others k below is = absurd (omega (arith, below))
none_told order result (t ∷ tolds) others zero below is = others.0 (ap (λ (t : Told). t.unique) is)
none_told order result (t ∷ tolds) others (suc k) below is = none_told order result tolds others.1 k (omega (arith, below)) is

-- the only reply is this one
only_told : (order : Order) (given result : Result Answer Errno) (k : ℕ) → k < 1
    → slice_index_or (own order given ∷ []) k (own order result) ≡ own order result → given ≡ result
only_told order given result zero below is = ap (λ (t : Told). t.result) is
only_told order given result (suc k) below is = absurd (omega (arith, below))

-- an order that is told nothing but its own reply, if all is as before
pub alone_quiet : (order : Order) (p : Snapshot) (reply : Option (Result Answer Errno)) → ChangesNothing p order (own_replies order reply) p
alone_quiet order p None e there = absurd (omega (arith, there.1))
alone_quiet order p (Some result) e there = (ap (λ r. own order r ∷ []) (only_told order result (Err e) there.0 there.1 there.2), refl)

all_left_if : (P : Request → Type 0) (ending : Option Ending) (parked : List Request) → AllByRecursion P parked → AllByRecursion P (left_if ending parked)
all_left_if P None parked all = all
all_left_if P (Some ending) parked all = all_passing P _ parked all

-- an error changes nothing
pub error_leaves : (order : Order) (e : Errno) (v : View) (op : Op) → answered order op (Err e) v ≡ leaving v
error_leaves order e v (Lookup name) = refl
error_leaves order e v op = refl

-- and ends no request
error_ends : (e : Errno) (op : Op) → ending_of op (Some (Err e)) ≡ None
error_ends e (Release fh unlocks owner) = refl
error_ends e op = refl

module _ (order : Order) (p : Snapshot) (fresh : is_parked order.unique p.view.parked ≡ false) (waiting : AllWait p.rules p.marking p.view.parked) where
  abbrev after_own : Option (Result Answer Errno) → Snapshot
  after_own reply = made (by_reply order reply) p

  abbrev after_ends : Option (Result Answer Errno) → Snapshot
  after_ends reply = with_parked (left_by (after_own reply).view.parked order.op reply) (after_own reply)

  -- the order's replies, and what is there after it
  abbrev Quiet : Option (Result Answer Errno) → Snapshot → Snapshot → Type 0
  Quiet reply s q =
      ChangesNothing p order ((own_replies order reply ++ ended_by s.view.parked order.op reply) ++ (settling q).tolds) (with_present (settling q).present q)

  others : AllByRecursion (λ (r : Request). r.unique ≢ order.unique) p.view.parked
  others = none_of order.unique p.view.parked fresh

  refused : (f : Errno) → Quiet (Some (Err f)) (after_own (Some (Err f))) (after_ends (Some (Err f)))
  refused f =
      subst (λ xs. ChangesNothing p order xs (with_present (settling q).present q)) (sym told_is)
      (subst (λ (t : Snapshot). ChangesNothing p order (own order (Err f) ∷ []) t) (sym next_is) (alone_quiet order p (Some (Err f))))
    where
      s : Snapshot
      s = after_own (Some (Err f))

      q : Snapshot
      q = after_ends (Some (Err f))

      s_is : s ≡ p
      s_is = ap (λ e. made_by e p) (error_leaves order f p.view order.op)

      q_is : q ≡ p
      q_is = ap (λ ending. with_parked (left_if ending s.view.parked) s) (error_ends f order.op) ∙ s_is

      told_is : (own order (Err f) ∷ ended_if (ending_of order.op (Some (Err f))) s.view.parked) ++ (settling q).tolds ≡ own order (Err f) ∷ []
      told_is =
          ap (λ ending. (own order (Err f) ∷ ended_if ending s.view.parked) ++ (settling q).tolds) (error_ends f order.op)
          ∙ ap (λ (t : Snapshot). own order (Err f) ∷ (settling t).tolds) q_is
          ∙ ap (λ (r : Settled). own order (Err f) ∷ r.tolds) (settled_none p.rules p.marking p.view.parked waiting)

      next_is : with_present (settling q).present q ≡ p
      next_is =
          ap (λ (t : Snapshot). with_present (settling t).present t) q_is
          ∙ ap (λ (r : Settled). with_present r.present p) (settled_none p.rules p.marking p.view.parked waiting)

  -- those that are told beside an order which is granted
  rest_others : (answer : Answer)
      → AreOthers order.unique (ended_by p.view.parked order.op (Some (Ok answer)) ++ (settling (after_ends (Some (Ok answer)))).tolds)
  rest_others answer =
      let q = after_ends (Some (Ok answer)) in
      both_others order.unique _ _ (ended_apart order.unique p.view.parked others (ending_of order.op (Some (Ok answer))))
      (settled_others p.rules order.unique q.marking q.view.parked
      (all_left_if (λ (r : Request). r.unique ≢ order.unique) (ending_of order.op (Some (Ok answer))) p.view.parked others))

  granted : (answer : Answer) → Quiet (Some (Ok answer)) (after_own (Some (Ok answer))) (after_ends (Some (Ok answer)))
  granted answer e there = absurd (go there.0 there.1 there.2)
    where
      rest : List Told
      rest = ended_by p.view.parked order.op (Some (Ok answer)) ++ (settling (after_ends (Some (Ok answer)))).tolds

      go : (k : ℕ) → k < length (own order (Ok answer) ∷ rest) → slice_index_or (own order (Ok answer) ∷ rest) k (own order (Err e)) ≡ own order (Err e) → ⊥
      go zero below is = let same : ◌≡◌ {A = Result Answer Errno} (Ok answer) (Err e) = ap (λ (t : Told). t.result) is in absurd (cc same)
      go (suc k) below is = none_told order (Err e) rest (rest_others answer) k (omega (arith, below)) is

  silent : AreOthers order.unique (settling (after_ends None)).tolds → Quiet None (after_own None) (after_ends None)
  silent settled e there =
      absurd (none_told order (Err e) _ (both_others order.unique _ _ (subst (AreOthers order.unique) (sym (ends_alike order p None))
      (ended_apart order.unique p.view.parked others (ending_of order.op None))) settled) there.0 there.1 there.2)

  quiet : (reply : Option (Result Answer Errno)) → (reply ≡ None → AreOthers order.unique (settling (after_ends reply)).tolds)
      → Quiet reply (after_own reply) (after_ends reply)
  quiet None settled = silent (settled refl)
  quiet (Some (Ok answer)) settled = granted answer
  quiet (Some (Err f)) settled = refused f

  pub step_quiet : (reply : Option (Result Answer Errno)) (s q : Snapshot) → s ≡ made (by_reply order reply) p
      → q ≡ with_parked (left_by s.view.parked order.op reply) s
      → (reply ≡ None → AreOthers order.unique (settling q).tolds) → Quiet reply s q
  step_quiet reply s q s_is q_is settled =
      subst (λ (s : Snapshot). (q : Snapshot) → q ≡ with_parked (left_by s.view.parked order.op reply) s
      → (reply ≡ None → AreOthers order.unique (settling q).tolds) → Quiet reply s q) (sym s_is)
      (λ q q_is settled. subst (λ (q : Snapshot). (reply ≡ None → AreOthers order.unique (settling q).tolds) → Quiet reply (after_own reply) q) (sym q_is)
      (quiet reply) settled) q q_is settled
