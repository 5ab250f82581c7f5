-- An order is taken in stages.
use Rattle.std.proofs.Common.{◌≡◌, ◌≢◌, ℕ, ◌==◌, nat_lt, Bool, true, false, cond, not, ◌&&◌, ◌||◌, Option, Some, None}
use Rattle.std.proofs.Common.{is_some, option_map, Result, Ok, Err, List, [], ◌∷◌, ◌++◌, refl, sym, ap, ◌∙◌, subst}
use Rattle.std.proofs.Common.{arith}
use Rattle.std.proofs.lemmas.Bool.Decides.{nat_tests}
use Rattle.fl_waiting.specs.Circle.{is_deadlock, is_record}
use Rattle.fl_core.specs.Effects.{locked, unlocked, dropped, locks_answered, request_of, waited_for, with_waiter}
use Rattle.fl_core.specs.Effects.{by_reply, made}
use Rattle.fl_core.specs.Inside.Parts.{left_if}
use Rattle.fl_waiting.specs.LockRequest.{is_flock, key_of, start_of, end_of, mark_of, stroke_of}
use Rattle.fl_core.specs.Replies.{at_once_unless, picks, reply_to}
use Rattle.fl_core.specs.Settling.{Present, present, IsSettled, done, one, grant_reply}
use Rattle.fl_core.specs.Stages.{asker_of, asked_by, wanted_by, GainsAtMost, OwnStage, changes, parks, leave, granted}
use Rattle.fl_core.specs.Stages.{AreLater, none, more}
use Rattle.fl_core.specs.Stages.{IsTakenInStages}
use Rattle.fl_core.specs.State.{Snapshot}
use Rattle.fl_core.specs.Step.{next}
use Rattle.fl_waiting.specs.Waiting.{owner_of, is_parked, AllWait, AreApart}
use Rattle.fl_core.specs.declared.ending.Ending.{Ending}
use Rattle.fl_waiting.specs.declared.parked.Request.{Request}
use Rattle.fl_waiting.specs.declared.rules.Rules.{Rules}
use Rattle.fl_core.proofs.Settlings.{is_settled}
use Rattle.fl_core.proofs.Steps as steps
use Rattle.fl_core.proofs.Firsts.{CirclesInWords}
use Rattle.fl_dir.specs.Directory.{Listing}
use Rattle.fl_dir.specs.OpenFiles.{has_open_file, without_file}
use Rattle.fl_order.specs.declared.errno.Errno.{Errno}
use Rattle.fl_order.specs.declared.told.Answer.{Answer}
use Rattle.fl_order.specs.declared.told.Told.{Told}
use Rattle.fl_order.specs.declared.order.LockAsk.{LockAsk}
use Rattle.fl_order.specs.declared.order.Op.{Op}
use Rattle.fl_order.specs.declared.order.Op.TheVariants.{Release, Setlk, Setlkw}
use Rattle.fl_order.specs.declared.order.Order.{Order}
use Rattle.fl_marks.specs.declared.lock.Class.{Class}
use Rattle.fl_marks.specs.declared.lock.Class.TheVariants.{Record, Flock}
use Rattle.fl_marks.specs.declared.lock.Key.{Key}
use Rattle.fl_marks.specs.declared.lock.Kind.{Kind}
use Rattle.fl_marks.specs.declared.lock.Kind.TheVariants.{Read, Write}
use Rattle.fl_marks.specs.declared.lock.Mark.{Mark}
use Rattle.fl_marks.specs.Change.{Change, struck, cleared, after_change, after_changes}
use Rattle.fl_marks.specs.Conflict.{owner_conflicts}
use Rattle.fl_marks.specs.Marking.{Marking, Stroke, stroked}
use Rattle.fl_marks.specs.Runs.{without_node}

-- ---- who asks

below_two : (k : ℕ) → nat_lt k 2 ≡ ((k == 0) || (k == 1))
below_two k = grind (arith, nat_tests)

wanted_of_parts : (r : Request) (flock read write : Bool)
    → option_map owner_of (cond flock None
    (option_map (λ (mark : Mark). record { key = key_of r.node r.ask; start = start_of r.ask; end = end_of r.ask; kind = mark.kind })
    (cond read (Some (record { kind = Read; pid = r.ask.pid })) (cond write (Some (record { kind = Write; pid = r.ask.pid })) None))))
    ≡ cond (not flock && (read || write)) (Some r.ask.owner) None
wanted_of_parts r true read write = refl
wanted_of_parts r false true write = refl
wanted_of_parts r false false true = refl
wanted_of_parts r false false false = refl

-- the owner whose record lock a request wants is the one who asks for it
pub wanted_is_asked : (r : Request) → wanted_by r ≡ asker_of r.ask
wanted_is_asked r =
    wanted_of_parts r (is_flock r.ask) (r.ask.kind == 0) (r.ask.kind == 1)
    ∙ ap (λ b. cond (not (is_flock r.ask) && b) (Some r.ask.owner) None) (sym (below_two r.ask.kind))

no_mark : (read write : Bool) (x y : Mark) → (read || write) ≡ false → cond read (Some x) (cond write (Some y) None) ≡ None
no_mark true write x y e = absurd (cc e)
no_mark false true x y e = absurd (cc e)
no_mark false false x y e = refl

-- ---- who gains by a change of locks

either : (x y c : Bool) → (x ≡ true → y ≡ true) → (x || c) ≡ true → (y || c) ≡ true
either true y c f h = ap (λ b. b || c) (f refl)
either false true c f h = refl
either false false c f h = h

raised : (b x y c : Bool) → (b ≡ true → x ≡ true → y ≡ true) → (b && (x || c)) ≡ true → (b && (y || c)) ≡ true
raised true x y c f h = either x y c (f refl) h
raised false x y c f h = absurd (cc h)

no_flock : (c : Class) → is_record c ≡ true → c ≢ Flock
no_flock Record e same = cc same
no_flock Flock e same = cc e

-- changes that give no mark
abbrev take_away : List Change → Bool
take_away [] = true
take_away (struck s ∷ earlier) = not (is_some s.mark) && take_away earlier
take_away (cleared node ∷ earlier) = take_away earlier

none_given : (mark : Option Mark) (rest : Bool) → (not (is_some mark) && rest) ≡ true → (mark ≡ None) × (rest ≡ true)
none_given None rest e = (refl, e)
none_given (Some k) rest e = absurd (cc e)

-- what a table of locks says of its changes
pub record Counts : Type 0 where
  pub others : (m : Marking) (s : Stroke) (key : Key) (start end : ℕ) (kind : Kind) (owner : ℕ) → owner ≢ s.key.owner
      → owner_conflicts (stroked s m) key start end kind owner ≡ owner_conflicts m key start end kind owner
  pub class : (m : Marking) (s : Stroke) (key : Key) (start end : ℕ) (kind : Kind) (owner : ℕ) → key.class ≢ s.key.class
      → owner_conflicts (stroked s m) key start end kind owner ≡ owner_conflicts m key start end kind owner
  pub unlocked : (m : Marking) (s : Stroke) (key : Key) (start end : ℕ) (kind : Kind) (owner : ℕ) → s.mark ≡ None
      → owner_conflicts (stroked s m) key start end kind owner ≡ true → owner_conflicts m key start end kind owner ≡ true
  pub cleared : (m : Marking) (node : ℕ) (key : Key) (start end : ℕ) (kind : Kind) (owner : ℕ)
      → owner_conflicts (without_node node m) key start end kind owner ≡ true → owner_conflicts m key start end kind owner ≡ true

module _ (count : Counts) (rules : Rules) where
  gains_by_other : (g : Option ℕ) (m : Marking) (s : Stroke) → g ≡ Some s.key.owner → GainsAtMost rules g m (stroked s m)
  gains_by_other g m s is w q other h = raised (is_record w.wish.key.class) _ _ _
      (λ _ k. sym (count.others m s w.wish.key w.wish.start w.wish.end w.wish.kind q (λ same. other (is ∙ ap (λ n. Some n) (sym same)))) ∙ k) h

  gains_by_flock : (g : Option ℕ) (m : Marking) (s : Stroke) → s.key.class ≡ Flock → GainsAtMost rules g m (stroked s m)
  gains_by_flock g m s is w q other h = raised (is_record w.wish.key.class) _ _ _
      (λ k c. sym (count.class m s w.wish.key w.wish.start w.wish.end w.wish.kind q (λ same. no_flock w.wish.key.class k (same ∙ is))) ∙ c) h

  gains_by_unlock : (g : Option ℕ) (m : Marking) (s : Stroke) → s.mark ≡ None → GainsAtMost rules g m (stroked s m)
  gains_by_unlock g m s is w q other h = raised (is_record w.wish.key.class) _ _ _ (λ _ c. count.unlocked m s w.wish.key w.wish.start w.wish.end w.wish.kind q is c) h

  gains_by_clear : (g : Option ℕ) (m : Marking) (node : ℕ) → GainsAtMost rules g m (without_node node m)
  gains_by_clear g m node w q other h = raised (is_record w.wish.key.class) _ _ _ (λ _ c. count.cleared m node w.wish.key w.wish.start w.wish.end w.wish.kind q c) h

  -- a lock request that is answered so
  gains_locked : (node : ℕ) (ask : LockAsk) (reply : Result Answer Errno) (m : Marking)
      → GainsAtMost rules (asker_of ask) m (after_changes (locked node ask reply) m)
  gains_locked node ask (Err e) m = λ w q other h. h
  gains_locked node ask (Ok answer) m = go (is_flock ask) refl (nat_lt ask.kind 2) refl
    where
      go : (flock : Bool) → is_flock ask ≡ flock → (b : Bool) → nat_lt ask.kind 2 ≡ b → GainsAtMost rules (asker_of ask) m (stroked (stroke_of node ask) m)
      go true f b e = gains_by_flock (asker_of ask) m (stroke_of node ask) (ap (λ c. cond c Flock Record) f)
      go false f true e =
          gains_by_other (asker_of ask) m (stroke_of node ask) (λ i. cond (not (f i) && e i) (Some ask.owner) None)
      go false f false e =
          gains_by_unlock (asker_of ask) m (stroke_of node ask) (no_mark (ask.kind == 0) (ask.kind == 1) _ _ (sym (below_two ask.kind) ∙ e))

  gains_unlocked : (class : Class) (node owner : ℕ) (m : Marking) → GainsAtMost rules None m (after_change (unlocked class node owner) m)
  gains_unlocked class node owner m = gains_by_unlock None m
      (record { key = record { class = class; node = node; owner = owner }; start = 0; end = 9223372036854775807; mark = None }) refl

  gains_released : (keeps unlocks : Bool) (node owner : ℕ) (m : Marking)
      → GainsAtMost rules None m (after_changes (cond keeps [] (cleared node ∷ []) ++ dropped unlocks node owner) m)
  gains_released true false node owner m = λ w q other h. h
  gains_released true true node owner m = gains_unlocked Flock node owner m
  gains_released false false node owner m = gains_by_clear None m node
  gains_released false true node owner m = λ w q other h.
      gains_unlocked Flock node owner m w q other (gains_by_clear None (after_changes (dropped true node owner) m) node w q other h)

  -- nobody gains by them
  gains_taken : (g : Option ℕ) (changes : List Change) (m : Marking) → take_away changes ≡ true → GainsAtMost rules g m (after_changes changes m)
  gains_taken g [] m away = λ w q other h. h
  gains_taken g (struck s ∷ earlier) m away = λ w q other h.
      let parts = none_given s.mark _ away in
      gains_taken g earlier m parts.1 w q other (gains_by_unlock g (after_changes earlier m) s parts.0 w q other h)
  gains_taken g (cleared node ∷ earlier) m away = λ w q other h.
      gains_taken g earlier m away w q other (gains_by_clear g (after_changes earlier m) node w q other h)

  -- an order that is answered so
  gains_answered : (order : Order) (op : Op) (reply : Result Answer Errno) (d : Listing) (m : Marking)
      → GainsAtMost rules (asked_by op) m (after_changes (locks_answered order op reply d) m)
  gains_answered order (Release fh unlocks owner) (Ok answer) d m =
      gains_released (has_open_file (without_file d fh) order.node) unlocks order.node owner m
  gains_answered order (Setlk ask) reply d m = gains_locked order.node ask reply m
  gains_answered order (Setlkw ask) reply d m = gains_locked order.node ask reply m
  gains_answered order op (Err e) d m = λ w q other h. h
  gains_answered order op (Ok answer) d m = gains_taken (asked_by op) (locks_answered order op (Ok answer) d) m refl

  -- ---- stages that come later

  ends_stage : (ending : Option Ending) (m : Marking) (parked : List Request) (after : Present)
      → AreLater rules (present m (left_if ending parked)) after → AreLater rules (present m parked) after
  ends_stage None m parked after later = later
  ends_stage (Some ending) m parked after later = more (leave (λ r. not (picks ending r)) refl refl) later

  -- a request that settling grants
  gains_granted : (m : Marking) (r : Request) → GainsAtMost rules (wanted_by r) m (after_changes (locked r.node r.ask (grant_reply rules.runs m r)) m)
  gains_granted m r =
      subst (λ g. GainsAtMost rules g m (after_changes (locked r.node r.ask (grant_reply rules.runs m r)) m)) (sym (wanted_is_asked r))
      (gains_locked r.node r.ask (grant_reply rules.runs m r) m)

  settled_stages : {s after : Present} {tolds : List Told} → IsSettled rules s tolds after → AreLater rules s after
  settled_stages (done all) = none
  settled_stages (one {m} older r younger stands all free rest) = more (granted older r younger stands refl (gains_granted m r)) (settled_stages rest)

-- ---- the stages

module _ (count : Counts) (deadlock_words : CirclesInWords) where
  -- a request that has no reply yet closes no circle
  waits_well : (e : Option Errno) (in_conflict deadlock full : Bool) (room : Result Answer Errno) (x y : Errno)
      → at_once_unless e (cond in_conflict (cond deadlock (Some (Err x)) (cond full (Some (Err y)) None)) (Some room)) ≡ None → deadlock ≡ false
  waits_well None true false full room x y is = refl
  waits_well None true true full room x y is = absurd (cc is)
  waits_well None false deadlock full room x y is = absurd (cc is)
  waits_well (Some e) in_conflict deadlock full room x y is = absurd (cc is)

  unanswered_stage : (order : Order) (p : Snapshot) (op : Op) → asked_by op ≡ asked_by order.op → reply_to p.rules p.view p.marking order op ≡ None
      → OwnStage p.rules order (present p.marking p.view.parked) (present p.marking (with_waiter order (waited_for op) p.view.parked))
  unanswered_stage order p (Setlkw ask) same is =
      let r = request_of order ask in
      let none : is_deadlock p.rules p.marking p.view.parked (stroke_of r.node r.ask) (mark_of r.ask) ≡ false = waits_well _ _ _ _ _ _ _ is in
      parks r (wanted_is_asked r ∙ same) (λ c. cc (sym none ∙ (deadlock_words p.rules p.marking p.view.parked r).1 c)) refl refl
  unanswered_stage order p op same is = changes (λ w q other h. h) refl

  own_stage : (order : Order) (p : Snapshot) (own : Option (Result Answer Errno)) → own ≡ reply_to p.rules p.view p.marking order order.op
      → OwnStage p.rules order (present p.marking p.view.parked)
      (present (made (by_reply order own) p).marking (made (by_reply order own) p).view.parked)
  own_stage order p None is = unanswered_stage order p order.op refl (sym is)
  own_stage order p (Some reply) is = changes (gains_answered count p.rules order order.op reply p.view.directory p.marking) refl

  module _ (p : Snapshot) (order : Order) (all : AllWait p.rules p.marking p.view.parked) (apart : AreApart p.view.parked) where
    abbrev To : Snapshot → Type 0
    To t = IsTakenInStages p.rules order (present p.marking p.view.parked) (present t.marking t.view.parked)

    taken_fresh : is_parked order.unique p.view.parked ≡ false → To (next p order)
    taken_fresh fresh =
        let own = reply_to p.rules p.view p.marking order order.op in
        let s = made (by_reply order own) p in
        let q = steps.after_ends order own s in
        let k : steps.IsFresh order own p s q = record { fresh = fresh; own_is = refl; s_is = refl; q_is = refl; all = all; apart = apart } in
        subst To (sym (steps.next_is order own p s q k)) (record {
          between = present s.marking s.view.parked;
          own = own_stage order p own refl;
          later = ends_stage count p.rules _ s.marking s.view.parked _ (settled_stages count p.rules (is_settled p.rules (present q.marking q.view.parked)));
        })

    taken_refused : is_parked order.unique p.view.parked ≡ true → To (next p order)
    taken_refused taken =
        subst To (sym (steps.refused_next order p taken all)) (record {
          between = present p.marking p.view.parked;
          own = changes (λ w q other h. h) refl;
          later = none;
        })

    pub taken_in_stages : To (next p order)
    taken_in_stages = go (is_parked order.unique p.view.parked) refl
      where
        go : (b : Bool) → is_parked order.unique p.view.parked ≡ b → To (next p order)
        go true = taken_refused
        go false = taken_fresh
