-- No order leaves two owners with conflicting locks.
use Rattle.std.proofs.Common.{◌≡◌, ℕ, Bool, true, false, cond, ◌||◌, Option, Some, None, Result, Ok, Err, List, [], ◌∷◌, ◌++◌}
use Rattle.std.proofs.Common.{length, nat_le, refl, sym, ap, ◌∙◌, subst}
use Rattle.fl_core.specs.Effects.{locked, unlocked, dropped, locks_answered, by_reply, made}
use Rattle.fl_core.specs.Replies.{ask_error, at_once_unless, room_reply, reply_to, setlk_reply, setlkw_reply}
use Rattle.fl_core.specs.Settling.{Present, present, IsSettled, done, one, grant_reply}
use Rattle.fl_core.specs.State.{Snapshot}
use Rattle.fl_core.specs.Step.{next}
use Rattle.fl_core.proofs.Settlings.{is_settled}
use Rattle.fl_core.proofs.Steps as steps
use Rattle.fl_dir.specs.OpenFiles.{has_open_file, without_file}
use Rattle.fl_dir.specs.Replies.{unless_error}
use Rattle.fl_order.specs.declared.errno.Errno.{Errno}
use Rattle.fl_order.specs.declared.errno.Errno.TheVariants.{EAGAIN, EDEADLK, ENOLCK}
use Rattle.fl_order.specs.declared.order.LockAsk.{LockAsk}
use Rattle.fl_order.specs.declared.order.Op.{Op}
use Rattle.fl_order.specs.declared.order.Op.TheVariants.{Flush, Release, Setlk, Setlkw}
use Rattle.fl_order.specs.declared.order.Order.{Order}
use Rattle.fl_order.specs.declared.told.Answer.{Answer}
use Rattle.fl_order.specs.declared.told.Told.{Told}
use Rattle.fl_marks.specs.Change.{cleared, after_change, after_changes}
use Rattle.fl_marks.specs.Conflict.{conflicts, IsLawful}
use Rattle.fl_marks.specs.Marking.{Marking, Stroke, stroked}
use Rattle.fl_marks.specs.Runs.{without_node}
use Rattle.fl_marks.specs.declared.lock.Class.{Class}
use Rattle.fl_marks.specs.declared.lock.Class.TheVariants.{Flock, Record}
use Rattle.fl_marks.specs.declared.lock.Mark.{Mark}
use Rattle.fl_waiting.specs.Circle.{is_deadlock}
use Rattle.fl_waiting.specs.LockRequest.{mark_of, stroke_of}
use Rattle.fl_waiting.specs.Waiting.{AllWait, AreApart, conflicts_with_held, is_blocked, is_parked}
use Rattle.fl_waiting.specs.declared.parked.Request.{Request}
use Rattle.fl_waiting.specs.declared.rules.Rules.{Rules}

-- ---- what was tested

either_false : (x y : Bool) → (x || y) ≡ false → x ≡ false
either_false true y e = e
either_false false y e = refl

-- a lock that needn't wait conflicts with none that is held
free_of_held : (rules : Rules) (m : Marking) (older : List Request) (s : Stroke) (mark : Option Mark)
    → is_blocked rules m older s mark ≡ false → conflicts_with_held m s mark ≡ false
free_of_held rules m older s None free = refl
free_of_held rules m older s (Some mark) free = either_false _ _ free

-- a SETLK that is granted met no lock that is held
set_free : (e : Option Errno) (held : Bool) (room : Result Answer Errno) (answer : Answer)
    → unless_error e (cond held (Err EAGAIN) room) ≡ Ok answer → held ≡ false
set_free (Some e) held room answer is = absurd (cc is)
set_free None true room answer is = absurd (cc is)
set_free None false room answer is = refl

-- a SETLKW that is granted at once needn't wait
waits_not : (e : Option Errno) (blocked deadlock full : Bool) (room : Result Answer Errno) (x y : Errno) (answer : Answer)
    → at_once_unless e (cond blocked (cond deadlock (Some (Err x)) (cond full (Some (Err y)) None)) (Some room)) ≡ Some (Ok answer)
    → blocked ≡ false
waits_not (Some e) blocked deadlock full room x y answer is = absurd (cc is)
waits_not None true true full room x y answer is = absurd (cc is)
waits_not None true false true room x y answer is = absurd (cc is)
waits_not None true false false room x y answer is = absurd (cc is)
waits_not None false deadlock full room x y answer is = refl

setlk_free : (p : Snapshot) (node : ℕ) (ask : LockAsk) (answer : Answer)
    → setlk_reply p.rules.runs p.view.directory p.marking node ask ≡ Ok answer
    → conflicts_with_held p.marking (stroke_of node ask) (mark_of ask) ≡ false
setlk_free p node ask answer =
    let s = stroke_of node ask in
    set_free (ask_error p.view.directory node ask) (conflicts_with_held p.marking s (mark_of ask)) (room_reply p.rules.runs p.marking s) answer

setlkw_free : (p : Snapshot) (node : ℕ) (ask : LockAsk) (answer : Answer)
    → setlkw_reply p.rules p.view p.marking node ask ≡ Some (Ok answer)
    → conflicts_with_held p.marking (stroke_of node ask) (mark_of ask) ≡ false
setlkw_free p node ask answer is =
    let s = stroke_of node ask in
    free_of_held p.rules p.marking p.view.parked s (mark_of ask)
    (waits_not (ask_error p.view.directory node ask) (is_blocked p.rules p.marking p.view.parked s (mark_of ask))
    (is_deadlock p.rules p.marking p.view.parked s (mark_of ask)) (nat_le p.rules.parked (length p.view.parked))
    (room_reply p.rules.runs p.marking s) EDEADLK ENOLCK answer is)

same_reply : {x y : Result Answer Errno} → Some x ≡ Some y → x ≡ y
same_reply e = cc e

-- ---- changes of locks

-- what a table of locks says of its changes
pub record Keeps : Type 0 where
  pub struck : (m : Marking) (s : Stroke) → ((mark : Mark) → s.mark ≡ Some mark → conflicts m s.key s.start s.end mark.kind ≡ false)
      → IsLawful m → IsLawful (stroked s m)
  pub cleared : (m : Marking) (node : ℕ) → IsLawful m → IsLawful (without_node node m)

module _ (keeps : Keeps) where
  tested : (m : Marking) (s : Stroke) → conflicts_with_held m s s.mark ≡ false → IsLawful m → IsLawful (stroked s m)
  tested m s free = keeps.struck m s (λ mark is. sym (ap (conflicts_with_held m s) is) ∙ free)

  -- a lock request, if it met no lock that is held where it was granted
  lawful_locked : (node : ℕ) (ask : LockAsk) (reply : Result Answer Errno) (m : Marking)
      → ((answer : Answer) → reply ≡ Ok answer → conflicts_with_held m (stroke_of node ask) (mark_of ask) ≡ false)
      → IsLawful m → IsLawful (after_changes (locked node ask reply) m)
  lawful_locked node ask (Ok answer) m free = tested m (stroke_of node ask) (free answer refl)
  lawful_locked node ask (Err e) m free = λ lawful. lawful

  lawful_unlocked : (class : Class) (node owner : ℕ) (m : Marking) → IsLawful m → IsLawful (after_change (unlocked class node owner) m)
  lawful_unlocked class node owner m =
      tested m (record { key = record { class = class; node = node; owner = owner }; start = 0; end = 9223372036854775807; mark = None }) refl

  lawful_released : (keeps_open unlocks : Bool) (node owner : ℕ) (m : Marking) → IsLawful m
      → IsLawful (after_changes (cond keeps_open [] (cleared node ∷ []) ++ dropped unlocks node owner) m)
  lawful_released true false node owner m lawful = lawful
  lawful_released true true node owner m lawful = lawful_unlocked Flock node owner m lawful
  lawful_released false false node owner m lawful = keeps.cleared m node lawful
  lawful_released false true node owner m lawful =
      keeps.cleared (after_changes (dropped true node owner) m) node (lawful_unlocked Flock node owner m lawful)

  -- ---- an order with its own reply

  lawful_answered : (p : Snapshot) (order : Order) (op : Op) (reply : Result Answer Errno)
      → reply_to p.rules p.view p.marking order op ≡ Some reply → IsLawful p.marking
      → IsLawful (after_changes (locks_answered order op reply p.view.directory) p.marking)
  lawful_answered p order (Release fh unlocks owner) (Ok answer) is lawful =
      lawful_released (has_open_file (without_file p.view.directory fh) order.node) unlocks order.node owner p.marking lawful
  lawful_answered p order (Flush fh owner) (Ok answer) is lawful = lawful_unlocked Record order.node owner p.marking lawful
  lawful_answered p order (Setlk ask) reply is lawful =
      lawful_locked order.node ask reply p.marking (λ answer ok. setlk_free p order.node ask answer (same_reply is ∙ ok)) lawful
  lawful_answered p order (Setlkw ask) reply is lawful =
      lawful_locked order.node ask reply p.marking
      (λ answer ok. setlkw_free p order.node ask answer (is ∙ ap (λ r. Some r) ok)) lawful
  lawful_answered p order op (Err e) is lawful = lawful
  lawful_answered p order op (Ok answer) is lawful = lawful

  lawful_own : (p : Snapshot) (order : Order) (own : Option (Result Answer Errno)) → own ≡ reply_to p.rules p.view p.marking order order.op
      → IsLawful p.marking → IsLawful (made (by_reply order own) p).marking
  lawful_own p order None is lawful = lawful
  lawful_own p order (Some reply) is lawful = lawful_answered p order order.op reply (sym is) lawful

  -- ---- settling

  lawful_settled : (rules : Rules) {s after : Present} {tolds : List Told} → IsSettled rules s tolds after → IsLawful s.marking
      → IsLawful after.marking
  lawful_settled rules (done all) lawful = lawful
  lawful_settled rules (one {m} older r younger stands all free rest) lawful =
      lawful_settled rules rest
      (lawful_locked r.node r.ask (grant_reply rules.runs m r) m
      (λ answer is. free_of_held rules m older (stroke_of r.node r.ask) (mark_of r.ask) free) lawful)

  -- ---- a whole step

  module _ (p : Snapshot) (order : Order) (all : AllWait p.rules p.marking p.view.parked) (apart : AreApart p.view.parked)
      (lawful : IsLawful p.marking) where
    lawful_fresh : is_parked order.unique p.view.parked ≡ false → IsLawful (next p order).marking
    lawful_fresh fresh =
        let own = reply_to p.rules p.view p.marking order order.op in
        let s = made (by_reply order own) p in
        let q = steps.after_ends order own s in
        let k : steps.IsFresh order own p s q = record { fresh = fresh; own_is = refl; s_is = refl; q_is = refl; all = all; apart = apart } in
        subst (λ (t : Snapshot). IsLawful t.marking) (sym (steps.next_is order own p s q k))
        (lawful_settled p.rules (is_settled p.rules (present q.marking q.view.parked)) (lawful_own p order own refl lawful))

    pub lawful_next : IsLawful (next p order).marking
    lawful_next = go (is_parked order.unique p.view.parked) refl
      where
        go : (b : Bool) → is_parked order.unique p.view.parked ≡ b → IsLawful (next p order).marking
        go true taken = subst (λ (t : Snapshot). IsLawful t.marking) (sym (steps.refused_next order p taken all)) lawful
        go false fresh = lawful_fresh fresh
