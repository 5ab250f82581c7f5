-- No request passes an older one under fair rules.
use Rattle.std.proofs.Common.{◌≡◌, ◌≢◌, ℕ, zero, suc, ◌<◌, nat_le, Bool, true, false, cond, ◌&&◌, ◌||◌, Option, Some}
use Rattle.std.proofs.Common.{None, option_map, Result, Ok, Err, List, [], ◌∷◌, length, get_or, refl, sym, ap, ◌∙◌}
use Rattle.std.proofs.Common.{arith}
use Rattle.std.specs.List.{Contains, list_any}
use Rattle.fl_core.specs.Effects.{request_of}
use Rattle.fl_core.specs.Replies.{ask_error, at_once_unless, own_reply, reply_to, room_reply, taken_reply}
use Rattle.fl_core.specs.State.{Snapshot}
use Rattle.fl_order.specs.declared.errno.Errno.{Errno}
use Rattle.fl_order.specs.declared.errno.Errno.TheVariants.{EDEADLK, ENOLCK}
use Rattle.fl_order.specs.declared.order.LockAsk.{LockAsk}
use Rattle.fl_order.specs.declared.order.Op.{Op}
use Rattle.fl_order.specs.declared.order.Op.TheVariants.{Setlkw}
use Rattle.fl_order.specs.declared.order.Order.{Order}
use Rattle.fl_order.specs.declared.told.Answer.{Answer}
use Rattle.fl_marks.specs.declared.lock.Mark.{Mark}
use Rattle.fl_marks.specs.Marking.{Marking, Stroke}
use Rattle.fl_waiting.specs.Circle.{is_deadlock}
use Rattle.fl_waiting.specs.LockRequest.{is_flock, mark_of, stroke_of}
use Rattle.fl_waiting.specs.Waiting.{Wish, wish_on, wish_of, wishes, older_blocks, is_parked, is_blocked, waits}
use Rattle.fl_waiting.specs.declared.parked.Request.{Request}
use Rattle.fl_waiting.specs.declared.rules.Rules.{Rules}

or_true : (b c : Bool) → c ≡ true → (b || c) ≡ true
or_true true c e = refl
or_true false c e = e

-- one that is among them is found
found : {A : Type 0} (test : A → Bool) (xs : List A) (x : A) → Contains xs x → test x ≡ true → list_any test xs ≡ true
found test xs x among passes = go xs among.0 among.1 among.2
  where
    go : (ys : List _) (i : ℕ) → i < length ys → get_or ys i x ≡ x → list_any test ys ≡ true
    go [] i below at = absurd (omega (arith, below))
    go (y ∷ ys) zero below at = ap (λ b. b || list_any test ys) (ap test at ∙ passes)
    go (y ∷ ys) (suc i) below at = or_true (test y) _ (go ys i (omega (arith, below)) at)

-- behind one that goes first a request has to wait
behind_waits : (rules : Rules) (m : Marking) (parked : List Request) (s : Stroke) (w older : Wish) → rules.fair ≡ true → Contains (wishes parked) older
    → older_blocks w older ≡ true → (flock : Bool) (mark : Option Mark) → cond flock None (option_map (wish_on s) mark) ≡ Some w
    → is_blocked rules m parked s mark ≡ true
behind_waits rules m parked s w older fair among first true mark wants = absurd (cc wants)
behind_waits rules m parked s w older fair among first false None wants = absurd (cc wants)
behind_waits rules m parked s w older fair among first false (Some k) wants =
    let same : w ≡ wish_on s k = cc wants in
    or_true _ _ (λ i. fair i && found (older_blocks (wish_on s k)) (wishes parked) older among (ap (λ v. older_blocks v older) (sym same) ∙ first) i)

-- and so does one that is parked behind it
pub stays_behind : (rules : Rules) (m : Marking) (parked : List Request) (r : Request) (w older : Wish) → rules.fair ≡ true → wish_of r ≡ Some w
    → Contains (wishes parked) older → older_blocks w older ≡ true → waits rules m parked r ≡ true
stays_behind rules m parked r w older fair wants among first =
    behind_waits rules m parked (stroke_of r.node r.ask) w older fair among first (is_flock r.ask) (mark_of r.ask) wants

-- one that has to wait is not granted
waits_ungranted : (e : Option Errno) (conflict deadlock full : Bool) (room : Result Answer Errno) (x y : Errno) (answer : Answer) → conflict ≡ true
    → at_once_unless e (cond conflict (cond deadlock (Some (Err x)) (cond full (Some (Err y)) None)) (Some room)) ≡ Some (Ok answer) → ⊥
waits_ungranted (Some e) conflict deadlock full room x y answer waits is = cc is
waits_ungranted None true true full room x y answer waits is = cc is
waits_ungranted None true false true room x y answer waits is = cc is
waits_ungranted None true false false room x y answer waits is = cc is
waits_ungranted None false deadlock full room x y answer waits is = cc waits

pub not_passed : (p : Snapshot) (order : Order) (ask : LockAsk) (w older : Wish) → p.rules.fair ≡ true → order.op ≡ Setlkw ask
    → wish_of (request_of order ask) ≡ Some w → Contains (wishes p.view.parked) older → older_blocks w older ≡ true
    → (answer : Answer) → own_reply p.rules p.view p.marking order ≢ Some (Ok answer)
not_passed p order ask w older fair is wants among first answer granted =
    go (is_parked order.unique p.view.parked)
    (ap (λ (op : Op). cond (is_parked order.unique p.view.parked) (taken_reply op) (reply_to p.rules p.view p.marking order op)) (sym is) ∙ granted)
  where
    waits : is_blocked p.rules p.marking p.view.parked (stroke_of order.node ask) (mark_of ask) ≡ true
    waits = behind_waits p.rules p.marking p.view.parked (stroke_of order.node ask) w older fair among first (is_flock ask) (mark_of ask) wants

    go : (b : Bool) → cond b (taken_reply (Setlkw ask)) (reply_to p.rules p.view p.marking order (Setlkw ask)) ≡ Some (Ok answer) → ⊥
    go true told = cc told
    go false told =
        let rules = p.rules in
        let parked = p.view.parked in
        let s = stroke_of order.node ask in
        waits_ungranted (ask_error p.view.directory order.node ask) (is_blocked rules p.marking parked s (mark_of ask))
        (is_deadlock rules p.marking parked s (mark_of ask)) (nat_le rules.parked (length parked)) (room_reply rules.runs p.marking s) EDEADLK ENOLCK answer waits told
