-- The first replies as a function, and in words.
use Rattle.std.proofs.Common.{◌≡◌, ◌≢◌, ◌↔◌, ℕ, ◌==◌, ◌≤◌, ◌<◌, nat_le, Bool, true, false, cond, ◌||◌, Option, Some}
use Rattle.std.proofs.Common.{None, Ok, Err, List, [], ◌∷◌, ◌++◌, append-nil, length, map, refl, sym, ap, ◌∙◌, subst}
use Rattle.std.proofs.Common.{arith}
use Rattle.std.proofs.lemmas.Bool.Decides.{nat_tests}
use Rattle.std.specs.List.{filter, AllByRecursion}
use Rattle.fl_core.specs.First.{IsWaiter, IsNew, is_alone, own, IsAnswered, IsFirst}
use Rattle.fl_core.specs.First.{alone, not_open, closes, interrupts, interrupts_none, fails, is_free, closes_one}
use Rattle.fl_core.specs.First.{is_one_too_many, waits_now}
use Rattle.fl_core.specs.First.{forget_of_a_waiter, as_a_waiter, as_no_waiter}
use Rattle.fl_waiting.specs.Circle.{is_deadlock, ClosesCircle}
use Rattle.fl_core.specs.Effects.{request_of}
use Rattle.fl_core.specs.Replies.{ask_error, reply_to, taken_reply, ended_with, ended_all, ended_by}
use Rattle.fl_counter.specs.Tolds.{own_replies}
use Rattle.fl_core.specs.Replies.{first_told, at_once_unless}
use Rattle.fl_waiting.specs.LockRequest.{mark_of, stroke_of}
use Rattle.fl_core.specs.Settling.{grant_reply}
use Rattle.fl_core.specs.State.{Snapshot}
use Rattle.fl_waiting.specs.Waiting.{is_parked, waits, AreApart}
use Rattle.fl_waiting.specs.declared.parked.Request.{Request}
use Rattle.fl_waiting.specs.declared.rules.Rules.{Rules}
use Rattle.fl_core.proofs.Taken.{none_of, not_equal, yes_equal}
use Rattle.fl_dir.specs.OpenFiles.{is_open_on}
use Rattle.fl_order.specs.declared.errno.Errno.{Errno}
use Rattle.fl_order.specs.declared.errno.Errno.TheVariants.{EINTR, EBADF, EINVAL, EAGAIN, EDEADLK, ENOLCK}
use Rattle.fl_order.specs.declared.told.Answer.TheVariants.{Done}
use Rattle.fl_order.specs.declared.told.Told.{Told}
use Rattle.fl_order.specs.declared.order.LockAsk.{LockAsk}
use Rattle.fl_order.specs.declared.order.Op.{Op}
use Rattle.fl_order.specs.declared.order.Op.TheVariants.{Forget, Release, Setlkw, Interrupt}
use Rattle.fl_order.specs.declared.order.Order.{Order}
use Rattle.fl_marks.specs.Marking.{Marking}

only_false : (b : Bool) → (b ≡ true → ⊥) → b ≡ false
only_false true f = absurd (f refl)
only_false false f = refl

-- ---- requests of a unique

equals : (x y : ℕ) → (x == y) ≡ true → x ≡ y
equals x y e = grind (arith, nat_tests)

waiter_of : (unique : ℕ) (parked : List Request) → is_parked unique parked ≡ true → (r : Request) × IsWaiter unique parked r
waiter_of u [] e = absurd (cc e)
waiter_of u (a ∷ parked) e = go (a.unique == u) (is_parked u parked) refl e (waiter_of u parked)
  where
    go : (b c : Bool) → (a.unique == u) ≡ b → (b || c) ≡ true → (c ≡ true → (r : Request) × IsWaiter u parked r) → (r : Request) × IsWaiter u (a ∷ parked) r
    go true c t e f = (a, record { older = []; younger = parked; stands = refl; named = equals a.unique u t })
    go false c t e f = let w = f e in (w.0, record { older = a ∷ w.1.older; younger = w.1.younger; stands = ap (λ xs. a ∷ xs) w.1.stands; named = w.1.named })

or_true : (b : Bool) → (b || true) ≡ true
or_true true = refl
or_true false = refl

there : (unique : ℕ) (older : List Request) (r : Request) (younger : List Request) → r.unique ≡ unique → is_parked unique (older ++ r ∷ younger) ≡ true
there u [] r younger e = ap (λ b. b || is_parked u younger) (yes_equal r.unique u e)
there u (a ∷ older) r younger e = ap (λ b. (a.unique == u) || b) (there u older r younger e) ∙ or_true (a.unique == u)

is_there : (unique : ℕ) (parked : List Request) (r : Request) → IsWaiter unique parked r → is_parked unique parked ≡ true
is_there u parked r w = ap (is_parked u) w.stands ∙ there u w.older r w.younger w.named

not_there : (unique : ℕ) (parked : List Request) → IsNew unique parked → is_parked unique parked ≡ false
not_there u [] new = refl
not_there u (a ∷ parked) new = λ i. not_equal a.unique u new.0 i || not_there u parked new.1 i

-- no other has the unique of a parked request
none_named : (u : ℕ) (parked : List Request) → AllByRecursion (λ (r : Request). r.unique ≢ u) parked → filter (λ (r : Request). r.unique == u) parked ≡ []
none_named u [] all = refl
none_named u (a ∷ parked) all = λ i. cond (not_equal a.unique u all.0 i) (a ∷ filter (λ (r : Request). r.unique == u) parked) (none_named u parked all.1 i)

behind : (older : List Request) (r : Request) (younger : List Request) → (a : Request)
    → AllByRecursion (λ (b : Request). b.unique ≢ a.unique) (older ++ r ∷ younger) → r.unique ≢ a.unique
behind [] r younger a all = all.0
behind (b ∷ older) r younger a all = behind older r younger a all.1

one_named : (older : List Request) (r : Request) (younger : List Request) → AreApart (older ++ r ∷ younger)
    → filter (λ (b : Request). b.unique == r.unique) (older ++ r ∷ younger) ≡ r ∷ []
one_named [] r younger apart =
    ap (λ b. cond b (r ∷ filter (λ (b : Request). b.unique == r.unique) younger) (filter (λ (b : Request). b.unique == r.unique) younger))
    (yes_equal r.unique r.unique refl)
    ∙ ap (λ xs. r ∷ xs) (none_named r.unique younger apart.0)
one_named (a ∷ older) r younger apart =
    let test = λ (b : Request). b.unique == r.unique in
    ap (λ b. cond b (a ∷ filter test (older ++ r ∷ younger)) (filter test (older ++ r ∷ younger)))
    (not_equal a.unique r.unique (λ e. behind older r younger a apart.0 (sym e)))
    ∙ one_named older r younger apart.1

interrupted : (u : ℕ) (parked : List Request) (r : Request) → AreApart parked → IsWaiter u parked r
    → ended_all EINTR (λ b. b.unique == u) parked ≡ ended_with EINTR r ∷ []
interrupted u parked r apart w =
    ap (λ x. ended_all EINTR (λ b. b.unique == x) parked) (sym w.named)
    ∙ ap (ended_all EINTR (λ b. b.unique == r.unique)) w.stands
    ∙ ap (λ xs. map (ended_with EINTR) xs) (one_named w.older r w.younger (subst AreApart w.stands apart))

-- ---- orders of a unique that doesn't wait

-- what such an order is told
abbrev told_of : Snapshot → Order → Op → List Told
told_of p order op =
    let reply = reply_to p.rules p.view p.marking order op in
    own_replies order reply ++ ended_by p.view.parked op reply

at_least : (most n : ℕ) → nat_le most n ≡ true → most ≤ n
at_least most n e = grind (arith, nat_tests)

pub below : (most n : ℕ) → nat_le most n ≡ false → n < most
below most n e = grind (arith, nat_tests)

not_below : (most n : ℕ) → most ≤ n → nat_le most n ≡ true
not_below most n e = grind (arith, nat_tests)

not_at_least : (most n : ℕ) → n < most → nat_le most n ≡ false
not_at_least most n e = grind (arith, nat_tests)

-- a SETLKW by its tests
abbrev lock_told : Snapshot → Order → LockAsk → Option Errno → Bool → Bool → Bool → List Told
lock_told p order ask e conflict deadlock full =
    own_replies order (at_once_unless e
    (cond conflict (cond deadlock (Some (Err EDEADLK)) (cond full (Some (Err ENOLCK)) None)) (Some (grant_reply p.rules.runs p.marking (request_of order ask)))))

-- the request would close a circle
abbrev deadlocks : Snapshot → Order → LockAsk → Bool
deadlocks p order ask = is_deadlock p.rules p.marking p.view.parked (stroke_of order.node ask) (mark_of ask)

-- what is told by whether the order's unique is that of a parked request
abbrev told_if : Snapshot → Order → Bool → List Told
told_if p order b =
    let reply = cond b (taken_reply order.op) (reply_to p.rules p.view p.marking order order.op) in
    own_replies order reply ++ cond b [] (ended_by p.view.parked order.op reply)

-- FORGET, or no FORGET
pub data ForgetOrNot (op : Op) : Type 0 where
  forgets : (n : ℕ) → op ≡ Forget n → ForgetOrNot op
  other : ((n : ℕ) → op ≢ Forget n) → taken_reply op ≡ Some (Err EINVAL) → ForgetOrNot op

forget_or_not : (op : Op) → ForgetOrNot op
forget_or_not (Forget n) = forgets n refl
forget_or_not op = other (λ n e. cc e) refl

refused_so : (order : Order) → ForgetOrNot order.op → ((n : ℕ) → order.op ≢ Forget n)
    → own_replies order (taken_reply order.op) ++ [] ≡ own order (Err EINVAL) ∷ []
refused_so order (forgets n e) differs = absurd (differs n e)
refused_so order (other k e) differs = ap (λ reply. own_replies order reply ++ []) e

-- what a table of waiting requests says of circles
abbrev pub CirclesInWords : Type 0
CirclesInWords = (rules : Rules) (m : Marking) (parked : List Request) (r : Request)
    → (is_deadlock rules m parked (stroke_of r.node r.ask) (mark_of r.ask) ≡ true) ↔ ClosesCircle rules m parked r

module _ (deadlock_words : CirclesInWords) where
  no_circle : (p : Snapshot) (order : Order) (ask : LockAsk) → deadlocks p order ask ≡ false → ClosesCircle p.rules p.marking p.view.parked (request_of order ask) → ⊥
  no_circle p order ask d c = cc (sym ((deadlock_words p.rules p.marking p.view.parked (request_of order ask)).1 c) ∙ d)

  no_deadlock : (p : Snapshot) (order : Order) (ask : LockAsk) → (ClosesCircle p.rules p.marking p.view.parked (request_of order ask) → ⊥) → deadlocks p order ask ≡ false
  no_deadlock p order ask none = only_false _ (λ d. none ((deadlock_words p.rules p.marking p.view.parked (request_of order ask)).0 d))

  lock_answered : (p : Snapshot) (order : Order) (ask : LockAsk) (e : Option Errno) (conflict deadlock full : Bool)
      → ask_error p.view.directory order.node ask ≡ e
      → waits p.rules p.marking p.view.parked (request_of order ask) ≡ conflict → deadlocks p order ask ≡ deadlock → nat_le p.rules.parked (length p.view.parked) ≡ full
      → IsAnswered p order (Setlkw ask) (lock_told p order ask e conflict deadlock full)
  lock_answered p order ask (Some e) conflict deadlock full fault c d f = fails ask e fault
  lock_answered p order ask None false deadlock full fault c d f = is_free ask fault c
  lock_answered p order ask None true true full fault c d f = closes_one ask fault c ((deadlock_words p.rules p.marking p.view.parked (request_of order ask)).0 d)
  lock_answered p order ask None true false true fault c d f = is_one_too_many ask fault c (no_circle p order ask d) (at_least p.rules.parked (length p.view.parked) f)
  lock_answered p order ask None true false false fault c d f = waits_now ask fault c (no_circle p order ask d) (below p.rules.parked (length p.view.parked) f)

  lock_is : (p : Snapshot) (order : Order) (ask : LockAsk) (e : Option Errno) (conflict deadlock full : Bool) → ask_error p.view.directory order.node ask ≡ e
      → waits p.rules p.marking p.view.parked (request_of order ask) ≡ conflict → deadlocks p order ask ≡ deadlock → nat_le p.rules.parked (length p.view.parked) ≡ full
      → told_of p order (Setlkw ask) ≡ lock_told p order ask e conflict deadlock full
  lock_is p order ask e conflict deadlock full fault c d f =
      append-nil (lock_told p order ask (ask_error p.view.directory order.node ask) (waits p.rules p.marking p.view.parked (request_of order ask)) (deadlocks p order ask)
      (nat_le p.rules.parked (length p.view.parked)))
      ∙ (λ i. lock_told p order ask (fault i) (c i) (d i) (f i))

  answered_so : (p : Snapshot) (order : Order) → AreApart p.view.parked → (op : Op) → IsAnswered p order op (told_of p order op)
  answered_so p order apart (Release fh unlocks owner) = go (is_open_on p.view.directory fh order.node) refl
    where
      go : (b : Bool) → is_open_on p.view.directory fh order.node ≡ b
          → let reply = Some (cond b (Ok Done) (Err EBADF)) in IsAnswered p order (Release fh unlocks owner)
          (own_replies order reply ++ ended_by p.view.parked (Release fh unlocks owner) reply)
      go true e = closes fh unlocks owner e
      go false e = not_open fh unlocks owner e
  answered_so p order apart (Setlkw ask) =
      subst (IsAnswered p order (Setlkw ask)) (sym (lock_is p order ask _ _ _ _ refl refl refl refl)) (lock_answered p order ask _ _ _ _ refl refl refl refl)
  answered_so p order apart (Interrupt u) = go (is_parked u p.view.parked) refl
    where
      go : (b : Bool) → is_parked u p.view.parked ≡ b
          → let reply = cond b None (Some (Err EAGAIN)) in IsAnswered p order (Interrupt u)
          (own_replies order reply ++ ended_by p.view.parked (Interrupt u) reply)
      go true e =
          let w = waiter_of u p.view.parked e in
          subst (IsAnswered p order (Interrupt u)) (sym (interrupted u p.view.parked w.0 apart w.1)) (interrupts u w.0 w.1)
      go false e = interrupts_none u (none_of u p.view.parked e)
  answered_so p order apart op = alone op refl

  alone_is : (p : Snapshot) (order : Order) (op : Op) → is_alone op ≡ true → told_of p order op ≡ own_replies order (reply_to p.rules p.view p.marking order op)
  alone_is p order (Release fh unlocks owner) a = absurd (cc a)
  alone_is p order (Setlkw ask) a = absurd (cc a)
  alone_is p order (Interrupt u) a = absurd (cc a)
  alone_is p order op a = refl

  told_so : {p : Snapshot} {order : Order} {op : Op} {tolds : List Told} → AreApart p.view.parked → IsAnswered p order op tolds → told_of p order op ≡ tolds
  told_so {p} {order} apart (alone op a) = alone_is p order op a
  told_so {p} {order} apart (not_open fh unlocks owner e) =
      ap (λ b. let reply = Some (cond b (Ok Done) (Err EBADF)) in own_replies order reply ++ ended_by p.view.parked (Release fh unlocks owner) reply) e
  told_so {p} {order} apart (closes fh unlocks owner e) =
      ap (λ b. let reply = Some (cond b (Ok Done) (Err EBADF)) in own_replies order reply ++ ended_by p.view.parked (Release fh unlocks owner) reply) e
  told_so {p} {order} apart (interrupts u r w) =
      ap (λ b. let reply = cond b None (Some (Err EAGAIN)) in own_replies order reply ++ ended_by p.view.parked (Interrupt u) reply)
      (is_there u p.view.parked r w)
      ∙ interrupted u p.view.parked r apart w
  told_so {p} {order} apart (interrupts_none u new) =
      ap (λ b. let reply = cond b None (Some (Err EAGAIN)) in own_replies order reply ++ ended_by p.view.parked (Interrupt u) reply)
      (not_there u p.view.parked new)
  told_so {p} {order} apart (fails ask e fault) = lock_is p order ask (Some e) _ _ _ fault refl refl refl
  told_so {p} {order} apart (is_free ask fault c) = lock_is p order ask None false _ _ fault c refl refl
  told_so {p} {order} apart (closes_one ask fault c circle) =
      lock_is p order ask None true true _ fault c ((deadlock_words p.rules p.marking p.view.parked (request_of order ask)).1 circle) refl
  told_so {p} {order} apart (is_one_too_many ask fault c none full) =
      lock_is p order ask None true false true fault c (no_deadlock p order ask none) (not_below p.rules.parked (length p.view.parked) full)
  told_so {p} {order} apart (waits_now ask fault c none few) =
      lock_is p order ask None true false false fault c (no_deadlock p order ask none) (not_at_least p.rules.parked (length p.view.parked) few)

  -- ---- any order

  first_so : (p : Snapshot) (order : Order) → AreApart p.view.parked → IsFirst p order (first_told p order)
  first_so p order apart = go (is_parked order.unique p.view.parked) refl
    where
      waiter : (r : Request) → IsWaiter order.unique p.view.parked r → ForgetOrNot order.op → IsFirst p order (told_if p order true)
      waiter r w (forgets n e) = subst (IsFirst p order) (sym (ap (λ op. own_replies order (taken_reply op) ++ []) e)) (forget_of_a_waiter n r e w)
      waiter r w (other differs e) = subst (IsFirst p order) (sym (ap (λ reply. own_replies order reply ++ []) e)) (as_a_waiter r differs w)

      go : (b : Bool) → is_parked order.unique p.view.parked ≡ b → IsFirst p order (told_if p order b)
      go true e = let w = waiter_of order.unique p.view.parked e in waiter w.0 w.1 (forget_or_not order.op)
      go false e = as_no_waiter _ (none_of order.unique p.view.parked e) (answered_so p order apart order.op)

  so_first : {p : Snapshot} {order : Order} {tolds : List Told} → AreApart p.view.parked → IsFirst p order tolds → first_told p order ≡ tolds
  so_first {p} {order} apart (forget_of_a_waiter n r e w) =
      ap (told_if p order) (is_there order.unique p.view.parked r w) ∙ ap (λ op. own_replies order (taken_reply op) ++ []) e
  so_first {p} {order} apart (as_a_waiter r differs w) =
      ap (told_if p order) (is_there order.unique p.view.parked r w) ∙ refused_so order (forget_or_not order.op) differs
  so_first {p} {order} apart (as_no_waiter tolds new so) = ap (told_if p order) (not_there order.unique p.view.parked new) ∙ told_so apart so

  pub first_is : (p : Snapshot) (order : Order) (tolds : List Told) → AreApart p.view.parked → (tolds ≡ first_told p order) ↔ IsFirst p order tolds
  first_is p order tolds apart = (λ e. subst (IsFirst p order) (sym e) (first_so p order apart), λ w. sym (so_first apart w))
