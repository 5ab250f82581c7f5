-- A whole step: its replies, and what they change.
use Rattle.std.proofs.Common.{◌≡◌, ◌≢◌, ℕ, Bool, true, false, cond, Option, Some, None, Result, Err, List, [], ◌∷◌}
use Rattle.std.proofs.Common.{◌++◌, append_assoc, append-nil, map, length, suc, ◌+◌, ◌≤◌, refl, sym, ap}
use Rattle.std.proofs.Common.{◌∙◌, subst, arith}
use Rattle.std.specs.List.{filter, AllByRecursion}
use Rattle.fl_core.specs.Effects.{Effect, leaving, answered, unanswered, request_of, waited_for, with_waiter, by_reply}
use Rattle.fl_core.specs.Effects.{at_once, replied, made}
use Rattle.fl_core.specs.Inside.Parts.{left_by, left_if, with_parked}
use Rattle.fl_core.specs.Replies.{at_once_unless, taken_reply, reply_to, own_reply, ended_with, ended_all}
use Rattle.fl_counter.specs.Tolds.{own_replies}
use Rattle.fl_core.specs.Replies.{ending_of, error_of, picks, ended_if, ended_by, ended, first_told}
use Rattle.fl_core.specs.Settling.{Present, Settled, present, settled, IsSettled, done, one}
use Rattle.fl_core.specs.State.{Snapshot}
use Rattle.fl_core.specs.Step.{after_first, settling, replies, with_present, next}
use Rattle.fl_waiting.specs.Waiting.{is_parked, AllWait, AreApart}
use Rattle.fl_core.specs.declared.ending.Ending.{Ending}
use Rattle.fl_waiting.specs.declared.parked.Request.{Request}
use Rattle.fl_waiting.specs.declared.rules.Rules.{Rules}
use Rattle.fl_core.proofs.Effects.{made_all, made_all-append, made_replied, AreOthers}
use Rattle.fl_core.proofs.Firsts.{below}
use Rattle.fl_core.proofs.Readings.{settled_read, ended_read}
use Rattle.fl_core.proofs.Settlings.{is_settled, settled_none}
use Rattle.fl_core.proofs.Taken.{all_passing, apart_more, apart_passing, none_of, one_longer}
use Rattle.fl_core.proofs.Waits.{all_wait_more}
use Rattle.fl_order.specs.Order.{only_reads}
use Rattle.fl_order.specs.declared.errno.Errno.{Errno}
use Rattle.fl_order.specs.declared.errno.Errno.TheVariants.{EINVAL}
use Rattle.fl_order.specs.declared.order.Op.{Op}
use Rattle.fl_order.specs.declared.order.LockAsk.{LockAsk}
use Rattle.fl_order.specs.declared.order.Op.TheVariants.{Getattr, Getlk, Setlkw, Interrupt}
use Rattle.fl_order.specs.declared.order.Order.{Order}
use Rattle.fl_order.specs.declared.told.Answer.{Answer}
use Rattle.fl_order.specs.declared.told.Told.{Told}
use Rattle.fl_marks.specs.Change.{after_changes}
use Rattle.fl_marks.specs.Marking.{Marking}

-- requests that are ended have other uniques than an order whose unique is none of theirs
ended_others : (u : ℕ) (e : Errno) (test : Request → Bool) (parked : List Request) → AllByRecursion (λ (r : Request). r.unique ≢ u) parked
    → AreOthers u (ended_all e test parked)
ended_others u e test [] all = tt
ended_others u e test (r ∷ parked) all = go (test r) (ended_others u e test parked all.1)
  where
    go : (b : Bool) → AreOthers u (ended_all e test parked) → AreOthers u (map (ended_with e) (cond b (r ∷ filter test parked) (filter test parked)))
    go true rest = (all.0, rest)
    go false rest = rest

pub ended_apart : (u : ℕ) (parked : List Request) → AllByRecursion (λ (r : Request). r.unique ≢ u) parked → (ending : Option Ending)
    → AreOthers u (ended_if ending parked)
ended_apart u parked all None = tt
ended_apart u parked all (Some ending) = ended_others u (error_of ending) (picks ending) parked all

-- the replies that end requests are read as their ends
ends_read : (s : Snapshot) → AreApart s.view.parked → (ending : Option Ending)
    → made_all (ended_if ending s.view.parked) s ≡ with_parked (left_if ending s.view.parked) s
ends_read s apart None = refl
ends_read s apart (Some ending) = ended_read (error_of ending) (picks ending) s apart

-- an order that waits ends no request
ends_or_waits : (order : Order) (parked : List Request) (op : Op) → ended_by (with_waiter order (waited_for op) parked) op None ≡ ended_by parked op None
ends_or_waits order parked (Setlkw ask) = refl
ends_or_waits order parked op = refl

-- an order ends the same requests whether it made its change already
pub ends_alike : (order : Order) (p : Snapshot) (own : Option (Result Answer Errno))
    → ended_by (made (by_reply order own) p).view.parked order.op own ≡ ended_by p.view.parked order.op own
ends_alike order p None = ends_or_waits order p.view.parked order.op
ends_alike order p (Some reply) = refl

abbrev pub made_by : Effect → Snapshot → Snapshot
made_by e p = record p { view = e.view; marking = after_changes e.changes p.marking }

waiting_apart : (order : Order) (ask : Option LockAsk) (parked : List Request) → AreApart parked
    → AllByRecursion (λ (r : Request). r.unique ≢ order.unique) parked → AreApart (with_waiter order ask parked)
waiting_apart order None parked apart others = apart
waiting_apart order (Some ask) parked apart others = apart_more parked (request_of order ask) apart others

-- parked requests stay apart, if the order's unique was none of theirs
apart_after : (order : Order) (own : Option (Result Answer Errno)) (p : Snapshot) → is_parked order.unique p.view.parked ≡ false → AreApart p.view.parked
    → AreApart (made (by_reply order own) p).view.parked
apart_after order (Some reply) p fresh apart = apart
apart_after order None p fresh apart = waiting_apart order (waited_for order.op) p.view.parked apart (none_of order.unique p.view.parked fresh)

apart_left : (parked : List Request) (ending : Option Ending) → AreApart parked → AreApart (left_if ending parked)
apart_left parked None apart = apart
apart_left parked (Some ending) apart = apart_passing _ parked apart

-- a lock request with no reply of its own conflicts
pub in_conflict : (e : Option Errno) (b : Bool) (wait : Option (Result Answer Errno)) (room : Result Answer Errno)
    → at_once_unless e (cond b wait (Some room)) ≡ None → b ≡ true
in_conflict None true wait room is = refl
in_conflict e b wait room is = absurd (cc is)

-- ---- replies to others

pub both_others : (u : ℕ) (xs ys : List Told) → AreOthers u xs → AreOthers u ys → AreOthers u (xs ++ ys)
both_others u [] ys first second = second
both_others u (x ∷ xs) ys first second = (first.0, both_others u xs ys first.1 second)

all_without : (P : Request → Type 0) (older : List Request) (r : Request) (younger : List Request)
    → AllByRecursion P (older ++ r ∷ younger) → P r × AllByRecursion P (older ++ younger)
all_without P [] r younger all = all
all_without P (a ∷ older) r younger all = let rest = all_without P older r younger all.1 in (rest.0, (all.0, rest.1))

-- settling tells only parked requests
told_others : {rules : Rules} {s after : Present} {tolds : List Told} (u : ℕ) → IsSettled rules s tolds after
    → AllByRecursion (λ (r : Request). r.unique ≢ u) s.parked → AreOthers u tolds
told_others u (done all) others = tt
told_others u (one older r younger stands all free rest) others =
    let w = all_without (λ (r : Request). r.unique ≢ u) older r younger (subst (AllByRecursion (λ (r : Request). r.unique ≢ u)) stands others) in
    (w.0, told_others u rest w.1)

pub settled_others : (rules : Rules) (u : ℕ) (m : Marking) (parked : List Request) → AllByRecursion (λ (r : Request). r.unique ≢ u) parked
    → AreOthers u (settled rules (present m parked)).tolds
settled_others rules u m parked others = told_others u (is_settled rules (present m parked)) others

-- an order with no reply of its own tells, once it is settled, only others: a request that it parks waits with them
rest_others : (order : Order) (p : Snapshot) → AllByRecursion (λ (r : Request). r.unique ≢ order.unique) p.view.parked
    → AllWait p.rules p.marking p.view.parked → (op : Op) → reply_to p.rules p.view p.marking order op ≡ None
    → AreOthers order.unique (settled p.rules (present p.marking (left_by (with_waiter order (waited_for op) p.view.parked) op None))).tolds
rest_others order p fresh all (Setlkw ask) none =
    let r = request_of order ask in
    let more = all_wait_more p.rules p.marking p.view.parked r all (in_conflict _ _ _ _ none) in
    subst (λ (s : Settled). AreOthers order.unique s.tolds) (sym (settled_none p.rules p.marking (p.view.parked ++ r ∷ []) more)) tt
rest_others order p fresh all (Interrupt unique) none =
    settled_others p.rules order.unique p.marking _ (all_passing (λ (r : Request). r.unique ≢ order.unique) _ p.view.parked fresh)
rest_others order p fresh all op none = settled_others p.rules order.unique p.marking p.view.parked fresh

-- the requests that an order ends go
abbrev pub after_ends : Order → Option (Result Answer Errno) → Snapshot → Snapshot
after_ends order own s = with_parked (left_by s.view.parked order.op own) s

-- what was there before an order, after its own change, and before settling, if its unique is none of a parked request
pub record IsFresh (order : Order) (own : Option (Result Answer Errno)) (p s q : Snapshot) : Type 0 where
  pub fresh : is_parked order.unique p.view.parked ≡ false
  pub own_is : own ≡ reply_to p.rules p.view p.marking order order.op
  pub s_is : s ≡ made (by_reply order own) p
  pub q_is : q ≡ after_ends order own s
  pub all : AllWait p.rules p.marking p.view.parked
  pub apart : AreApart p.view.parked

module _ (order : Order) (own : Option (Result Answer Errno)) (p s q : Snapshot) (k : IsFresh order own p s q) where
  abbrev ends : List Told
  ends = ended_by p.view.parked order.op own

  first_is : first_told p order ≡ own_replies order own ++ ends
  first_is =
      (λ i. own_replies order (cond (k.fresh i) (taken_reply order.op) (reply_to p.rules p.view p.marking order order.op))
      ++ cond (k.fresh i) [] (ended_by p.view.parked order.op (cond (k.fresh i) (taken_reply order.op) (reply_to p.rules p.view p.marking order order.op))))
      ∙ ap (λ o. own_replies order o ++ ended_by p.view.parked order.op o) (sym k.own_is)

  changed_is : made (at_once order own) p ≡ made (by_reply order own) p
  changed_is = ap (λ b. made_by (cond b (leaving p.view) (by_reply order own p.view)) p) k.fresh

  apart_s : AreApart s.view.parked
  apart_s = subst (λ (t : Snapshot). AreApart t.view.parked) (sym k.s_is) (apart_after order own p k.fresh k.apart)

  pub apart_q : AreApart q.view.parked
  apart_q = subst (λ (t : Snapshot). AreApart t.view.parked) (sym k.q_is) (apart_left s.view.parked (ending_of order.op own) apart_s)

  abbrev fresh : AllByRecursion (λ (r : Request). r.unique ≢ order.unique) p.view.parked
  fresh = none_of order.unique p.view.parked k.fresh

  -- with no reply of its own it settles others
  pub settles_others : own ≡ None → AreOthers order.unique (settling q).tolds
  settles_others none =
      subst (λ (t : Snapshot). AreOthers order.unique (settling t).tolds)
      (sym (k.q_is ∙ ap (after_ends order own) k.s_is ∙ ap (λ o. after_ends order o (made (by_reply order o) p)) none))
      (rest_others order p fresh k.all order.op (sym k.own_is ∙ none))

  abbrev rest : List Told
  rest = (settling q).tolds

  ends_are : ended_by s.view.parked order.op own ≡ ends
  ends_are = ap (λ (t : Snapshot). ended_by t.view.parked order.op own) k.s_is ∙ ends_alike order p own

  others : own ≡ None → AreOthers order.unique ends
  others none = ended_apart order.unique p.view.parked fresh (ending_of order.op own)

  read : made_all ends (made (at_once order own) p) ≡ q
  read =
      ap (made_all ends) (changed_is ∙ sym k.s_is) ∙ ap (λ xs. made_all xs s) (sym ends_are) ∙ ends_read s apart_s (ending_of order.op own) ∙ sym k.q_is

  after_is : after_first p order ≡ q
  after_is = ap (λ xs. made (replied order xs) p) first_is ∙ made_replied order own ends p others ∙ read

  pub replies_are : replies p order ≡ (own_replies order own ++ ended_by s.view.parked order.op own) ++ rest
  replies_are = (λ i. first_is i ++ (settling (after_is i)).tolds) ∙ ap (λ xs. (own_replies order own ++ xs) ++ rest) (sym ends_are)

  pub next_is : next p order ≡ with_present (settling q).present q
  next_is = ap (λ (t : Snapshot). with_present (settling t).present t) after_is

  all_others : own ≡ None → AreOthers order.unique (ends ++ rest)
  all_others none = both_others order.unique ends rest (others none) (settles_others none)

  pub step_read : made (replied order (replies p order)) p ≡ next p order
  step_read =
      ap (λ xs. made (replied order xs) p) ((λ i. first_is i ++ (settling (after_is i)).tolds) ∙ append_assoc (own_replies order own) ends rest)
      ∙ made_replied order own (ends ++ rest) p all_others ∙ made_all-append ends rest (made (at_once order own) p) ∙ ap (made_all rest) read
      ∙ settled_read q apart_q ∙ sym next_is

-- its unique is that of a parked request
module _ (order : Order) (p : Snapshot) (taken : is_parked order.unique p.view.parked ≡ true) (waiting : AllWait p.rules p.marking p.view.parked) where
  abbrev told : List Told
  told = own_replies order (taken_reply order.op)

  first_refused : first_told p order ≡ told
  first_refused =
      (λ i. own_replies order (cond (taken i) (taken_reply order.op) (reply_to p.rules p.view p.marking order order.op))
      ++ cond (taken i) [] (ended_by p.view.parked order.op (cond (taken i) (taken_reply order.op) (reply_to p.rules p.view p.marking order order.op))))
      ∙ append-nil told

  nothing_changed : made (replied order told) p ≡ p
  nothing_changed =
      ap (λ xs. made (replied order xs) p) (sym (append-nil told)) ∙ made_replied order (taken_reply order.op) [] p (λ none. tt)
      ∙ ap (λ b. made_by (cond b (leaving p.view) (by_reply order (taken_reply order.op) p.view)) p) taken

  after_refused : after_first p order ≡ p
  after_refused = ap (λ xs. made (replied order xs) p) first_refused ∙ nothing_changed

  abbrev settled_refused : settling p ≡ record { present = present p.marking p.view.parked; tolds = [] }
  settled_refused = settled_none p.rules p.marking p.view.parked waiting

  pub refused_replies : replies p order ≡ told
  refused_replies = (λ i. first_refused i ++ (settling (after_refused i)).tolds) ∙ ap (λ (r : Settled). told ++ r.tolds) settled_refused ∙ append-nil told

  pub refused_next : next p order ≡ p
  refused_next = ap (λ (t : Snapshot). with_present (settling t).present t) after_refused ∙ ap (λ (r : Settled). with_present r.present p) settled_refused

  pub refused_read : made (replied order (replies p order)) p ≡ next p order
  refused_read = ap (λ xs. made (replied order xs) p) refused_replies ∙ nothing_changed ∙ sym refused_next

one_at_most : (order : Order) (ask : Option LockAsk) (parked : List Request) → length (with_waiter order ask parked) ≤ suc (length parked)
one_at_most order None parked = omega arith
one_at_most order (Some ask) parked = omega (arith, one_longer parked (request_of order ask))

-- an order that waits has no reply of its own
pub room_left : (order : Order) (own : Option (Result Answer Errno)) (p : Snapshot) → length p.view.parked ≤ p.rules.parked
    → length (own_replies order own) + length (made (by_reply order own) p).view.parked ≤ p.rules.parked + 1
room_left order (Some reply) p few = omega (arith, few)
room_left order None p few = omega (arith, few, one_at_most order (waited_for order.op) p.view.parked)

-- a request that has no reply yet is not one too many
waits_within : (e : Option Errno) (conflict deadlock full : Bool) (room : Result Answer Errno) (x y : Errno)
    → at_once_unless e (cond conflict (cond deadlock (Some (Err x)) (cond full (Some (Err y)) None)) (Some room)) ≡ None → full ≡ false
waits_within None true false false room x y is = refl
waits_within None true false true room x y is = absurd (cc is)
waits_within None true true full room x y is = absurd (cc is)
waits_within None false deadlock full room x y is = absurd (cc is)
waits_within (Some e) conflict deadlock full room x y is = absurd (cc is)

-- so no more wait than may
pub few_stay : (order : Order) (own : Option (Result Answer Errno)) (p : Snapshot) → own ≡ reply_to p.rules p.view p.marking order order.op
    → length p.view.parked ≤ p.rules.parked → length (made (by_reply order own) p).view.parked ≤ p.rules.parked
few_stay order (Some reply) p is few = few
few_stay order None p is few = go order.op (sym is)
  where
    go : (op : Op) → reply_to p.rules p.view p.marking order op ≡ None → length (with_waiter order (waited_for op) p.view.parked) ≤ p.rules.parked
    go (Setlkw ask) none =
        omega (arith, below p.rules.parked (length p.view.parked) (waits_within _ _ _ _ _ _ _ none), one_longer p.view.parked (request_of order ask))
    go op none = few

-- ---- orders that only read

-- what holds of both that read, holds of any order that only reads
of_reads : (P : Op → Type 0) → P Getattr → ((ask : LockAsk) → P (Getlk ask)) → (op : Op) → only_reads op ≡ true → P op
of_reads P getattr getlk Getattr e = getattr
of_reads P getattr getlk (Getlk ask) e = getlk ask
of_reads P getattr getlk op e = absurd (cc e)

pub reads_refused : (op : Op) → only_reads op ≡ true → taken_reply op ≡ Some (Err EINVAL)
reads_refused = of_reads (λ op. taken_reply op ≡ Some (Err EINVAL)) refl (λ ask. refl)

module _ (order : Order) (p : Snapshot) (waiting : AllWait p.rules p.marking p.view.parked) (reads : only_reads order.op ≡ true) where
  abbrev own_read : Option (Result Answer Errno)
  own_read = own_reply p.rules p.view p.marking order

  reads_by_reply : (own : Option (Result Answer Errno)) → by_reply order own p.view ≡ leaving p.view
  reads_by_reply None = of_reads (λ op. unanswered order op p.view ≡ leaving p.view) refl (λ ask. refl) order.op reads
  reads_by_reply (Some reply) = of_reads (λ op. answered order op reply p.view ≡ leaving p.view) refl (λ ask. refl) order.op reads

  ended_none : ended p.view order own_read ≡ []
  ended_none = go (is_parked order.unique p.view.parked)
    where
      go : (b : Bool) → cond b [] (ended_by p.view.parked order.op own_read) ≡ []
      go true = refl
      go false = of_reads (λ op. ended_by p.view.parked op own_read ≡ []) refl (λ ask. refl) order.op reads

  reads_unchanged : made (at_once order own_read) p ≡ p
  reads_unchanged = go (is_parked order.unique p.view.parked)
    where
      go : (b : Bool) → made_by (cond b (leaving p.view) (by_reply order own_read p.view)) p ≡ p
      go true = refl
      go false = ap (λ e. made_by e p) (reads_by_reply own_read)

  after_read : after_first p order ≡ p
  after_read = ap (λ xs. made (replied order (own_replies order own_read ++ xs)) p) ended_none ∙ made_replied order own_read [] p (λ none. tt) ∙ reads_unchanged

  settled_after : settling (after_first p order) ≡ record { present = present p.marking p.view.parked; tolds = [] }
  settled_after = ap settling after_read ∙ settled_none p.rules p.marking p.view.parked waiting

  pub reads_replies : replies p order ≡ own_replies order own_read
  reads_replies =
      (λ i. (own_replies order own_read ++ ended_none i) ++ (settled_after i).tolds) ∙ append-nil (own_replies order own_read ++ [])
      ∙ append-nil (own_replies order own_read)

  pub reads_next : next p order ≡ p
  reads_next = ap (λ (r : Settled). with_present r.present (after_first p order)) settled_after ∙ ap (with_present (present p.marking p.view.parked)) after_read
