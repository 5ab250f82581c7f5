-- Which requests still wait after an order's own change.
use Rattle.std.proofs.Common.{◌≡◌, Option, Some, None, Result, Ok, Err, sym, subst}
use Rattle.fl_core.specs.Effects.{Effect, request_of, waited_for, with_waiter, by_reply, made}
use Rattle.fl_core.specs.Inside.Touched.{SameOff, touched_if_done, OthersWait}
use Rattle.fl_core.specs.Replies.{reply_to}
use Rattle.fl_core.specs.State.{Snapshot}
use Rattle.fl_core.specs.declared.settling.Touched.{Touched}
use Rattle.fl_core.specs.declared.settling.Touched.TheVariants.{Nothing}
use Rattle.fl_core.proofs.Quiet.{error_leaves}
use Rattle.fl_core.proofs.Steps.{in_conflict}
use Rattle.fl_core.proofs.Waits.{all_wait_more, others_kept, others_off}
use Rattle.fl_order.specs.declared.errno.Errno.{Errno}
use Rattle.fl_order.specs.declared.order.Op.{Op}
use Rattle.fl_order.specs.declared.order.Op.TheVariants.{Setlkw}
use Rattle.fl_order.specs.declared.order.Order.{Order}
use Rattle.fl_order.specs.declared.told.Answer.{Answer}
use Rattle.fl_marks.specs.Change.{after_changes}
use Rattle.fl_waiting.specs.Waiting.{AllWait}

module _ (order : Order) (p : Snapshot) (all : AllWait p.rules p.marking p.view.parked) where
  -- a request that is parked waits
  waiting : (op : Op) → reply_to p.rules p.view p.marking order op ≡ None → AllWait p.rules p.marking (with_waiter order (waited_for op) p.view.parked)
  waiting (Setlkw ask) none = all_wait_more p.rules p.marking p.view.parked (request_of order ask) all (in_conflict _ _ _ _ none)
  waiting op none = all

  abbrev Still : Option (Result Answer Errno) → Touched → Snapshot → Type 0
  Still own t s = SameOff t p.marking s.marking → OthersWait (touched_if_done own t) s.rules s.marking s.view.parked

  by_own : (own : Option (Result Answer Errno)) (t : Touched) → reply_to p.rules p.view p.marking order order.op ≡ own → Still own t (made (by_reply order own) p)
  by_own None t is off = others_kept Nothing p.rules p.marking _ (waiting order.op is)
  by_own (Some (Err e)) t is off =
      subst (λ (f : Effect). OthersWait Nothing p.rules (after_changes f.changes p.marking) f.view.parked) (sym (error_leaves order e p.view order.op))
      (others_kept Nothing p.rules p.marking p.view.parked all)
  by_own (Some (Ok answer)) t is off = others_off t p.rules p.marking _ p.view.parked off all

  -- if it touched no other locks
  pub others_taken : (own : Option (Result Answer Errno)) (t : Touched) (s : Snapshot) → own ≡ reply_to p.rules p.view p.marking order order.op
      → s ≡ made (by_reply order own) p → Still own t s
  others_taken own t s own_is s_is = subst (Still own t) (sym s_is) (by_own own t (sym own_is))
