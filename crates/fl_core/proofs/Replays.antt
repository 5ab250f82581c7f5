-- What an order changes by what it is told itself.
use Rattle.std.proofs.Common.{◌≡◌, ◌∙◌, ◌⊎◌, ⊎_elim, false, cond, Option, Some, None, Result, Ok, refl, sym, ap}
use Rattle.std.proofs.lemmas.Bool.{eq-eqb}
use Rattle.fl_core.specs.Effects.{answered, at_once, by_reply, followed_by, later, leaving, locked, made, replied}
use Rattle.fl_core.specs.First.{own}
use Rattle.fl_counter.specs.Tolds.{own_replies}
use Rattle.fl_core.specs.State.{Snapshot}
use Rattle.fl_core.specs.Step.{next, replies}
use Rattle.fl_waiting.specs.Waiting.{is_parked, AllWait, AreApart}
use Rattle.fl_core.proofs.Nexts.{next_made}
use Rattle.fl_core.proofs.Steps.{made_by}
use Rattle.fl_order.specs.declared.errno.Errno.{Errno}
use Rattle.fl_order.specs.declared.order.LockAsk.{LockAsk}
use Rattle.fl_order.specs.declared.order.Op.TheVariants.{Setlk, Setlkw}
use Rattle.fl_order.specs.declared.order.Order.{Order}
use Rattle.fl_order.specs.declared.told.Answer.{Answer}
use Rattle.fl_marks.specs.Change.{after_changes}

-- a lock request that is granted
pub granted_made : (order : Order) (ask : LockAsk) (answer : Answer) (p : Snapshot) → (order.op ≡ Setlk ask) ⊎ (order.op ≡ Setlkw ask)
    → is_parked order.unique p.view.parked ≡ false
    → made (at_once order (Some (Ok answer))) p ≡ record p { marking = after_changes (locked order.node ask (Ok answer)) p.marking }
granted_made order ask answer p is fresh =
    ap (λ b. made_by (cond b (leaving p.view) (by_reply order (Some (Ok answer)) p.view)) p) fresh
    ∙ ⊎_elim (λ set. ap (λ op. made_by (answered order op (Ok answer) p.view) p) set) (λ wait. ap (λ op. made_by (answered order op (Ok answer) p.view) p) wait) is

-- nobody else was told anything
pub alone_made : (order : Order) (reply : Option (Result Answer Errno)) (p : Snapshot) → replies p order ≡ own_replies order reply
    → AllWait p.rules p.marking p.view.parked → AreApart p.view.parked → made (at_once order reply) p ≡ next p order
alone_made order None p alone all apart = ap (λ tolds. made (replied order tolds) p) (sym alone) ∙ next_made p order all apart
alone_made order (Some reply) p alone all apart =
    ap (λ b. made_by (cond b (at_once order (Some reply) p.view) (followed_by (later (own order reply)) (at_once order None p.view))) p) (sym (eq-eqb order.unique order.unique refl))
    ∙ ap (λ tolds. made (replied order tolds) p) (sym alone) ∙ next_made p order all apart
