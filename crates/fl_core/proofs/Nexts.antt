-- What is there after an order: its replies alone give it, and its requests wait and are apart, if those before were.
use Rattle.std.proofs.Common.{◌≡◌, Bool, true, false, refl, sym, subst}
use Rattle.fl_core.specs.Effects.{by_reply, replied, recorded, made}
use Rattle.fl_core.specs.Replies.{reply_to}
use Rattle.fl_core.specs.Settling.{present}
use Rattle.fl_core.specs.State.{State, Snapshot, snapshot_of}
use Rattle.fl_core.specs.Step.{after_first, next, replies}
use Rattle.fl_waiting.specs.Waiting.{is_parked, AllWait, AreApart}
use Rattle.fl_core.proofs.Effects.{is_recorded}
use Rattle.fl_core.proofs.Settlings.{nothing_left, settled_apart}
use Rattle.fl_core.proofs.Steps as steps
use Rattle.fl_order.specs.declared.order.Order.{Order}

module _ (p : Snapshot) (order : Order) (all : AllWait p.rules p.marking p.view.parked) (apart : AreApart p.view.parked) where
  -- the replies are read as what is there afterwards, if no two requests have one unique
  abbrev Kept : Type 0
  Kept = (made (replied order (replies p order)) p ≡ next p order) × AreApart (next p order).view.parked

  kept_refused : is_parked order.unique p.view.parked ≡ true → Kept
  kept_refused taken = (
    steps.refused_read order p taken all,
    subst (λ (t : Snapshot). AreApart t.view.parked) (sym (steps.refused_next order p taken all)) apart,
  )

  kept_fresh : is_parked order.unique p.view.parked ≡ false → Kept
  kept_fresh fresh =
      let own = reply_to p.rules p.view p.marking order order.op in
      let s = made (by_reply order own) p in
      let q = steps.after_ends order own s in
      let k : steps.IsFresh order own p s q = record { fresh = fresh; own_is = refl; s_is = refl; q_is = refl; all = all; apart = apart } in (
        steps.step_read order own p s q k,
        subst (λ (t : Snapshot). AreApart t.view.parked) (sym (steps.next_is order own p s q k))
            (settled_apart p.rules (present q.marking q.view.parked) (steps.apart_q order own p s q k)),
      )

  kept : Kept
  kept = go (is_parked order.unique p.view.parked) refl
    where
      go : (b : Bool) → is_parked order.unique p.view.parked ≡ b → Kept
      go true = kept_refused
      go false = kept_fresh

pub next_read : (p : Snapshot) (order : Order) (s : State) → AllWait p.rules p.marking p.view.parked → AreApart p.view.parked → snapshot_of s ≡ p
    → snapshot_of (recorded (replied order (replies p order)) s) ≡ next p order
next_read p order s all apart = is_recorded order p (next p order) (replies p order) (sym (kept p order all apart).0) s

pub next_waits : (p : Snapshot) (order : Order) → AllWait p.rules (next p order).marking (next p order).view.parked
next_waits p order = let first = after_first p order in nothing_left p.rules (present first.marking first.view.parked)

pub next_apart : (p : Snapshot) (order : Order) → AllWait p.rules p.marking p.view.parked → AreApart p.view.parked → AreApart (next p order).view.parked
next_apart p order all apart = (kept p order all apart).1

pub next_made : (p : Snapshot) (order : Order) → AllWait p.rules p.marking p.view.parked → AreApart p.view.parked
    → made (replied order (replies p order)) p ≡ next p order
next_made p order all apart = (kept p order all apart).0
