-- Where the receiver's orders went.
use Rattle.std.proofs.Common.{◌≡◌, ℕ, ◌+◌, inl, inr, Bool, false, [], ◌∷◌, ◌++◌, Option, take}
use Rattle.std.proofs.Common.{refl, sym, ap, ◌∙◌, subst, append_assoc, append-nil}
use Rattle.std.specs.Prelude.{IfSome, None, Some, slice_get, ◌||◌}
use Rattle.fl_counter.specs.Asked.{Orders}
use Rattle.fl_order.specs.declared.order.Order.{Order}
use Rattle.fl_transport.specs.Said.{orders_in}
use Rattle.fl_transport.specs.declared.handshake.Incoming.{Incoming}
use Rattle.fl_workers.proofs.BatchLemmas.{take_next}
use Rattle.fl_workers.proofs.WorkedLemmas.{none_worked, then_worked}
use Rattle.fl_workers.specs.Dispatched.{AreDispatched, AreMerged, DispatchesMore, HandlesMore, HasGot, HasGotIf, Inline}
use Rattle.fl_workers.specs.Worked.{HasWorked, Shows}

-- ---- two lists as one

-- one list alone
first_alone : (us : Orders) → AreMerged us [] us
first_alone [] = (refl, refl)
first_alone (u ∷ us) = inl (us, refl, first_alone us)

second_alone : (us : Orders) → AreMerged [] us us
second_alone [] = (refl, refl)
second_alone (u ∷ us) = inr (us, refl, second_alone us)

-- more come to the first, or to the second
first_more : (xs ys zs us : Orders) → AreMerged xs ys zs → AreMerged (xs ++ us) ys (zs ++ us)
first_more xs ys [] us none = rw (none.0, none.1) (first_alone us)
first_more xs ys (z ∷ zs) us (inl it) = inl (it.0 ++ us, ap (λ l. l ++ us) it.1, first_more it.0 ys zs us it.2)
first_more xs ys (z ∷ zs) us (inr it) = inr (it.0, it.1, first_more xs it.0 zs us it.2)

second_more : (xs ys zs us : Orders) → AreMerged xs ys zs → AreMerged xs (ys ++ us) (zs ++ us)
second_more xs ys [] us none = rw (none.0, none.1) (second_alone us)
second_more xs ys (z ∷ zs) us (inl it) = inl (it.0, it.1, second_more it.0 ys zs us it.2)
second_more xs ys (z ∷ zs) us (inr it) = inr (it.0 ++ us, ap (λ l. l ++ us) it.1, second_more xs it.0 zs us it.2)

-- ---- a worker in the receiver's thread

-- nothing came
pub handles_none : (shows : Shows) (here : Inline) → HandlesMore shows here here []
handles_none shows here = record {
  got = λ first orders before. subst (HasGot shows first here) (sym (append-nil orders)) before;
}

-- an order more waits
pub waits_more : (shows : Shows) (old mid new : Inline) (order : Order) → HandlesMore shows old mid []
    → new.end ≡ mid.end → new.standing ≡ mid.standing → new.waiting ≡ mid.waiting ++ order ∷ [] → new.refused ≡ mid.refused
    → new.lost ≡ mid.lost → HandlesMore shows old new (order ∷ [])
waits_more shows old mid new order first_step end standing waiting refused lost = record {
  got = λ first orders before.
      let so_far = subst (HasGot shows first mid) (append-nil orders) (first_step.got first orders before) in
      record {
        end = end ∙ so_far.end;
        handled = so_far.handled;
        are = ap (λ l. l ++ order ∷ []) so_far.are ∙ append_assoc so_far.handled mid.waiting (order ∷ [])
            ∙ ap (λ l. so_far.handled ++ l) (sym waiting);
        worked = rw (standing, refused, lost) so_far.worked;
      };
}

-- all that waited are handled
pub all_handled : (shows : Shows) (old new : Inline) (orders : Orders) (any gone : Bool) → new.end ≡ old.end
    → orders ≡ old.waiting
    → HasWorked shows orders old.standing new.standing any gone → (new.refused ≡ (old.refused || any))
    × (new.lost ≡ (old.lost || gone)) → new.waiting ≡ [] → HandlesMore shows old new []
all_handled shows old new orders any gone end are worked failed none = record {
  got = λ first came before. record {
    end = end ∙ before.end;
    handled = before.handled ++ orders;
    are = append-nil came ∙ before.are ∙ ap (λ l. before.handled ++ l) (sym are)
        ∙ sym (append-nil (before.handled ++ orders)) ∙ ap (λ l. (before.handled ++ orders) ++ l) (sym none);
    worked = then_worked shows before.handled orders first.standing old.standing new.standing old.refused any new.refused
        old.lost gone new.lost failed before.worked worked;
  };
}

-- ---- the dispatcher

-- nothing came
pub dispatches_none : (shows : Shows) (put : Orders) (here : Option Inline) → DispatchesMore shows put here put here []
dispatches_none shows put here = record {
  dispatched = λ first orders before. subst (AreDispatched shows first put here) (sym (append-nil orders)) before;
}

-- the same, by other names
pub still_dispatches : (shows : Shows) (put put_now : Orders) (old new : Option Inline) → put_now ≡ put → new ≡ old
    → DispatchesMore shows put old put_now new []
still_dispatches shows put put_now old new same here = rw (same, here) (dispatches_none shows put old)

-- some are put into the intake
pub dispatches_put : (shows : Shows) (put put_now more : Orders) (old new : Option Inline) → put_now ≡ put ++ more
    → new ≡ old → DispatchesMore shows put old put_now new more
dispatches_put shows put put_now more old new is same = rw same (record {
  dispatched = λ first orders before. record {
    got = before.got;
    there = before.there;
    merged = rw is (first_more put before.got orders more before.merged);
  };
})

got_more : (shows : Shows) (first : Option Inline) (old new : Inline) (got more : Orders) → HandlesMore shows old new more
    → HasGotIf shows first (Some old) got → HasGotIf shows first (Some new) (got ++ more)
got_more shows None old new got more handles never = absurd never
got_more shows (Some first) old new got more handles before = handles.got first got before

-- the worker in the receiver's thread gets some
pub dispatches_inline : (shows : Shows) (put put_now more : Orders) (old new : Inline) → put_now ≡ put
    → HandlesMore shows old new more → DispatchesMore shows put (Some old) put_now (Some new) more
dispatches_inline shows put put_now more old new same handles = rw same (record {
  dispatched = λ first orders before. record {
    got = before.got ++ more;
    there = got_more shows first old new before.got more handles before.there;
    merged = second_more put before.got orders more before.merged;
  };
})

-- some, and then some more
pub dispatches_then : (shows : Shows) (a b c : Orders) (k m n : Option Inline) (xs ys : Orders)
    → DispatchesMore shows a k b m xs → DispatchesMore shows b m c n ys → DispatchesMore shows a k c n (xs ++ ys)
dispatches_then shows a b c k m n xs ys one two = record {
  dispatched = λ first orders before. subst (AreDispatched shows first c n) (append_assoc orders xs ys)
      (two.dispatched first (orders ++ xs) (one.dispatched first orders before));
}

-- the same if the second are none
pub dispatches_and_none : (shows : Shows) (a b c : Orders) (k m n : Option Inline) (xs : Orders)
    → DispatchesMore shows a k b m xs → DispatchesMore shows b m c n [] → DispatchesMore shows a k c n xs
dispatches_and_none shows a b c k m n xs one two =
    subst (DispatchesMore shows a k c n) (append-nil xs) (dispatches_then shows a b c k m n xs [] one two)

-- the order at this place of a batch comes behind those before it
pub dispatches_next : (shows : Shows) (a b c : Orders) (k m n : Option Inline) (orders : Orders) (i : ℕ) (order : Order)
    → slice_get orders i ≡ Some order → DispatchesMore shows a k b m (take i orders)
    → DispatchesMore shows b m c n (order ∷ []) → DispatchesMore shows a k c n (take (i + 1) orders)
dispatches_next shows a b c k m n orders i order at so_far one =
    subst (DispatchesMore shows a k c n) (sym (take_next orders i order at))
    (dispatches_then shows a b c k m n (take i orders) (order ∷ []) so_far one)

-- the orders of what a message is, by another name of it
pub dispatches_as : (shows : Shows) (a b : Orders) (k m : Option Inline) (one it : Incoming) → one ≡ it
    → DispatchesMore shows a k b m (orders_in one) → DispatchesMore shows a k b m (orders_in it)
dispatches_as shows a b k m one it same some = subst (λ i. DispatchesMore shows a k b m (orders_in i)) same some

-- what was dispatched is so still
pub dispatched_still : (shows : Shows) (first m n : Option Inline) (b c orders : Orders) → DispatchesMore shows b m c n []
    → AreDispatched shows first b m orders → AreDispatched shows first c n orders
dispatched_still shows first m n b c orders none before =
    subst (AreDispatched shows first c n) (append-nil orders) (none.dispatched first orders before)

-- nothing was dispatched yet
pub none_dispatched : (shows : Shows) (put : Orders) (here : Option Inline) → put ≡ []
    → IfSome here (λ worker. (worker.waiting ≡ []) × (worker.refused ≡ false)) → AreDispatched shows here put here []
none_dispatched shows put None none idle = record { got = []; there = refl; merged = (none, refl) }
none_dispatched shows put (Some here) none idle = record {
  got = [];
  there = record {
    end = refl;
    handled = [];
    are = sym idle.0;
    worked = none_worked shows here.standing here.refused here.lost idle.1;
  };
  merged = (none, refl);
}
