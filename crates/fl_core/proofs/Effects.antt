-- Effects on a state, and on what contracts see of it.
use Rattle.std.proofs.Common.{◌≡◌, ◌≢◌, ℕ, true, false, cond, ◌==◌, Option, Some, None, Result, Err, List, [], ◌∷◌}
use Rattle.std.proofs.Common.{◌++◌, refl, sym, ap, ◌∙◌, arith}
use Rattle.std.proofs.lemmas.Bool.Decides.{nat_tests}
use Rattle.std.specs.FinMap.{empty}
use Rattle.std.specs.List.{fold, AllByRecursion}
use Rattle.fl_core.specs.State.{View, State, Snapshot, snapshot_of}
use Rattle.fl_counter.specs.Tolds.{own_replies}
use Rattle.fl_waiting.specs.Waiting.{taken_out}
use Rattle.fl_waiting.specs.declared.parked.Request.{Request}
use Rattle.fl_core.specs.Effects.{Effect, leaving, at_once, later_to, later, followed_by, told_first, replied, recorded}
use Rattle.fl_core.specs.Effects.{made}
use Rattle.fl_order.specs.declared.errno.Errno.{Errno}
use Rattle.fl_order.specs.declared.told.Answer.{Answer}
use Rattle.fl_order.specs.declared.told.Told.{Told}
use Rattle.fl_order.specs.declared.order.Order.{Order}
use Rattle.fl_marks.specs.Marking.{Marking}
use Rattle.fl_marks.specs.Change.{Change, after_change, after_changes}

after_changes-append : (later earlier : List Change) (m : Marking) → after_changes (later ++ earlier) m ≡ after_changes later (after_changes earlier m)
after_changes-append [] earlier m = refl
after_changes-append (c ∷ later) earlier m = ap (after_change c) (after_changes-append later earlier m)

-- what is shown of a state after an effect is what is shown of it before, after that effect
pub shown_recorded : (f : View → Effect) (s : State) → snapshot_of (recorded f s) ≡ made f (snapshot_of s)
shown_recorded f s = ap (λ (m : Marking). record { rules = s.rules; view = (f s.view).view; marking = m }) (after_changes-append (f s.view).changes s.changes empty)

-- what is read off its replies alone goes the same way in each state that shows what was there
pub is_recorded : (order : Order) (old new : Snapshot) (tolds : List Told) → new ≡ made (replied order tolds) old
    → (s : State) → snapshot_of s ≡ old → snapshot_of (recorded (replied order tolds) s) ≡ new
is_recorded order old new tolds new_is s stands = shown_recorded (replied order tolds) s ∙ ap (made (replied order tolds)) stands ∙ sym new_is

-- later replies, one after another
abbrev pub made_all : List Told → Snapshot → Snapshot
made_all tolds p = fold (λ p told. made (later told) p) p tolds

pub made_all-append : (xs ys : List Told) (p : Snapshot) → made_all (xs ++ ys) p ≡ made_all ys (made_all xs p)
made_all-append [] ys p = refl
made_all-append (x ∷ xs) ys p = made_all-append xs ys (made (later x) p)

made_twice : (f g : View → Effect) (p : Snapshot) → made (λ v. followed_by f (g v)) p ≡ made f (made g p)
made_twice f g p =
    ap (λ (m : Marking). record { rules = p.rules; view = (f (g p.view).view).view; marking = m })
    (after_changes-append (f (g p.view).view).changes (g p.view).changes p.marking)

made_fold : (tolds : List Told) (g : View → Effect) (p : Snapshot) → made (λ v. fold (λ e t. followed_by (later t) e) (g v) tolds) p ≡ made_all tolds (made g p)
made_fold [] g p = refl
made_fold (t ∷ tolds) g p = made_fold tolds (λ v. followed_by (later t) (g v)) p ∙ ap (made_all tolds) (made_twice (later t) g p)

equals_itself : (n : ℕ) → (n == n) ≡ true
equals_itself n = grind (arith, nat_tests)

differs_from_other : (m n : ℕ) → m ≢ n → (m == n) ≡ false
differs_from_other m n apart = grind (arith, nat_tests)

-- none of the replies is of this unique
abbrev pub AreOthers : ℕ → List Told → Type 0
AreOthers unique tolds = AllByRecursion (λ (told : Told). told.unique ≢ unique) tolds

-- an order's own reply, if it has one, and then each other reply
pub made_replied : (order : Order) (own : Option (Result Answer Errno)) (tolds : List Told) (p : Snapshot) → (own ≡ None → AreOthers order.unique tolds)
    → made (replied order (own_replies order own ++ tolds)) p ≡ made_all tolds (made (at_once order own) p)
made_replied order (Some reply) tolds p others =
    let told : Told = record { unique = order.unique; result = reply } in
    made_fold tolds (told_first order told) p
    ∙ ap (λ b. made_all tolds (made (λ v. cond b (at_once order (Some reply) v) (followed_by (later told) (at_once order None v))) p))
    (equals_itself order.unique)
made_replied order None [] p others = refl
made_replied order None (told ∷ tolds) p others =
    made_fold tolds (told_first order told) p
    ∙ ap (λ b. made_all tolds (made (λ v. cond b (at_once order (Some told.result) v) (followed_by (later told) (at_once order None v))) p))
    (differs_from_other told.unique order.unique (others refl).0)
    ∙ ap (made_all tolds) (made_twice (later told) (at_once order None) p)

-- a parked request that is told an error goes, and nothing else changes
pub late_error : (told : Told) (e : Errno) (v : View) (r : Request) (others : List Request) → taken_out told.unique v.parked ≡ Some (r, others)
    → told.result ≡ Err e → later told v ≡ leaving (record v { parked = others })
late_error told e v r others taken is = λ i. later_to (taken i) (is i) v
