-- An order gives at most one reply to each unique.
use Rattle.std.proofs.Common.{◌≡◌, ℕ, zero, suc, ◌+◌, ◌-◌, ◌≤◌, Bool, true, false, List, [], ◌∷◌, ◌++◌, map, Option, None, Some}
use Rattle.std.proofs.Common.{refl, ap, arith, inl, inr}
use Rattle.std.specs.Prelude.{cond, fold, if◌then◌else◌, ◌==◌, ◌≢◌, ◌⊎◌, Result}
use Rattle.std.specs.List.{filter}
use Rattle.std.proofs.Math.Nat.{le_trans}
use Rattle.std.proofs.lemmas.Bool.{eq-eqb, eqb-true}
use Rattle.fl_core.specs.Effects.{Effect, followed_by, later, replied, told_first}
use Rattle.fl_core.specs.Replies.{ended, ended_all, ended_if, ended_with, ending_of, error_of, first_told, own_reply, picks}
use Rattle.fl_counter.specs.Tolds.{own_replies}
use Rattle.fl_core.specs.Settling.{IsSettled, Present, done, one, present, settled}
use Rattle.fl_core.specs.State.{Snapshot, View}
use Rattle.fl_core.specs.Step.{after_first, replies}
use Rattle.fl_desk.specs.Replay.{AllOthers}
use Rattle.fl_order.specs.declared.errno.Errno.{Errno}
use Rattle.fl_order.specs.declared.order.Order.{Order}
use Rattle.fl_order.specs.declared.told.Answer as answer
use Rattle.fl_order.specs.declared.told.Told.{Told}
use Rattle.fl_session.proofs.NewLemmas.{Settles}
use Rattle.fl_session.proofs.ParkedLemmas.{bit, first_by, later_fewer, laters_most, many, many_append, replied_most}
use Rattle.fl_waiting.specs.Waiting.{is_parked}
use Rattle.fl_waiting.specs.declared.parked.Request.{Request}
use Rattle.fl_waiting.specs.declared.rules.Rules.{Rules}

-- so many replies are to this unique
abbrev pub told_many : ℕ → List Told → ℕ
told_many u [] = 0
told_many u (t ∷ tolds) = bit (t.unique == u) + told_many u tolds

told_append : (u : ℕ) (xs ys : List Told) → told_many u (xs ++ ys) ≡ told_many u xs + told_many u ys
told_append u [] ys = omega arith
told_append u (x ∷ xs) ys = let more = told_append u xs ys in omega (arith, more)

-- ---- the first replies

own_many : (u : ℕ) (order : Order) (own : Option (Result answer.Answer Errno))
    → told_many u (own_replies order own) ≤ bit (order.unique == u)
own_many u order None = omega arith
own_many u order (Some result) = omega arith

kept_many : (keep : Bool) (u : ℕ) (e : Errno) (r : Request) (kept : List Request)
    → told_many u (map (ended_with e) (cond keep (r ∷ kept) kept)) ≤ bit (r.unique == u) + told_many u (map (ended_with e) kept)
kept_many true u e r kept = omega arith
kept_many false u e r kept = omega arith

ended_many : (u : ℕ) (e : Errno) (test : Request → Bool) (parked : List Request)
    → told_many u (ended_all e test parked) ≤ many u parked
ended_many u e test [] = omega arith
ended_many u e test (r ∷ parked) =
    let rest = ended_many u e test parked in
    le_trans (kept_many (test r) u e r (filter test parked)) (omega (arith, rest))

many_if : (waits : Bool) (u n : ℕ) (tolds : List Told) → told_many u tolds ≤ n → told_many u (if waits then [] else tolds) ≤ n
many_if true u n tolds le = omega arith
many_if false u n tolds le = le

first_many : (u : ℕ) (p : Snapshot) (order : Order) → many u p.view.parked + bit (order.unique == u) ≤ 1
    → told_many u (first_told p order) ≤ 1
first_many u p order le =
    let own : Option (Result answer.Answer Errno) = own_reply p.rules p.view p.marking order in
    let mine = own_many u order own in
    let others : told_many u (ended p.view order own) ≤ many u p.view.parked =
    many_if (is_parked order.unique p.view.parked) u (many u p.view.parked) _
    (elim (ending_of order.op own) as (λ x. told_many u (ended_if x p.view.parked) ≤ many u p.view.parked) [
      | None ↦ omega arith
      | Some ending ↦ ended_many u (error_of ending) (picks ending) p.view.parked
    ]) in
    let both : told_many u (first_told p order) ≡ told_many u (own_replies order own) + told_many u (ended p.view order own) =
    told_append u (own_replies order own) (ended p.view order own) in
    omega (arith, mine, others, both, le)

-- ---- a request that got a reply is parked no more

laters_none : (u : ℕ) (e : Effect) (tolds : List Told) → many u e.view.parked ≤ 1 → 1 ≤ told_many u tolds
    → many u (fold (λ e t. followed_by (later t) e) e tolds).view.parked ≤ 0
laters_none u e [] le some = absurd (omega (arith, some))
laters_none u e (t ∷ tolds) le some =
    by (t.unique == u) refl (λ few rest. laters_none u (followed_by (later t) e) tolds few rest)
  where
    now : Effect
    now = followed_by (later t) e

    left : ℕ
    left = many u (fold (λ e t. followed_by (later t) e) now tolds).view.parked

    by : (b : Bool) → (t.unique == u) ≡ b → (many u now.view.parked ≤ 1 → 1 ≤ told_many u tolds → left ≤ 0) → left ≤ 0
    by true is on =
        let less = (later_fewer u t e.view).less (eqb-true t.unique u is) in
        let rest = laters_most u now tolds in
        omega (arith, le, less, rest)
    by false is on =
        let most = (later_fewer u t e.view).most in
        let none : bit (t.unique == u) ≡ 0 = ap bit is in
        on (omega (arith, most, le)) (omega (arith, some, none))

replied_none : (u : ℕ) (order : Order) (tolds : List Told) (v : View) → many u v.parked + bit (order.unique == u) ≤ 1
    → 1 ≤ told_many u tolds → many u (replied order tolds v).view.parked ≤ 0
replied_none u order [] v le some = absurd (omega (arith, some))
replied_none u order (t ∷ tolds) v le some = by (t.unique == u) refl
  where
    first : many u (told_first order t v).view.parked ≤ (many u v.parked + bit (order.unique == u)) - bit (t.unique == u)
    first = first_by (t.unique == order.unique) u order t v refl

    by : (b : Bool) → (t.unique == u) ≡ b → many u (replied order (t ∷ tolds) v).view.parked ≤ 0
    by true is =
        let one : bit (t.unique == u) ≡ 1 = ap bit is in
        let rest = laters_most u (told_first order t v) tolds in
        omega (arith, le, first, one, rest)
    by false is =
        let none : bit (t.unique == u) ≡ 0 = ap bit is in
        laters_none u (told_first order t v) tolds (omega (arith, le, first)) (omega (arith, some, none))

-- ---- the replies of settling

settled_many : (u : ℕ) {rules : Rules} {s after : Present} {tolds : List Told} → IsSettled rules s tolds after
    → told_many u tolds ≤ many u s.parked
settled_many u (done {m} {parked} all) = omega arith
settled_many u (one {m} {parked} {tolds} {after} older r younger stands all free rest) =
    let whole : many u parked ≡ many u (older ++ r ∷ younger) = ap (many u) stands in
    let parts : many u (older ++ r ∷ younger) ≡ many u older + (bit (r.unique == u) + many u younger) =
    many_append u older (r ∷ younger) in
    let left = many_append u older younger in
    let more : told_many u tolds ≤ many u (older ++ younger) = settled_many u rest in
    omega (arith, whole, parts, left, more)

-- ---- all replies

pub step_once : Settles → (u : ℕ) (p : Snapshot) (order : Order) → many u p.view.parked + bit (order.unique == u) ≤ 1
    → told_many u (replies p order) ≤ 1
step_once settles u p order le = by (told_many u (first_told p order)) refl
  where
    after : Snapshot
    after = after_first p order

    later_many : told_many u (settled after.rules (present after.marking after.view.parked)).tolds ≤ many u after.view.parked
    later_many = settled_many u (settles after.rules (present after.marking after.view.parked))

    both : told_many u (replies p order)
        ≡ told_many u (first_told p order) + told_many u (settled after.rules (present after.marking after.view.parked)).tolds
    both = told_append u (first_told p order) (settled after.rules (present after.marking after.view.parked)).tolds

    by : (n : ℕ) → told_many u (first_told p order) ≡ n → told_many u (replies p order) ≤ 1
    by zero none =
        let most : many u after.view.parked ≤ many u p.view.parked + bit (order.unique == u) =
        replied_most u order (first_told p order) p.view in
        omega (arith, none, most, later_many, both, le)
    by (suc n) some =
        let first = first_many u p order le in
        let gone : many u after.view.parked ≤ 0 = replied_none u order (first_told p order) p.view le (omega (arith, some)) in
        omega (arith, first, gone, later_many, both)

-- ---- where it stands

-- a reply to this unique, between replies to others
pub record HasReplyTo (u : ℕ) (tolds : List Told) : Type 0 where
  pub before : List Told
  pub told : Told
  pub after : List Told
  pub is : tolds ≡ before ++ told ∷ after
  pub named : told.unique ≡ u
  pub others_before : AllOthers u before
  pub others_after : AllOthers u after

other_by : (u : ℕ) (t : Told) → (t.unique == u) ≡ false → t.unique ≢ u
other_by u t is = λ same. let both : (t.unique == u) ≡ true = eq-eqb t.unique u same in cc (is, both)

told_none : (u : ℕ) (tolds : List Told) → told_many u tolds ≤ 0 → AllOthers u tolds
told_none u [] le = tt
told_none u (t ∷ tolds) le = (
  λ same. let one : bit (t.unique == u) ≡ 1 = ap bit (eq-eqb t.unique u same) in omega (arith, one, le),
  told_none u tolds (omega (arith, le)),
)

pub told_once : (u : ℕ) (tolds : List Told) → told_many u tolds ≤ 1 → AllOthers u tolds ⊎ HasReplyTo u tolds
told_once u [] le = inl tt
told_once u (t ∷ tolds) le = by (t.unique == u) refl (λ few. told_once u tolds few)
  where
    on : (t.unique == u) ≡ false → AllOthers u tolds ⊎ HasReplyTo u tolds → AllOthers u (t ∷ tolds) ⊎ HasReplyTo u (t ∷ tolds)
    on is (inl others) = inl (other_by u t is, others)
    on is (inr has) = inr (record {
      before = t ∷ has.before;
      told = has.told;
      after = has.after;
      is = ap (λ l. t ∷ l) has.is;
      named = has.named;
      others_before = (other_by u t is, has.others_before);
      others_after = has.others_after;
    })

    by : (b : Bool) → (t.unique == u) ≡ b → (told_many u tolds ≤ 1 → AllOthers u tolds ⊎ HasReplyTo u tolds)
        → AllOthers u (t ∷ tolds) ⊎ HasReplyTo u (t ∷ tolds)
    by true is rest = inr (record {
      before = [];
      told = t;
      after = tolds;
      is = refl;
      named = eqb-true t.unique u is;
      others_before = tt;
      others_after = told_none u tolds (let one : bit (t.unique == u) ≡ 1 = ap bit is in omega (arith, one, le));
    })
    by false is rest = on is (rest (omega (arith, le)))
