-- A state whose parts fit is fit.
use Rattle.std.proofs.Common.{◌≡◌, ◌≢◌, ℕ, suc, ◌==◌, ◌&&◌, ◌||◌, Bool, true, false, cond, not, nat_le, Option, Some, Err}
use Rattle.std.proofs.Common.{List, [], ◌∷◌, ◌++◌, length, append_assoc, append-nil, refl, sym, ap, ◌∙◌, subst, arith}
use Rattle.std.proofs.lemmas.Bool.Decides.{nat_tests}
use Rattle.std.proofs.lemmas.List.Sums.{fold-append}
use Rattle.std.specs.List.{AllByRecursion}
use Rattle.fl_core.specs.Replies.{set_reply, room_reply}
use Rattle.fl_core.specs.Restored.{Part, a_node, a_file, a_lock, a_request, begun, told_part, with_part, fits, fits_lock, is_done}
use Rattle.fl_core.specs.State.{State, Snapshot, opening, snapshot_of}
use Rattle.fl_order.specs.declared.errno.Errno.{Errno}
use Rattle.fl_order.specs.declared.errno.Errno.TheVariants.{EAGAIN}
use Rattle.fl_order.specs.declared.told.Answer.{Answer}
use Rattle.fl_marks.specs.Bytes.{is_range}
use Rattle.fl_marks.specs.Conflict.{conflicts, IsLawful}
use Rattle.fl_marks.specs.Marking.{Marking, Stroke, stroked}
use Rattle.fl_marks.specs.declared.lock.Mark.{Mark}
use Rattle.fl_state.specs.Telling.{told_by, AreTold, none, one, IsFit}
use Rattle.fl_ranges.specs.Setting.{meant}
use Rattle.fl_waiting.specs.LockRequest.{is_malformed}
use Rattle.fl_waiting.specs.Waiting.{waits, is_parked, conflicts_with_held, passes, AllBehind, AllWait, AreApart}
use Rattle.fl_waiting.specs.declared.parked.Request.{Request}
use Rattle.fl_waiting.specs.declared.rules.Rules.{Rules}

-- ---- one request more

behind_more : (P : List Request → Request → Type 0) (older xs : List Request) (r : Request) → AllBehind P older xs → P (older ++ xs) r → AllBehind P older (xs ++ r ∷ [])
behind_more P older [] r all here = (subst (λ l. P l r) (append-nil older) here, tt)
behind_more P older (x ∷ xs) r all here =
    (all.0, behind_more P (older ++ x ∷ []) xs r all.1 (subst (λ l. P l r) (sym (append_assoc older (x ∷ []) xs)) here))

others_more : (u : ℕ) (parked : List Request) (r : Request) → AllByRecursion (λ (other : Request). other.unique ≢ u) parked → r.unique ≢ u
    → AllByRecursion (λ (other : Request). other.unique ≢ u) (parked ++ r ∷ [])
others_more u [] r all other = (other, tt)
others_more u (x ∷ parked) r all other = (all.0, others_more u parked r all.1 other)

either : (a b : Bool) → (a || b) ≡ false → (a ≡ false) × (b ≡ false)
either true b e = absurd (cc e)
either false b e = (refl, e)

apart_more : (parked : List Request) (r : Request) → AreApart parked → is_parked r.unique parked ≡ false → AreApart (parked ++ r ∷ [])
apart_more [] r apart fresh = (tt, tt)
apart_more (x ∷ parked) r apart fresh =
    let both = either (x.unique == r.unique) (is_parked r.unique parked) fresh in
    (others_more x.unique parked r apart.0 (other x.unique r.unique both.0), apart_more parked r apart.1 both.1)
  where
    other : (a b : ℕ) → (a == b) ≡ false → b ≢ a
    other a b e = grind (arith, nat_tests)

-- ---- what a test says that is passed

both : (a b : Bool) → (a && b) ≡ true → (a ≡ true) × (b ≡ true)
both true b e = (refl, e)
both false b e = absurd (cc e)

negated : (b : Bool) → not b ≡ true → b ≡ false
negated true e = absurd (cc e)
negated false e = refl

-- a lock that fits conflicts with none
no_conflict : (most : ℕ) (m : Marking) (s : Stroke) (mark : Option Mark) → is_done (set_reply most m s mark) ≡ true → conflicts_with_held m s mark ≡ false
no_conflict most m s mark done = go (conflicts_with_held m s mark) refl done
  where
    go : (b : Bool) → conflicts_with_held m s mark ≡ b → is_done {A = Answer} {E = Errno} (cond b (Err EAGAIN) (room_reply most m s)) ≡ true → b ≡ false
    go true e done = absurd (cc done)
    go false e done = refl

none_left : (parked : List Request) → (length parked == 0) ≡ true → parked ≡ []
none_left [] e = refl
none_left (r ∷ parked) e = absurd (never (length parked) e)
  where
    never : (n : ℕ) → (suc n == 0) ≡ true → ⊥
    never n e = grind (arith, nat_tests)

-- ---- one part more

-- what is shown of a state with one part more
pub shown : (part : Part) (s : State) → snapshot_of (told_part part s) ≡ with_part part (snapshot_of s)
shown (a_node number node) s = refl
shown (a_file fh node) s = refl
shown (a_lock r) s = refl
shown (a_request r) s = refl

pub shown_more : (rules : Rules) (node fh : ℕ) (before : List Part) (part : Part) →
    snapshot_of (told_by rules node fh (before ++ part ∷ [])) ≡ with_part part (snapshot_of (told_by rules node fh before))
shown_more rules node fh before part =
    ap snapshot_of (fold-append (λ s part. told_part part s) (begun rules node fh) before (part ∷ [])) ∙ shown part (told_by rules node fh before)

pub told_more : (rules : Rules) (node fh : ℕ) (before : List Part) (part : Part) → AreTold rules node fh before
    → fits (snapshot_of (told_by rules node fh before)) part ≡ true → AreTold rules node fh (before ++ part ∷ [])
told_more rules node fh before part told ok = one before part told ok refl

-- two lists with one more each are the same if these are
same_ends : {X : Type 0} (xs ys : List X) (x y : X) → xs ++ x ∷ [] ≡ ys ++ y ∷ [] → (xs ≡ ys) × (x ≡ y)
same_ends [] [] x y is = (refl, cc is)
same_ends [] (z ∷ []) x y is = absurd (cc is)
same_ends [] (z ∷ w ∷ ys) x y is = absurd (cc is)
same_ends (z ∷ []) [] x y is = absurd (cc is)
same_ends (z ∷ w ∷ xs) [] x y is = absurd (cc is)
same_ends (z ∷ xs) (w ∷ ys) x y is =
    let first : z ≡ w = cc is in
    let later = same_ends xs ys x y (cc is) in
    ((λ i. first i ∷ later.0 i), later.1)

pub fits_last : (rules : Rules) (node fh : ℕ) (before : List Part) (part : Part) → AreTold rules node fh (before ++ part ∷ [])
    → AreTold rules node fh before × (fits (snapshot_of (told_by rules node fh before)) part ≡ true)
fits_last rules node fh before part told = go told refl
  where
    go : {parts : List Part} → AreTold rules node fh parts → parts ≡ before ++ part ∷ [] → AreTold rules node fh before × (fits (snapshot_of (told_by rules node fh before)) part ≡ true)
    go none is = absurd (never before is)
      where
        never : (xs : List Part) → [] ≡ xs ++ part ∷ [] → ⊥
        never [] is = cc is
        never (x ∷ xs) is = cc is
    go (one front last {parts} so_far ok split) is =
        let same = same_ends front before last part (sym split ∙ is) in
        (subst (AreTold rules node fh) same.0 so_far, (λ i. fits (snapshot_of (told_by rules node fh (sym same.0 i))) (sym same.1 i)) ∙ ok)

-- the last of one or more
unsnoc : {X : Type 0} (x : X) (xs : List X) → (init : List X) × ((last : X) × (x ∷ xs ≡ init ++ last ∷ []))
unsnoc x [] = ([], (x, refl))
unsnoc x (y ∷ ys) = let more = unsnoc y ys in (x ∷ more.0, (more.1.0, ap (λ l. x ∷ l) more.1.1))

front_told : (rules : Rules) (node fh : ℕ) (front rest : List Part) → AreTold rules node fh (front ++ rest) → AreTold rules node fh front
front_told rules node fh front rest told = go told rest refl
  where
    go : {parts : List Part} → AreTold rules node fh parts → (rest : List Part) → parts ≡ front ++ rest → AreTold rules node fh front
    go told [] is = subst (AreTold rules node fh) (is ∙ append-nil front) told
    go none (x ∷ rest) is = absurd (never front is)
      where
        never : (xs : List Part) → [] ≡ xs ++ x ∷ rest → ⊥
        never [] is = cc is
        never (y ∷ ys) is = cc is
    go (one before part {parts} so_far ok split) (x ∷ rest) is =
        let last = unsnoc x rest in
        let same = same_ends before (front ++ last.0) part last.1.0
        (sym split ∙ is ∙ ap (λ l. front ++ l) last.1.1 ∙ sym (append_assoc front last.0 (last.1.0 ∷ []))) in
        go so_far last.0 same.0

pub fits_each : (rules : Rules) (node fh : ℕ) (front rest : List Part) (part : Part) → AreTold rules node fh (front ++ part ∷ rest)
    → fits (snapshot_of (told_by rules node fh front)) part ≡ true
fits_each rules node fh front rest part told =
    (fits_last rules node fh front part (front_told rules node fh (front ++ part ∷ []) rest
    (subst (AreTold rules node fh) (sym (append_assoc front (part ∷ []) rest)) told))).1

module _ (struck : (m : Marking) (s : Stroke) → ((mark : Mark) → s.mark ≡ Some mark → conflicts m s.key s.start s.end mark.kind ≡ false) → IsLawful m → IsLawful (stroked s m)) where
  one_more : (p : Snapshot) (part : Part) → IsFit p → fits p part ≡ true → IsFit (with_part part p)
  one_more p (a_node number node) fit ok = record { waiting = fit.waiting; apart = fit.apart; lawful = fit.lawful }
  one_more p (a_file fh node) fit ok = record { waiting = fit.waiting; apart = fit.apart; lawful = fit.lawful }
  one_more p (a_lock r) fit ok =
      let parts = both (length p.view.parked == 0) (fits_lock p.rules.runs p.marking r) ok in
      let done = both (is_range r.start r.end) _ parts.1 in
      let s = meant r in
      let free = no_conflict p.rules.runs p.marking s (Some r.mark) done.1 in
      record {
        waiting = subst (AllWait p.rules (stroked s p.marking)) (sym (none_left p.view.parked parts.0)) tt;
        apart = fit.apart;
        lawful = struck p.marking s
            (λ mark is. sym (ap (passes (λ (k : Mark). conflicts p.marking s.key s.start s.end k.kind)) is) ∙ free) fit.lawful;
      }
  one_more p (a_request r) fit ok =
      let shape = both (not (is_malformed r.ask)) _ ok in
      let fresh = both (not (is_parked r.unique p.view.parked)) _ shape.1 in
      let held = both (not (nat_le p.rules.parked (length p.view.parked))) _ fresh.1 in
      record {
        waiting = behind_more (λ older r. waits p.rules p.marking older r ≡ true) [] p.view.parked r fit.waiting held.1;
        apart = apart_more p.view.parked r fit.apart (negated _ fresh.0);
        lawful = fit.lawful;
      }

  pub told_fit : (rules : Rules) (node fh : ℕ) {parts : List Part} → IsLawful (snapshot_of (opening rules)).marking → AreTold rules node fh parts
      → IsFit (snapshot_of (told_by rules node fh parts))
  told_fit rules node fh lawful none = record { waiting = tt; apart = tt; lawful = lawful }
  told_fit rules node fh lawful (one before part {parts} told ok is) =
      let s = told_by rules node fh before in
      subst IsFit (sym (ap (λ l. snapshot_of (told_by rules node fh l)) is ∙ shown_more rules node fh before part))
      (one_more (snapshot_of s) part (told_fit rules node fh lawful told) ok)
