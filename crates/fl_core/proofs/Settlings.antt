-- Settling as a function, and in words.
use Rattle.std.proofs.Common.{◌≡◌, ◌↔◌, ℕ, zero, suc, Bool, true, false, cond, Option, Some, None, List, [], ◌∷◌, ◌++◌}
use Rattle.std.proofs.Common.{append_assoc, append-nil, length, refl, sym, ap, ◌∙◌, subst, arith}
use Rattle.fl_waiting.specs.declared.parked.Request.{Request}
use Rattle.fl_waiting.specs.declared.rules.Rules.{Rules}
use Rattle.fl_waiting.specs.Waiting.{waits, AllBehind, AllWait, AreApart}
use Rattle.fl_core.specs.Settling.{Present, Settled, present, granted_told, marking_granted, free_behind, oldest_free}
use Rattle.fl_core.specs.Settling.{with_told, answered_first, settled_within, settled, IsSettled, done, one}
use Rattle.fl_core.proofs.Taken.{keep, apart_without}
use Rattle.fl_order.specs.declared.told.Told.{Told}
use Rattle.fl_marks.specs.Marking.{Marking}

-- each of the requests waits; these are older than all
abbrev pub WaitBehind : Rules → Marking → List Request → List Request → Type 0
WaitBehind rules m before parked = AllBehind (λ older r. waits rules m older r ≡ true) before parked

-- where the oldest request stands that doesn't wait; these are older than all
pub record IsOldest (rules : Rules) (m : Marking) (before parked : List Request) (r : Request) (others : List Request) : Type 0 where
  pub older : List Request
  pub younger : List Request
  pub stands : parked ≡ older ++ r ∷ younger
  pub left : others ≡ older ++ younger
  pub all : WaitBehind rules m before older
  pub free : waits rules m (before ++ older) r ≡ false

-- so far tolds were given, and what is left to do ends alike
pub record IsSettling (rules : Rules) (s t : Present) (given told : List Told) : Type 0 where
  pub tolds : told ++ (settled rules t).tolds ≡ given ++ (settled rules s).tolds
  pub present : (settled rules t).present ≡ (settled rules s).present

module _ (rules : Rules) where
  none_behind : (m : Marking) (before parked : List Request) → free_behind rules m before parked ≡ None → WaitBehind rules m before parked
  unfolding free_behind
  none_behind m before [] e = tt
  none_behind m before (a ∷ parked) e =
      go (waits rules m before a) refl (free_behind rules m (before ++ a ∷ []) parked) refl e (none_behind m (before ++ a ∷ []) parked)
    where
      go : (b : Bool) → waits rules m before a ≡ b → (o : Option (Request × List Request)) → free_behind rules m (before ++ a ∷ []) parked ≡ o
          → cond b (keep a o) (Some (a, parked)) ≡ None
          → (free_behind rules m (before ++ a ∷ []) parked ≡ None → WaitBehind rules m (before ++ a ∷ []) parked) → WaitBehind rules m before (a ∷ parked)
      go true c None o e f = (c, f o)
      go true c (Some p) o e f = absurd (cc e)
      go false c x o e f = absurd (cc e)

  pub none_free : (m : Marking) (parked : List Request) → oldest_free rules m parked ≡ None → AllWait rules m parked
  none_free m parked e = none_behind m [] parked e

  wait_behind : (m : Marking) (before parked : List Request) → WaitBehind rules m before parked → free_behind rules m before parked ≡ None
  unfolding free_behind
  wait_behind m before [] all = refl
  wait_behind m before (a ∷ parked) all =
      λ i. cond (all.0 i) (keep a (wait_behind m (before ++ a ∷ []) parked all.1 i)) (Some (a, parked))

  pub all_wait : (m : Marking) (parked : List Request) → AllWait rules m parked → oldest_free rules m parked ≡ None
  all_wait m parked all = wait_behind m [] parked all

  oldest_behind : (m : Marking) (before parked : List Request) (r : Request) (others : List Request) → free_behind rules m before parked ≡ Some (r, others)
      → IsOldest rules m before parked r others
  unfolding free_behind
  oldest_behind m before [] r others e = absurd (cc e)
  oldest_behind m before (a ∷ parked) r others e =
      go (waits rules m before a) refl (free_behind rules m (before ++ a ∷ []) parked) refl e (oldest_behind m (before ++ a ∷ []) parked)
    where
      go : (b : Bool) → waits rules m before a ≡ b → (o : Option (Request × List Request)) → free_behind rules m (before ++ a ∷ []) parked ≡ o
          → cond b (keep a o) (Some (a, parked)) ≡ Some (r, others)
          → ((k : Request) (l : List Request) → free_behind rules m (before ++ a ∷ []) parked ≡ Some (k, l) → IsOldest rules m (before ++ a ∷ []) parked k l)
          → IsOldest rules m before (a ∷ parked) r others
      go true c None o e f = absurd (cc e)
      go true c (Some p) o e f =
          let w = f p.0 p.1 o in
          let both : ◌≡◌ {A = Request × List Request} (p.0, a ∷ p.1) (r, others) = cc in
          let asks : p.0 ≡ r = ap (λ (q : Request × List Request). q.0) both in
          let lefts : a ∷ p.1 ≡ others = ap (λ (q : Request × List Request). q.1) both in
          record {
            older = a ∷ w.older;
            younger = w.younger;
            stands = ap (λ xs. a ∷ xs) w.stands ∙ ap (λ k. a ∷ (w.older ++ k ∷ w.younger)) asks;
            left = sym lefts ∙ ap (λ xs. a ∷ xs) w.left;
            all = (c, w.all);
            free = ap (waits rules m (before ++ a ∷ w.older)) (sym asks) ∙ ap (λ xs. waits rules m xs p.0) (sym (append_assoc before (a ∷ []) w.older)) ∙ w.free;
          }
      go false c x o e f =
          let both : ◌≡◌ {A = Request × List Request} (a, parked) (r, others) = cc in
          let asks : a ≡ r = ap (λ (q : Request × List Request). q.0) both in
          let lefts : parked ≡ others = ap (λ (q : Request × List Request). q.1) both in
          record {
            older = [];
            younger = parked;
            stands = ap (λ k. k ∷ parked) asks;
            left = sym lefts;
            all = tt;
            free = ap (waits rules m (before ++ [])) (sym asks) ∙ ap (λ xs. waits rules m xs a) (append-nil before) ∙ c;
          }

  pub is_oldest : (m : Marking) (parked : List Request) (r : Request) (others : List Request) → oldest_free rules m parked ≡ Some (r, others)
      → IsOldest rules m [] parked r others
  is_oldest m parked r others e = oldest_behind m [] parked r others e

  oldest_is : (m : Marking) (before older : List Request) (r : Request) (younger : List Request) → WaitBehind rules m before older
      → waits rules m (before ++ older) r ≡ false → free_behind rules m before (older ++ r ∷ younger) ≡ Some (r, older ++ younger)
  unfolding free_behind
  oldest_is m before [] r younger all free =
      ap (λ b. cond b (keep r (free_behind rules m (before ++ r ∷ []) younger)) (Some (r, younger))) (ap (λ xs. waits rules m xs r) (sym (append-nil before)) ∙ free)
  oldest_is m before (a ∷ older) r younger all free =
      λ i. cond (all.0 i) (keep a (oldest_is m (before ++ a ∷ []) older r younger all.1
      (ap (λ xs. waits rules m xs r) (append_assoc before (a ∷ []) older) ∙ free) i)) (Some (a, older ++ r ∷ younger))

  -- the two laws by which settling computes
  pub settled_none : (m : Marking) (parked : List Request) → AllWait rules m parked → settled rules (present m parked) ≡ record { present = present m parked; tolds = [] }
  unfolding settled_within
  settled_none m [] all = refl
  settled_none m (a ∷ parked) all = ap (answered_first rules.runs m (a ∷ parked) _) (all_wait m (a ∷ parked) all)

  shorter : (older : List Request) (r : Request) (younger : List Request) → length (older ++ r ∷ younger) ≡ suc (length (older ++ younger))
  shorter [] r younger = refl
  shorter (a ∷ older) r younger = ap suc (shorter older r younger)

  pub one_shorter : {m : Marking} {parked : List Request} {r : Request} {others : List Request} → IsOldest rules m [] parked r others → length parked ≡ suc (length others)
  one_shorter {r = r} w = ap length w.stands ∙ shorter w.older r w.younger ∙ ap (λ xs. suc (length xs)) (sym w.left)

  settled_one : (m : Marking) (parked : List Request) (r : Request) (others : List Request) → oldest_free rules m parked ≡ Some (r, others)
      → length parked ≡ suc (length others)
      → settled rules (present m parked) ≡ with_told (granted_told rules.runs m r) (settled rules (present (marking_granted rules.runs m r) others))
  unfolding settled_within
  settled_one m parked r others e shorter =
      ap (λ n. settled_within rules n m parked) shorter ∙ ap (answered_first rules.runs m parked (λ p. settled_within rules (length others) (marking_granted rules.runs m p.0) p.1)) e

  pub settled_first : (m : Marking) (parked : List Request) (r : Request) (others : List Request) → oldest_free rules m parked ≡ Some (r, others)
      → settled rules (present m parked) ≡ with_told (granted_told rules.runs m r) (settled rules (present (marking_granted rules.runs m r) others))
  settled_first m parked r others e = settled_one m parked r others e (one_shorter (is_oldest m parked r others e))

  -- the function is in the words
  sound : (n : ℕ) (m : Marking) (parked : List Request) → length parked ≡ n
      → IsSettled rules (present m parked) (settled rules (present m parked)).tolds (settled rules (present m parked)).present
  sound zero m [] e = subst (λ s. IsSettled rules (present m []) s.tolds s.present) (sym (settled_none m [] tt)) (done tt)
  sound zero m (a ∷ parked) e = absurd (omega arith)
  sound (suc n) m parked e = go (oldest_free rules m parked) refl (λ r others. sound n (marking_granted rules.runs m r) others)
    where
      go : (o : Option (Request × List Request)) → oldest_free rules m parked ≡ o
          → ((r : Request) (others : List Request) → length others ≡ n
          → IsSettled rules (present (marking_granted rules.runs m r) others) (settled rules (present (marking_granted rules.runs m r) others)).tolds
          (settled rules (present (marking_granted rules.runs m r) others)).present)
          → IsSettled rules (present m parked) (settled rules (present m parked)).tolds (settled rules (present m parked)).present
      go None o f = let all = none_free m parked o in subst (λ s. IsSettled rules (present m parked) s.tolds s.present) (sym (settled_none m parked all)) (done all)
      go (Some p) o f =
          let w = is_oldest m parked p.0 p.1 o in
          let rest = settled rules (present (marking_granted rules.runs m p.0) p.1) in
          let left : length p.1 ≡ n = omega (arith, one_shorter w) in
          subst (λ s. IsSettled rules (present m parked) s.tolds s.present) (sym (settled_first m parked p.0 p.1 o))
          (one w.older p.0 w.younger w.stands w.all w.free
          (subst (λ xs. IsSettled rules (present (marking_granted rules.runs m p.0) xs) rest.tolds rest.present) w.left (f p.0 p.1 left)))

  pub is_settled : (s : Present) → IsSettled rules s (settled rules s).tolds (settled rules s).present
  is_settled s = sound (length s.parked) s.marking s.parked refl

  -- and the words leave no choice
  complete : {s after : Present} {tolds : List Told} → IsSettled rules s tolds after → settled rules s ≡ record { present = after; tolds = tolds }
  complete (done {m} {parked} all) = settled_none m parked all
  complete (one {m} {parked} {tolds} {after} older r younger stands all free rest) =
      settled_first m parked r (older ++ younger) (ap (oldest_free rules m) stands ∙ oldest_is m [] older r younger all free)
      ∙ ap (with_told (granted_told rules.runs m r)) (complete rest)

  pub settling_told : (s after : Present) (tolds : List Told) → IsSettled rules s tolds after ↔ ((tolds ≡ (settled rules s).tolds) × (after ≡ (settled rules s).present))
  settling_told s after tolds = (
    λ w. let e = complete w in (ap (λ (r : Settled). r.tolds) (sym e), ap (λ (r : Settled). r.present) (sym e)),
    λ e. subst (λ t. IsSettled rules s t after) (sym e.0) (subst (λ (a : Present). IsSettled rules s (settled rules s).tolds a) (sym e.1) (is_settled s)),
  )

  -- nothing is told exactly if every request waits
  waits_where_silent : {s after : Present} {tolds : List Told} → IsSettled rules s tolds after → tolds ≡ [] → AllWait rules s.marking s.parked
  waits_where_silent (done all) e = all
  waits_where_silent (one older r younger stands all free rest) e = absurd (cc e)

  pub nothing_told : (s : Present) → ((settled rules s).tolds ≡ []) ↔ AllWait rules s.marking s.parked
  nothing_told s = (waits_where_silent (is_settled s), λ all. ap (λ (t : Settled). t.tolds) (settled_none s.marking s.parked all))

  -- afterwards every request waits
  left_wait : {s after : Present} {tolds : List Told} → IsSettled rules s tolds after → AllWait rules after.marking after.parked
  left_wait (done all) = all
  left_wait (one older r younger stands all free rest) = left_wait rest

  pub nothing_left : (s : Present) → AllWait rules (settled rules s).present.marking (settled rules s).present.parked
  nothing_left s = left_wait (is_settled s)

  -- and no two have one unique, if that was so before
  left_apart : {s after : Present} {tolds : List Told} → IsSettled rules s tolds after → AreApart s.parked → AreApart after.parked
  left_apart (done all) apart = apart
  left_apart (one older r younger stands all free rest) apart = left_apart rest (apart_without older r younger (subst AreApart stands apart)).1

  pub settled_apart : (s : Present) → AreApart s.parked → AreApart (settled rules s).present.parked
  settled_apart s = left_apart (is_settled s)

  pub settling_starts : (s : Present) (given : List Told) → IsSettling rules s s given given
  settling_starts s given = record { tolds = refl; present = refl }

  pub settling_goes_on : (s : Present) (given told more : List Told) (m later : Marking) (parked others : List Request) (r : Request) (reply : Told)
      → IsSettling rules s (present m parked) given told
      → oldest_free rules m parked ≡ Some (r, others) → later ≡ marking_granted rules.runs m r → reply ≡ granted_told rules.runs m r → more ≡ told ++ reply ∷ []
      → IsSettling rules s (present later others) given more
  settling_goes_on s given told more m later parked others r reply so_far first later_is reply_is more_is =
      let e = settled_first m parked r others first in
      let rest = settled rules (present (marking_granted rules.runs m r) others) in
      let same : settled rules (present later others) ≡ rest = ap (λ n. settled rules (present n others)) later_is in
      record {
        tolds =
            (λ i. more_is i ++ (same i).tolds) ∙ append_assoc told (reply ∷ []) rest.tolds ∙ ap (λ t. told ++ t ∷ rest.tolds) reply_is
            ∙ ap (λ (t : Settled). told ++ t.tolds) (sym e) ∙ so_far.tolds;
        present = ap (λ (t : Settled). t.present) same ∙ ap (λ (t : Settled). t.present) (sym e) ∙ so_far.present;
      }

  pub settling_ends : (s : Present) (given told : List Told) (m : Marking) (parked : List Request) → IsSettling rules s (present m parked) given told
      → oldest_free rules m parked ≡ None → (told ≡ given ++ (settled rules s).tolds) × (present m parked ≡ (settled rules s).present)
  settling_ends s given told m parked so_far none =
      let e = settled_none m parked (none_free m parked none) in
      (sym (append-nil told) ∙ ap (λ (r : Settled). told ++ r.tolds) (sym e) ∙ so_far.tolds, ap (λ (r : Settled). r.present) (sym e) ∙ so_far.present)
