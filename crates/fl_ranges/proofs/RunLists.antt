-- Lists of runs: which run has a spot, in other lists of the same runs.
use Rattle.std.proofs.Common.{◌≡◌, ◌≤◌, Bool, true, false, cond, Option, Some, None, List, [], ◌∷◌, ◌++◌, map, refl, ap}
use Rattle.std.proofs.Common.{sym, ◌∙◌, subst}
use Rattle.std.specs.List.{find, filter, AllByRecursion}
use Rattle.std.specs.Option.{option_map}
use Rattle.std.specs.Ordering.{eq_by_cmp}
use Rattle.fl_marks.specs.declared.run.Run.{Run}
use Rattle.fl_marks.specs.Marking.{key_cmp, Spot, mark_at}
use Rattle.fl_ranges.specs.Inside.RunList.{has_spot, run_at, held_at, AreApart}
use Rattle.fl_ranges.specs.Setting.{meant}
use Rattle.fl_ranges.proofs.Spots.{same_key, key_itself, within, is_within}
use Rattle.fl_ranges.proofs.Each.{all_weaker}

-- ---- tests, as facts

pub record IsAt (r : Run) (q : Spot) : Type 0 where
  pub key : r.key ≡ q.0
  pub from : r.start ≤ q.1
  pub upto : q.1 ≤ r.end

pub at_spot : (r : Run) (q : Spot) → has_spot q r ≡ true → IsAt r q
at_spot r q e =
    let w = within (eq_by_cmp key_cmp r.key q.0) r.start q.1 r.end e in
    record { key = same_key r.key q.0 w.same; from = w.from; upto = w.upto }

pub spot_of : (r : Run) (q : Spot) → r.key ≡ q.0 → r.start ≤ q.1 → q.1 ≤ r.end → has_spot q r ≡ true
spot_of r q key from upto =
    is_within (eq_by_cmp key_cmp r.key q.0) r.start q.1 r.end (ap (eq_by_cmp key_cmp r.key) (sym key) ∙ key_itself r.key) from upto

-- ---- what holds of each run

module _ (P : Run → Type 0) where
  pub each_at : (rs : List Run) (t : Run → Bool) (r : Run) → AllByRecursion P rs → find t rs ≡ Some r → P r
  each_at [] t r all e = absurd (cc e)
  each_at (x ∷ xs) t r all e = go (each_at xs t r all.1) (t x) e
    where
      go : (find t xs ≡ Some r → P r) → (b : Bool) → cond b (Some x) (find t xs) ≡ Some r → P r
      go rest true h = let same : x ≡ r = cc h in subst P same all.0
      go rest false h = rest h

  pub each_filter : (p : Run → Bool) (rs : List Run) → AllByRecursion P rs → AllByRecursion (λ r. (p r ≡ true) × P r) (filter p rs)
  each_filter p [] all = tt
  each_filter p (x ∷ xs) all = go (p x) refl (each_filter p xs all.1)
    where
      go : (b : Bool) → p x ≡ b → AllByRecursion (λ r. (p r ≡ true) × P r) (filter p xs) →
          AllByRecursion (λ r. (p r ≡ true) × P r) (cond b (x ∷ filter p xs) (filter p xs))
      go true e rest = ((e, all.0), rest)
      go false e rest = rest

-- ---- the run that has a spot

pub run_has : (rs : List Run) (q : Spot) (r : Run) → run_at rs q ≡ Some r → has_spot q r ≡ true
run_has [] q r e = absurd (cc e)
run_has (x ∷ xs) q r e = go (run_has xs q r) (has_spot q x) refl e
  where
    go : (run_at xs q ≡ Some r → has_spot q r ≡ true) → (b : Bool) → has_spot q x ≡ b → cond b (Some x) (run_at xs q) ≡ Some r → has_spot q r ≡ true
    go rest true is h = let same : x ≡ r = cc h in subst (λ (y : Run). has_spot q y ≡ true) same is
    go rest false is h = rest h

-- runs that are apart: a run that has one spot is the one that has any other of its own
pub same_run : (rs : List Run) → AreApart rs → (q p : Spot) (r : Run) → run_at rs q ≡ Some r → has_spot p r ≡ true → run_at rs p ≡ Some r
same_run [] apart q p r e has = absurd (cc e)
same_run (x ∷ xs) apart q p r e has = go (λ h. same_run xs apart.2 q p r h has) (has_spot q x) (has_spot p x) refl e
  where
    go : (run_at xs q ≡ Some r → run_at xs p ≡ Some r) → (b c : Bool) → has_spot p x ≡ c → cond b (Some x) (run_at xs q) ≡ Some r →
        cond c (Some x) (run_at xs p) ≡ Some r
    go rest true true is h = h
    go rest true false is h = let same : x ≡ r = cc h in absurd (cc (sym is ∙ ap (has_spot p) same ∙ has))
    go rest false true is h = absurd (cc (sym (apart.1 p is) ∙ rest h))
    go rest false false is h = rest h

found_later : (x : Run) (xs : List Run) → ((q : Spot) → has_spot q x ≡ true → run_at xs q ≡ None) → (r : Run) →
    ((q : Spot) → has_spot q r ≡ true → run_at xs q ≡ Some r) → (q : Spot) → has_spot q r ≡ true → run_at (x ∷ xs) q ≡ Some r
found_later x xs clear r found q has = go (has_spot q x) refl
  where
    go : (b : Bool) → has_spot q x ≡ b → cond b (Some x) (run_at xs q) ≡ Some r
    go true is = absurd (cc (sym (clear q is) ∙ found q has))
    go false is = found q has

-- each of them is the run that has its spots
pub each_found : (rs : List Run) → AreApart rs → AllByRecursion (λ r. (q : Spot) → has_spot q r ≡ true → run_at rs q ≡ Some r) rs
each_found [] apart = tt
each_found (x ∷ xs) apart = (
  λ q has. ap (λ b. cond b (Some x) (run_at xs q)) has,
  all_weaker (λ r. (q : Spot) → has_spot q r ≡ true → run_at xs q ≡ Some r)
      (λ r. (q : Spot) → has_spot q r ≡ true → run_at (x ∷ xs) q ≡ Some r) (found_later x xs apart.1) xs (each_found xs apart.2),
)

pub each_ordered : (rs : List Run) → AreApart rs → AllByRecursion (λ r. r.start ≤ r.end) rs
each_ordered [] apart = tt
each_ordered (x ∷ xs) apart = (apart.0, each_ordered xs apart.2)

-- ---- some of the runs

-- the run, if the test keeps it
abbrev pub keep : (Run → Bool) → Option Run → Option Run
keep p None = None
keep p (Some r) = cond (p r) (Some r) None

pub run_at-filter : (p : Run → Bool) (rs : List Run) → AreApart rs → (q : Spot) → run_at (filter p rs) q ≡ keep p (run_at rs q)
run_at-filter p [] apart q = refl
run_at-filter p (x ∷ xs) apart q = go (p x) (has_spot q x) refl refl (run_at-filter p xs apart.2 q)
  where
    go : (b c : Bool) → p x ≡ b → has_spot q x ≡ c → run_at (filter p xs) q ≡ keep p (run_at xs q) →
        run_at (cond b (x ∷ filter p xs) (filter p xs)) q ≡ keep p (cond c (Some x) (run_at xs q))
    go true true is has rest = ap (λ d. cond d (Some x) (run_at (filter p xs) q)) has ∙ sym (ap (λ d. cond d (Some x) None) is)
    go true false is has rest = ap (λ d. cond d (Some x) (run_at (filter p xs) q)) has ∙ rest
    go false true is has rest = rest ∙ ap (keep p) (apart.1 q has) ∙ sym (ap (λ d. cond d (Some x) None) is)
    go false false is has rest = rest

kept_none : (p : Run → Bool) (o : Option Run) → o ≡ None → keep p o ≡ None
kept_none p o e = ap (keep p) e

pub apart-filter : (p : Run → Bool) (rs : List Run) → AreApart rs → AreApart (filter p rs)
apart-filter p [] apart = tt
apart-filter p (x ∷ xs) apart = go (p x) (apart-filter p xs apart.2)
  where
    go : (b : Bool) → AreApart (filter p xs) → AreApart (cond b (x ∷ filter p xs) (filter p xs))
    go true rest = (apart.0, λ q has. run_at-filter p xs apart.2 q ∙ kept_none p _ (apart.1 q has), rest)
    go false rest = rest

-- ---- one run in another place of the list

swapped : {A : Type 0} (b c : Bool) (x y : Option A) (z : Option A) → (b ≡ true → c ≡ true → ⊥) → cond b x (cond c y z) ≡ cond c y (cond b x z)
swapped true true x y z apart = absurd (apart refl refl)
swapped true false x y z apart = refl
swapped false c x y z apart = refl

pub run_at-moved : (r : Run) (xs ys : List Run) → AreApart (r ∷ xs ++ ys) → (q : Spot) → run_at (xs ++ r ∷ ys) q ≡ run_at (r ∷ xs ++ ys) q
run_at-moved r [] ys apart q = refl
run_at-moved r (x ∷ xs) ys apart q =
    ap (λ o. cond (has_spot q x) (Some x) o) (run_at-moved r xs ys (apart.0, (λ p has. later p (apart.1 p has)), apart.2.2) q)
    ∙ swapped (has_spot q x) (has_spot q r) (Some x) (Some r) (run_at (xs ++ ys) q)
    (λ a b. absurd (cc (sym (apart.1 q b) ∙ ap (λ d. cond d (Some x) (run_at (xs ++ ys) q)) a)))
  where
    later : (p : Spot) → cond (has_spot p x) (Some x) (run_at (xs ++ ys) p) ≡ None → run_at (xs ++ ys) p ≡ None
    later p e = go (has_spot p x) e
      where
        go : (b : Bool) → cond b (Some x) (run_at (xs ++ ys) p) ≡ None → run_at (xs ++ ys) p ≡ None
        go true h = absurd (cc h)
        go false h = h

pub apart-moved : (r : Run) (xs ys : List Run) → AreApart (r ∷ xs ++ ys) → AreApart (xs ++ r ∷ ys)
apart-moved r [] ys apart = apart
apart-moved r (x ∷ xs) ys apart =
    let first : AreApart (r ∷ xs ++ ys) = (apart.0, (λ p has. later p (apart.1 p has)), apart.2.2) in (
      apart.2.0,
      λ q has. run_at-moved r xs ys first q ∙ alone q has (has_spot q r) refl,
      apart-moved r xs ys first,
    )
  where
    later : (p : Spot) → cond (has_spot p x) (Some x) (run_at (xs ++ ys) p) ≡ None → run_at (xs ++ ys) p ≡ None
    later p e = go (has_spot p x) e
      where
        go : (b : Bool) → cond b (Some x) (run_at (xs ++ ys) p) ≡ None → run_at (xs ++ ys) p ≡ None
        go true h = absurd (cc h)
        go false h = h

    alone : (q : Spot) → has_spot q x ≡ true → (b : Bool) → has_spot q r ≡ b → cond b (Some r) (run_at (xs ++ ys) q) ≡ None
    alone q has true is = absurd (cc (sym (apart.1 q is) ∙ ap (λ d. cond d (Some x) (run_at (xs ++ ys) q)) has))
    alone q has false is = apart.2.1 q has

pub each-moved : (P : Run → Type 0) (r : Run) (xs ys : List Run) → AllByRecursion P (r ∷ xs ++ ys) → AllByRecursion P (xs ++ r ∷ ys)
each-moved P r [] ys all = all
each-moved P r (x ∷ xs) ys all = (all.1.0, each-moved P r xs ys (all.0, all.1.1))

-- ---- marks

-- what the runs give a spot is what their strokes do
pub mark_at-runs : (rs : List Run) (q : Spot) → mark_at (map meant rs) q ≡ held_at rs q
mark_at-runs [] q = refl
mark_at-runs (x ∷ xs) q = go (has_spot q x) (mark_at-runs xs q)
  where
    go : (b : Bool) → mark_at (map meant xs) q ≡ held_at xs q →
        cond b (Some x.mark) (mark_at (map meant xs) q) ≡ option_map (λ (r : Run). r.mark) (cond b (Some x) (run_at xs q))
    go true rest = refl
    go false rest = rest
