-- The oldest request that passes a test, and the others.
use Rattle.std.proofs.Common.{◌≡◌, ◌≢◌, ℕ, suc, ◌==◌, ◌||◌, Bool, true, false, not, cond, Option, Some, None}
use Rattle.std.proofs.Common.{option_map, List, [], ◌∷◌, ◌++◌, length, refl, sym, ap, ◌∙◌, subst, arith}
use Rattle.std.proofs.lemmas.Bool.Decides.{nat_tests}
use Rattle.std.specs.List.{filter, AllByRecursion}
use Rattle.fl_waiting.specs.declared.parked.Request.{Request}
use Rattle.fl_waiting.specs.Waiting.{is_parked, taken_first, taken_out, AreApart}

abbrev pub keep : Request → Option (Request × List Request) → Option (Request × List Request)
keep r o = option_map (λ (p : Request × List Request). (p.0, r ∷ p.1)) o

-- each of the requests that are left
pub AllLeft : (Request → Type 0) → Option (Request × List Request) → Type 0
AllLeft P None = Unit {0}
AllLeft P (Some p) = P p.0 × AllByRecursion P p.1

pub ApartLeft : Option (Request × List Request) → Type 0
ApartLeft None = Unit {0}
ApartLeft (Some p) = AreApart p.1

pub all_taken : (P : Request → Type 0) (test : Request → Bool) (parked : List Request) → AllByRecursion P parked → AllLeft P (taken_first test parked)
unfolding AllLeft taken_first
all_taken P test [] all = tt
all_taken P test (r ∷ parked) all = go (test r) (taken_first test parked) (all_taken P test parked all.1)
  where
    go : (b : Bool) (o : Option (Request × List Request)) → AllLeft P o → AllLeft P (cond b (Some (r, parked)) (keep r o))
    go true o h = all
    go false None h = tt
    go false (Some p) h = (h.0, (all.0, h.1))

pub apart_taken : (test : Request → Bool) (parked : List Request) → AreApart parked → ApartLeft (taken_first test parked)
unfolding ApartLeft AllLeft taken_first
apart_taken test [] apart = tt
apart_taken test (r ∷ parked) apart =
    go (test r) (taken_first test parked) (apart_taken test parked apart.1) (all_taken (λ b. b.unique ≢ r.unique) test parked apart.0)
  where
    go : (b : Bool) (o : Option (Request × List Request)) → ApartLeft o → AllLeft (λ b. b.unique ≢ r.unique) o
        → ApartLeft (cond b (Some (r, parked)) (keep r o))
    go true o h k = apart.1
    go false None h k = tt
    go false (Some p) h k = (k.1, h)

-- tests that answer alike take the same one
pub taken_alike : (p q : Request → Bool) (parked : List Request) → AllByRecursion (λ r. p r ≡ q r) parked → taken_first p parked ≡ taken_first q parked
unfolding taken_first
taken_alike p q [] all = refl
taken_alike p q (r ∷ parked) all = λ i. cond (all.0 i) (Some (r, parked)) (keep r (taken_alike p q parked all.1 i))

-- the request of a unique that no older one has
pub yes_equal : (x y : ℕ) → x ≡ y → (x == y) ≡ true
yes_equal x y e = grind (arith, nat_tests)

pub not_equal : (x y : ℕ) → x ≢ y → (x == y) ≡ false
not_equal x y ne = grind (arith, nat_tests)

pub taken_there : (older : List Request) (r : Request) (younger : List Request) → AllByRecursion (λ (b : Request). b.unique ≢ r.unique) older
    → taken_out r.unique (older ++ r ∷ younger) ≡ Some (r, older ++ younger)
unfolding taken_first
taken_there [] r younger apart = ap (λ b. cond b (Some (r, younger)) (keep r (taken_out r.unique younger))) (yes_equal r.unique r.unique refl)
taken_there (a ∷ older) r younger apart =
    λ i. cond (not_equal a.unique r.unique apart.0 i) (Some (a, older ++ r ∷ younger)) (keep a (taken_there older r younger apart.1 i))

not_at : (a r : Request) (older younger : List Request) → AllByRecursion (λ (b : Request). b.unique ≢ a.unique) (older ++ r ∷ younger)
    → (r.unique ≢ a.unique) × AllByRecursion (λ (b : Request). b.unique ≢ a.unique) (older ++ younger)
not_at a r [] younger all = all
not_at a r (b ∷ older) younger all = let rest = not_at a r older younger all.1 in (rest.0, (all.0, rest.1))

-- a request that goes leaves the others apart
pub apart_without : (older : List Request) (r : Request) (younger : List Request) → AreApart (older ++ r ∷ younger)
    → AllByRecursion (λ (b : Request). b.unique ≢ r.unique) older × AreApart (older ++ younger)
apart_without [] r younger apart = (tt, apart.1)
apart_without (a ∷ older) r younger apart =
    let rest = apart_without older r younger apart.1 in
    let n = not_at a r older younger apart.0 in
    ((λ e. n.0 (sym e), rest.0), (n.1, rest.1))

-- no request has a unique that isn't found
pub none_of : (unique : ℕ) (parked : List Request) → is_parked unique parked ≡ false → AllByRecursion (λ (b : Request). b.unique ≢ unique) parked
none_of u [] e = tt
none_of u (a ∷ parked) e = go (a.unique == u) (is_parked u parked) refl e (none_of u parked)
  where
    go : (b c : Bool) → (a.unique == u) ≡ b → (b || c) ≡ false → (c ≡ false → AllByRecursion (λ (b : Request). b.unique ≢ u) parked)
        → (a.unique ≢ u) × AllByRecursion (λ (b : Request). b.unique ≢ u) parked
    go true c e f rest = absurd (cc f)
    go false c e f rest = ((λ same. absurd (grind (arith, nat_tests))), rest f)

pub all_more : (P : Request → Type 0) (parked : List Request) (r : Request) → AllByRecursion P parked → P r → AllByRecursion P (parked ++ r ∷ [])
all_more P [] r all p = (p, tt)
all_more P (a ∷ parked) r all p = (all.0, all_more P parked r all.1 p)

-- one more request of another unique
pub apart_more : (parked : List Request) (r : Request) → AreApart parked → AllByRecursion (λ (b : Request). b.unique ≢ r.unique) parked
    → AreApart (parked ++ r ∷ [])
apart_more [] r apart all = (tt, tt)
apart_more (a ∷ parked) r apart all = (all_more (λ b. b.unique ≢ a.unique) parked r apart.0 (λ e. all.0 (sym e)), apart_more parked r apart.1 all.1)

-- what passes and what doesn't, of the requests before and after the oldest one that passes was taken out
pub record IsTaken (test : Request → Bool) (parked : List Request) (r : Request) (others : List Request) : Type 0 where
  pub passing : filter test parked ≡ r ∷ filter test others
  pub failing : filter (λ a. not (test a)) parked ≡ filter (λ a. not (test a)) others
  pub shorter : length parked ≡ suc (length others)

pub is_taken : (test : Request → Bool) (parked : List Request) (r : Request) (others : List Request) → taken_first test parked ≡ Some (r, others)
    → IsTaken test parked r others
unfolding taken_first
is_taken test [] r others e = absurd (cc e)
is_taken test (a ∷ parked) r others e = go (test a) refl (taken_first test parked) refl e (is_taken test parked)
  where
    go : (b : Bool) → test a ≡ b → (o : Option (Request × List Request)) → taken_first test parked ≡ o → cond b (Some (a, parked)) (keep a o) ≡ Some (r, others)
        → ((k : Request) (l : List Request) → taken_first test parked ≡ Some (k, l) → IsTaken test parked k l) → IsTaken test (a ∷ parked) r others
    go true t o is e f =
        let both : ◌≡◌ {A = Request × List Request} (a, parked) (r, others) = cc in
        let asks : a ≡ r = ap (λ (q : Request × List Request). q.0) both in
        let lefts : parked ≡ others = ap (λ (q : Request × List Request). q.1) both in
        record {
          passing = ap (λ b. cond b (a ∷ filter test parked) (filter test parked)) t ∙ (λ i. asks i ∷ filter test (lefts i));
          failing = ap (λ b. cond (not b) (a ∷ filter (λ x. not (test x)) parked) (filter (λ x. not (test x)) parked)) t
              ∙ ap (filter (λ x. not (test x))) lefts;
          shorter = ap (λ xs. suc (length xs)) lefts;
        }
    go false t None is e f = absurd (cc e)
    go false t (Some p) is e f =
        let both : ◌≡◌ {A = Request × List Request} (p.0, a ∷ p.1) (r, others) = cc in
        let asks : p.0 ≡ r = ap (λ (q : Request × List Request). q.0) both in
        let lefts : a ∷ p.1 ≡ others = ap (λ (q : Request × List Request). q.1) both in
        let w = f p.0 p.1 is in
        record {
          passing = ap (λ b. cond b (a ∷ filter test parked) (filter test parked)) t ∙ w.passing ∙ ap (λ k. k ∷ filter test p.1) asks
              ∙ ap (λ b. r ∷ cond b (a ∷ filter test p.1) (filter test p.1)) (sym t) ∙ ap (λ xs. r ∷ filter test xs) lefts;
          failing =
              ap (λ b. cond (not b) (a ∷ filter (λ x. not (test x)) parked) (filter (λ x. not (test x)) parked)) t ∙ ap (λ xs. a ∷ xs) w.failing
              ∙ ap (λ b. cond (not b) (a ∷ filter (λ x. not (test x)) p.1) (filter (λ x. not (test x)) p.1)) (sym t) ∙ ap (filter (λ x. not (test x))) lefts;
          shorter = ap suc w.shorter ∙ ap (λ xs. suc (length xs)) lefts;
        }

-- none passes
pub none_taken : (test : Request → Bool) (parked : List Request) → taken_first test parked ≡ None
    → (filter test parked ≡ []) × (filter (λ a. not (test a)) parked ≡ parked)
unfolding taken_first
none_taken test [] e = (refl, refl)
none_taken test (a ∷ parked) e = go (test a) refl (taken_first test parked) refl e (none_taken test parked)
  where
    go : (b : Bool) → test a ≡ b → (o : Option (Request × List Request)) → taken_first test parked ≡ o → cond b (Some (a, parked)) (keep a o) ≡ None
        → (taken_first test parked ≡ None → (filter test parked ≡ []) × (filter (λ x. not (test x)) parked ≡ parked))
        → (filter test (a ∷ parked) ≡ []) × (filter (λ x. not (test x)) (a ∷ parked) ≡ a ∷ parked)
    go true t o is e f = absurd (cc e)
    go false t (Some p) is e f = absurd (cc e)
    go false t None is e f =
        let w = f is in (
          ap (λ b. cond b (a ∷ filter test parked) (filter test parked)) t ∙ w.0,
          ap (λ b. cond (not b) (a ∷ filter (λ x. not (test x)) parked) (filter (λ x. not (test x)) parked)) t ∙ ap (λ xs. a ∷ xs) w.1,
        )

-- what holds of each request holds of the one that is taken out, and of the others
pub all_left : (P : Request → Type 0) (test : Request → Bool) (parked : List Request) (r : Request) (others : List Request)
    → taken_first test parked ≡ Some (r, others) → AllByRecursion P parked → P r × AllByRecursion P others
unfolding AllLeft
all_left P test parked r others e all = subst (AllLeft P) e (all_taken P test parked all)

pub apart_left : (test : Request → Bool) (parked : List Request) (r : Request) (others : List Request) → taken_first test parked ≡ Some (r, others)
    → AreApart parked → AreApart others
unfolding ApartLeft
apart_left test parked r others e apart = subst ApartLeft e (apart_taken test parked apart)

pub one_longer : {X : Type 0} (xs : List X) (x : X) → length (xs ++ x ∷ []) ≡ suc (length xs)
one_longer [] x = refl
one_longer (y ∷ xs) x = ap suc (one_longer xs x)

-- the requests that pass a test
pub all_passing : (P : Request → Type 0) (test : Request → Bool) (parked : List Request) → AllByRecursion P parked → AllByRecursion P (filter test parked)
all_passing P test [] all = tt
all_passing P test (r ∷ parked) all = go (test r) (all_passing P test parked all.1)
  where
    go : (b : Bool) → AllByRecursion P (filter test parked) → AllByRecursion P (cond b (r ∷ filter test parked) (filter test parked))
    go true rest = (all.0, rest)
    go false rest = rest

pub apart_passing : (test : Request → Bool) (parked : List Request) → AreApart parked → AreApart (filter test parked)
apart_passing test [] apart = tt
apart_passing test (r ∷ parked) apart = go (test r) (apart_passing test parked apart.1)
  where
    go : (b : Bool) → AreApart (filter test parked) → AreApart (cond b (r ∷ filter test parked) (filter test parked))
    go true rest = (all_passing (λ b. b.unique ≢ r.unique) test parked apart.0, rest)
    go false rest = rest
