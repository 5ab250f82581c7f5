-- The oldest request that passes a test of it and of the older ones.
use Rattle.std.proofs.Common.{◌≡◌, ℕ, zero, suc, ◌+◌, ◌≤◌, Bool, true, false, cond, not, ◌&&◌, ◌||◌, nat_lt, Option}
use Rattle.std.proofs.Common.{Some, None, List, [], ◌∷◌, ◌++◌, append_assoc, append-nil, length, take, remove}
use Rattle.std.proofs.Common.{slice_get, refl, sym, ap, ◌∙◌, subst, arith}
use Rattle.std.proofs.lemmas.Bool.Decides.{nat_tests}
use Rattle.std.specs.List.{list_any, position_or_len, cons_option}
use Rattle.fl_waiting.specs.Waiting.{Wish, wish_of, wishes, passes, is_blocked_by_older, passes_free, AllBehind}
use Rattle.fl_waiting.specs.Waiting.{taken_first, taken_behind}
use Rattle.fl_waiting.specs.declared.parked.Request.{Request}
use Rattle.fl_waiting.specs.Inside.Claims.{ruled}
use Rattle.fl_waiting.specs.declared.rules.Rules.{Rules}
use Rattle.fl_waiting.proofs.Claims.{keep}
use Rattle.fl_marks.specs.declared.lock.Mark.{Mark}

-- ---- tests that answer alike take the same one

pub behind_alike : (p q : List Request → Request → Bool) (older parked : List Request) → AllBehind (λ older r. p older r ≡ q older r) older parked
    → taken_behind p older parked ≡ taken_behind q older parked
unfolding taken_behind
behind_alike p q older [] all = refl
behind_alike p q older (r ∷ parked) all = λ i. cond (all.0 i) (Some (r, parked)) (keep r (behind_alike p q (older ++ r ∷ []) parked all.1 i))

pub always_behind : (P : List Request → Request → Type 0) → ((older : List Request) (r : Request) → P older r) → (older parked : List Request) → AllBehind P older parked
always_behind P all older [] = tt
always_behind P all older (r ∷ parked) = (all older r, always_behind P all (older ++ r ∷ []) parked)

-- a test that doesn't look at the older ones
pub behind_first : (p : Request → Bool) (older parked : List Request) → taken_behind (λ older r. p r) older parked ≡ taken_first p parked
unfolding taken_behind taken_first
behind_first p older [] = refl
behind_first p older (r ∷ parked) = ap (λ o. cond (p r) (Some (r, parked)) (keep r o)) (behind_first p (older ++ r ∷ []) parked)

-- ---- if no rule is fair none is behind another

never_behind : (rules : Rules) (older : List Request) (r : Request) → rules.fair ≡ false → is_blocked_by_older rules older r ≡ false
never_behind rules older r unfair = ap (λ f. is_blocked_by_older (ruled f) older r) unfair ∙ go _
  where
    go : (mark : Option Mark) → passes (λ (k : Mark). false) mark ≡ false
    go None = refl
    go (Some k) = refl

and_not_false : (a b : Bool) → b ≡ false → (a && not b) ≡ a
and_not_false true b e = ap not e
and_not_false false b e = refl

pub free_unfair : (rules : Rules) (p : Request → Bool) (parked : List Request) → rules.fair ≡ false → taken_behind (passes_free rules p) [] parked ≡ taken_first p parked
free_unfair rules p parked unfair =
    behind_alike (passes_free rules p) (λ older r. p r) [] parked
    (always_behind (λ older r. passes_free rules p older r ≡ p r) (λ older r. and_not_false (p r) (is_blocked_by_older rules older r) (never_behind rules older r unfair)) [] parked)
    ∙ behind_first p [] parked

-- ---- one after another

pub all_behind_more : (P : List Request → Request → Type 0) (older xs : List Request) (r : Request) → AllBehind P older xs → P (older ++ xs) r
    → AllBehind P older (xs ++ r ∷ [])
all_behind_more P older [] r all here = (subst (λ l. P l r) (append-nil older) here, tt)
all_behind_more P older (x ∷ xs) r all here =
    (all.0, all_behind_more P (older ++ x ∷ []) xs r all.1 (subst (λ l. P l r) (sym (append_assoc older (x ∷ []) xs)) here))

-- none passes
pub none_behind : (test : List Request → Request → Bool) (older parked : List Request) → AllBehind (λ older r. test older r ≡ false) older parked
    → taken_behind test older parked ≡ None
unfolding taken_behind
none_behind test older [] all = refl
none_behind test older (r ∷ parked) all = λ i. cond (all.0 i) (Some (r, parked)) (keep r (none_behind test (older ++ r ∷ []) parked all.1 i))

-- the one at a place does, and none before it
pub taken_there : (test : List Request → Request → Bool) (older parked : List Request) (place : ℕ) (r : Request)
    → AllBehind (λ older r. test older r ≡ false) older (take place parked) → slice_get parked place ≡ Some r → test (older ++ take place parked) r ≡ true
    → taken_behind test older parked ≡ Some (r, remove parked place)
unfolding taken_behind
taken_there test older [] place r none there passing = absurd (cc there)
taken_there test older (a ∷ parked) zero r none there passing =
    let same : a ≡ r = cc there in
    ap (λ b. cond b (Some (a, parked)) (keep a (taken_behind test (older ++ a ∷ []) parked)))
    (ap (λ l. test l a) (sym (append-nil older)) ∙ ap (test (older ++ [])) same ∙ passing)
    ∙ ap (λ x. Some (x, parked)) same
taken_there test older (a ∷ parked) (suc place) r none there passing =
    λ i. cond (none.0 i) (Some (a, parked))
    (keep a (taken_there test (older ++ a ∷ []) parked place r none.1 there (ap (λ l. test l r) (append_assoc older (a ∷ []) (take place parked)) ∙ passing) i))

-- ---- one that is found before a place

first_below : (test : Request → Bool) (parked : List Request) (place : ℕ) → place ≤ length parked
    → list_any test (take place parked) ≡ nat_lt (position_or_len test parked) place
first_below test [] zero within = refl
first_below test [] (suc place) within = absurd (omega (arith, within))
first_below test (r ∷ parked) zero within = sym (at_none (position_or_len test (r ∷ parked)))
  where
    at_none : (n : ℕ) → nat_lt n 0 ≡ false
    at_none n = grind (arith, nat_tests)
first_below test (r ∷ parked) (suc place) within = go (test r) (first_below test parked place (omega (arith, within)))
  where
    below : (n k : ℕ) → nat_lt (1 + n) (suc k) ≡ nat_lt n k
    below n k = grind (arith, nat_tests)

    here : (k : ℕ) → true ≡ nat_lt 0 (suc k)
    here k = grind (arith, nat_tests)

    go : (b : Bool) → list_any test (take place parked) ≡ nat_lt (position_or_len test parked) place
        → (b || list_any test (take place parked)) ≡ nat_lt (cond (not b) (1 + position_or_len test parked) 0) (suc place)
    go true rest = here place
    go false rest = rest ∙ sym (below (position_or_len test parked) place)

-- what is asked of each wish is asked of each request
pub each_wish : (test : Wish → Bool) (parked : List Request) → list_any (λ (r : Request). list_any test (wishes (r ∷ []))) parked ≡ list_any test (wishes parked)
each_wish test [] = refl
each_wish test (r ∷ parked) = ap (λ b. list_any test (wishes (r ∷ [])) || b) (each_wish test parked) ∙ first (wish_of r)
  where
    either : (b c : Bool) → ((b || false) || c) ≡ (b || c)
    either true c = refl
    either false c = refl

    first : (w : Option Wish) → (list_any test (cons_option w []) || list_any test (wishes parked)) ≡ list_any test (cons_option w (wishes parked))
    first None = refl
    first (Some w) = either (test w) (list_any test (wishes parked))

pub before_place : (test : Wish → Bool) (parked : List Request) (place : ℕ) → place ≤ length parked
    → nat_lt (position_or_len (λ (r : Request). list_any test (wishes (r ∷ []))) parked) place ≡ list_any test (wishes (take place parked))
before_place test parked place within =
    sym (first_below (λ (r : Request). list_any test (wishes (r ∷ []))) parked place within) ∙ each_wish test (take place parked)
