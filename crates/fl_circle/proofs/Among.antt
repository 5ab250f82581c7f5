-- The search among copied wishes, in whatever order, says what the definition says of the parked requests.
use Rattle.std.proofs.Common.{◌≡◌, ℕ, suc, ◌+◌, ◌<◌, ◌≤◌, Bool, true, false, cond, ◌&&◌, ◌||◌, ◌==◌, nat_lt, List, []}
use Rattle.std.proofs.Common.{◌∷◌, ◌++◌, append_assoc, append-nil, length, map, refl, sym, ap, ◌∙◌, subst, arith}
use Rattle.std.proofs.lemmas.Bool.Decides.{nat_tests}
use Rattle.std.proofs.lemmas.List.{map-append}
use Rattle.std.proofs.lemmas.List.Sorted.{list_any-IsPermutation, IsPermutation-sym}
use Rattle.std.specs.FinMap.{entries}
use Rattle.std.specs.List.{filter, list_any}
use Rattle.std.specs.List.Sorted.{IsPermutation}
use Rattle.fl_marks.specs.Conflict.{mark_conflicts_by}
use Rattle.fl_marks.specs.declared.lock.Class.{Class}
use Rattle.fl_marks.specs.declared.lock.Class.TheVariants.{Record, Flock}
use Rattle.fl_marks.specs.Marking.{Marking}
use Rattle.fl_waiting.specs.Circle.{leads, waiter_of, behind, waiters_behind, is_record, blocks, closes_circle}
use Rattle.fl_circle.specs.Inside.Searching.{older_than, waiter_among, blocks_among, precedes_by}
use Rattle.fl_waiting.specs.Wanted.{meant, AreNumbered}
use Rattle.fl_waiting.specs.Waiting.{Wish, owner_of, wishes, older_blocks}
use Rattle.fl_waiting.specs.declared.wanted.Wanted.{Wanted}
use Rattle.fl_waiting.specs.declared.parked.Request.{Request}
use Rattle.fl_waiting.specs.declared.rules.Rules.{Rules}
use Rattle.fl_circle.proofs.Circles.{leads_moved, leads_alike}
use Rattle.fl_circle.proofs.Wishes.{blocks_not_itself}

-- ---- the older ones are tested among all

older_any : (test : Wish → Bool) (ws : List Wanted) (w : Wanted)
    → list_any test (older_than ws w) ≡ list_any (λ (v : Wanted). nat_lt v.place w.place && test (meant v)) ws
older_any test [] w = refl
older_any test (v ∷ ws) w = go (nat_lt v.place w.place) (older_any test ws w)
  where
    older : Wanted → Bool
    older = λ (u : Wanted). nat_lt u.place w.place

    go : (b : Bool) → list_any test (map meant (filter older ws)) ≡ list_any (λ (u : Wanted). older u && test (meant u)) ws
        → list_any test (map meant (cond b (v ∷ filter older ws) (filter older ws)))
        ≡ ((b && test (meant v)) || list_any (λ (u : Wanted). older u && test (meant u)) ws)
    go true rest = ap (λ b. test (meant v) || b) rest
    go false rest = rest

swapped : (a b c : Bool) → (a && (b && c)) ≡ (b && (a && c))
swapped true b c = refl
swapped false true c = refl
swapped false false c = refl

pub older_by : (ws : List Wanted) (w : Wanted) (owner : ℕ)
    → list_any (λ (v : Wish). (owner_of v == owner) && older_blocks (meant w) v) (older_than ws w) ≡ list_any (precedes_by w owner) ws
older_by ws w owner = older_any _ ws w ∙ each ws
  where
    each : (xs : List Wanted) → list_any (λ (v : Wanted). nat_lt v.place w.place && ((v.key.owner == owner) && older_blocks (meant w) (meant v))) xs
        ≡ list_any (precedes_by w owner) xs
    each [] = refl
    each (v ∷ xs) = λ i. swapped (nat_lt v.place w.place) (v.key.owner == owner) (older_blocks (meant w) (meant v)) i || each xs i

-- ---- the order of those that are copied has no say

blocks_moved : (rules : Rules) (m : Marking) (xs ys : List Wanted) → IsPermutation xs ys → (w : Wanted) (owner : ℕ)
    → blocks_among rules m xs w owner ≡ blocks_among rules m ys w owner
blocks_moved rules m xs ys moved w owner =
    ap (λ b. is_record w.key.class && (list_any (mark_conflicts_by w.key w.range.start w.range.end w.kind owner) (entries m) || (rules.fair && b)))
    (older_by xs w owner ∙ list_any-IsPermutation (precedes_by w owner) xs ys moved ∙ sym (older_by ys w owner))

-- ---- they are numbered as they stand

sure : (a b : ℕ) → a < b → nat_lt a b ≡ true
sure a b e = grind (arith, nat_tests)

never : (a b : ℕ) → b ≤ a → nat_lt a b ≡ false
never a b e = grind (arith, nat_tests)

all_older : (n : ℕ) (ws : List Wanted) (w : Wanted) → AreNumbered n ws → n + length ws ≤ w.place → filter (λ (v : Wanted). nat_lt v.place w.place) ws ≡ ws
all_older n [] w all long = refl
all_older n (v ∷ ws) w all long =
    λ i. cond (sure v.place w.place (omega (arith, all.0, long)) i) (v ∷ all_older (suc n) ws w all.1 (omega (arith, long)) i)
    (filter (λ (u : Wanted). nat_lt u.place w.place) ws)

none_older : (n : ℕ) (ws : List Wanted) (w : Wanted) → AreNumbered n ws → w.place ≤ n → filter (λ (v : Wanted). nat_lt v.place w.place) ws ≡ []
none_older n [] w all low = refl
none_older n (v ∷ ws) w all low =
    λ i. cond (never v.place w.place (omega (arith, all.0, low)) i) (v ∷ filter (λ (u : Wanted). nat_lt u.place w.place) ws)
    (none_older (suc n) ws w all.1 (omega (arith, low)) i)

filtered_both : (test : Wanted → Bool) (xs ys : List Wanted) → filter test (xs ++ ys) ≡ filter test xs ++ filter test ys
filtered_both test [] ys = refl
filtered_both test (x ∷ xs) ys = go (test x) (filtered_both test xs ys)
  where
    go : (b : Bool) → filter test (xs ++ ys) ≡ filter test xs ++ filter test ys
        → cond b (x ∷ filter test (xs ++ ys)) (filter test (xs ++ ys)) ≡ cond b (x ∷ filter test xs) (filter test xs) ++ filter test ys
    go true e = ap (λ l. x ∷ l) e
    go false e = e

numbered_more : (n : ℕ) (ws : List Wanted) (w : Wanted) → AreNumbered n ws → w.place ≡ n + length ws → AreNumbered n (ws ++ w ∷ [])
numbered_more n [] w all is = (omega (arith, is), tt)
numbered_more n (v ∷ ws) w all is = (all.0, numbered_more (suc n) ws w all.1 (omega (arith, is)))

one_longer : (ws : List Wanted) (w : Wanted) → length (ws ++ w ∷ []) ≡ suc (length ws)
one_longer [] w = refl
one_longer (v ∷ ws) w = ap suc (one_longer ws w)

-- those before a place are older than the one there
older_there : (done : List Wanted) (w : Wanted) (rest : List Wanted) → AreNumbered 0 done → AreNumbered (length done) (w ∷ rest)
    → older_than (done ++ w ∷ rest) w ≡ map meant done
older_there done w rest before after =
    ap (map meant)
    (filtered_both (λ (v : Wanted). nat_lt v.place w.place) done (w ∷ rest)
    ∙ (λ i. all_older 0 done w before (omega (arith, after.0)) i ++ none_older (length done) (w ∷ rest) w after (omega (arith, after.0)) i)
    ∙ append-nil done)

numbered_waiters : (done rest : List Wanted) → AreNumbered 0 done → AreNumbered (length done) rest
    → map (waiter_among (done ++ rest)) rest ≡ waiters_behind (map meant done) (map meant rest)
numbered_waiters done [] before after = refl
numbered_waiters done (w ∷ rest) before after =
    let more = done ++ w ∷ [] in
    let moved : done ++ w ∷ rest ≡ more ++ rest = sym (append_assoc done (w ∷ []) rest) in
    let later = subst (λ n. AreNumbered n rest) (sym (one_longer done w)) after.1 in
    (λ i. behind (older_there done w rest before after i) (meant w) ∷ map (waiter_among (moved i)) rest)
    ∙ ap (λ ws. behind (map meant done) (meant w) ∷ ws) (numbered_waiters more rest (numbered_more 0 done w before (omega (arith, after.0))) later)
    ∙ ap (λ older. behind (map meant done) (meant w) ∷ waiters_behind older (map meant rest)) (map-append meant done (w ∷ []))

-- ---- what is found among those that are copied

pub found_among : (rules : Rules) (m : Marking) (parked : List Request) (copied sorted : List Wanted) (asked : Wanted) → map meant copied ≡ wishes parked
    → AreNumbered 0 copied → asked.place ≡ length copied → IsPermutation copied sorted
    → leads (λ (w : Wanted). w.key.owner) (blocks_among rules m sorted) sorted asked asked.key.owner ≡ closes_circle rules m parked (meant asked)
found_among rules m parked copied sorted asked are numbered last moved =
    sym (leads_moved (λ (w : Wanted). w.key.owner) (blocks_among rules m sorted) copied sorted asked moved (blocks_not_itself rules m (waiter_among sorted asked)))
    ∙ (λ i. leads (λ (w : Wanted). w.key.owner) (λ w q. blocks_moved rules m sorted copied (IsPermutation-sym copied sorted moved) w q i) copied asked asked.key.owner)
    ∙ leads_alike (waiter_among copied) waiter_of (blocks rules m) copied asked asked.key.owner
    ∙ (λ i. leads waiter_of (blocks rules m) (numbered_waiters [] copied tt numbered i) (behind (map meant (all_older 0 copied asked numbered (omega (arith, last)) i)) (meant asked))
    asked.key.owner)
    ∙ (λ i. leads waiter_of (blocks rules m) (waiters_behind [] (are i)) (behind (are i) (meant asked)) asked.key.owner)

-- ---- what keeps one waiting is found in two parts

pub no_flock : (class : Class) → (class ≡ Flock → ⊥) → is_record class ≡ true
no_flock Record other = refl
no_flock Flock other = absurd (other refl)

pub in_parts : (old held older record_ fair among : Bool) → record_ ≡ true → fair ≡ true → among ≡ older
    → ((old || held) || older) ≡ (old || (record_ && (held || (fair && among))))
in_parts old held older record_ fair among r f e =
    go old held ∙ ap (λ b. old || (held || b)) (sym e) ∙ (λ i. old || (sym r i && (held || (sym f i && among))))
  where
    go : (old held : Bool) → ((old || held) || older) ≡ (old || (held || older))
    go true held = refl
    go false held = refl
