-- The search for a circle: what is reached and visited so far.
use Rattle.std.proofs.Common.{◌≡◌, ◌≢◌, ℕ, zero, suc, ◌<◌, Bool, true, false, cond, ◌||◌, List, [], ◌∷◌, length, sum_by}
use Rattle.std.proofs.Common.{get_or, set, length-set, get_or-set_other, take, replicate, inl, inr, ◌⊎◌, ⊎_elim, refl}
use Rattle.std.proofs.Common.{sym, ap, ◌∙◌, subst, arith}
use Rattle.std.proofs.lemmas.Bool.{cases_eq}
use Rattle.std.proofs.lemmas.List.{length-map, length-replicate}
use Rattle.std.proofs.lemmas.List.Sums.{sum_by-set}
use Rattle.fl_waiting.specs.Circle.{leads, Waits, IsPath, IsCircle}
use Rattle.fl_circle.specs.Inside.Searching.{is_set, owners_of, owner_at, IsByOwner, IsReachedByOwner}
use Rattle.fl_marks.specs.Conflict.{AreFound}
use Rattle.std.specs.List.Sorted.{IsNonDecreasing}
use Rattle.std.proofs.Math.ListN.{get_or-map}
use Rattle.std.proofs.lemmas.List.Sorted.{IsNonDecreasingBy-from_default}
use Rattle.fl_waiting.specs.declared.wanted.Wanted.{Wanted}
use Rattle.fl_circle.proofs.Circles.{leads_directly, leads_on, circle_words}

abbrev pub owner : Wanted → ℕ
owner w = w.key.owner

or_cases : (a b c : Bool) → c ≡ (a || b) → c ≡ true → (a ≡ true) ⊎ (b ≡ true)
or_cases true b c e h = inl refl
or_cases false b c e h = inr (sym e ∙ h)

or_left : (a b c : Bool) → c ≡ (a || b) → a ≡ true → c ≡ true
or_left true b c e h = e
or_left false b c e h = absurd (cc h)

or_right : (a b c : Bool) → c ≡ (a || b) → b ≡ true → c ≡ true
or_right true b c e h = e
or_right false b c e h = e ∙ h

only_false : (b : Bool) → (b ≡ true → ⊥) → b ≡ false
only_false true f = absurd (f refl)
only_false false f = refl

owner_is : (ws : List Wanted) (i : ℕ) (w : Wanted) → i < length ws → get_or ws i w ≡ w → owner_at ws i ≡ owner w
owner_is [] i w h e = absurd (omega arith)
owner_is (x ∷ ws) zero w h e = ap owner e
owner_is (x ∷ ws) (suc i) w h e = owner_is ws i w (omega arith) e

-- the owners of requests in the order of owners rise
pub rising : (ws : List Wanted) → IsByOwner ws → IsNonDecreasing (owners_of ws)
rising [] by = λ i j d le h. absurd (omega arith)
rising (x ∷ ws) by = IsNonDecreasingBy-from_default (λ n. n) (owners_of (x ∷ ws)) (owner x) (λ i j le h.
    let at_i = get_or-map owner (x ∷ ws) i x in
    let at_j = get_or-map owner (x ∷ ws) j x in
    let up = by i j x le (omega (arith, length-map (x ∷ ws) owner, h)) in
    omega (arith, at_i, at_j, up))

-- what is left to visit gets less
pub fewer_left : (visited : List Bool) (i : ℕ) → i < length visited → is_set visited i ≡ false
    → sum_by (λ (v : Bool). cond v 0 1) (set visited i true) < sum_by (λ (v : Bool). cond v 0 1) visited
fewer_left visited i h e =
    let count : Bool → ℕ = λ v. cond v 0 1 in
    let one : count (get_or visited i false) ≡ 1 = ap count e in
    let sums = sum_by-set count visited i true false h in
    omega arith

-- none is set at first
pub unset : (n i : ℕ) → is_set (replicate n false) i ≡ false
unset zero i = refl
unset (suc n) zero = refl
unset (suc n) (suc i) = unset n i

none_set : (n i : ℕ) → is_set (replicate n false) i ≡ true → ⊥
none_set n i e = cc (sym (unset n i) ∙ e)

-- and in no part of them
pub unset_part : (k n i : ℕ) → is_set (take k (replicate n false)) i ≡ false
unset_part zero n i = refl
unset_part (suc k) zero i = refl
unset_part (suc k) (suc n) zero = refl
unset_part (suc k) (suc n) (suc i) = unset_part k n i

-- Owners that are reached are led to. Those in the way of the request are reached, and those in the way of a request
-- that was visited; and none that was visited waits for the one who asks.
pub record IsSearching (most : ℕ) (blocks : Wanted → ℕ → Bool) (ws : List Wanted) (asked : Wanted) (reached visited : List Bool) : Type 0 where
  pub long : length visited ≡ most
  pub wide : length reached ≡ length ws
  pub by_owner : IsReachedByOwner ws reached
  pub led : (i : ℕ) → i < length ws → is_set reached i ≡ true → leads owner blocks ws asked (owner_at ws i) ≡ true
  pub start : (i : ℕ) → i < length ws → blocks asked (owner_at ws i) ≡ true → is_set reached i ≡ true
  pub clear : (i : ℕ) (w : Wanted) → i < length ws → get_or ws i w ≡ w → is_set visited i ≡ true → blocks w (owner asked) ≡ false
  pub closed : (i j : ℕ) (w : Wanted) → i < length ws → j < length ws → get_or ws i w ≡ w → is_set visited i ≡ true → blocks w (owner_at ws j) ≡ true
      → is_set reached j ≡ true

module _ (most : ℕ) (blocks : Wanted → ℕ → Bool) (ws : List Wanted) (asked : Wanted) where
  at_place : (test : ℕ → Bool) (old new : List Bool) → AreFound test (owners_of ws) old new → (i : ℕ) → i < length ws
      → is_set new i ≡ (is_set old i || test (owner_at ws i))
  at_place test old new more i h = more i (omega (arith, length-map ws owner, h))

  -- what is reached goes by owner again
  pub goes_by_owner : (test : ℕ → Bool) (old new : List Bool) → IsReachedByOwner ws old → AreFound test (owners_of ws) old new → IsReachedByOwner ws new
  goes_by_owner test old new by more i j h k same =
      at_place test old new more i h ∙ (λ n. by i j h k same n || test (same n)) ∙ sym (at_place test old new more j k)

  -- if nothing was reached before
  pub starts : (none new : List Bool) → ((i : ℕ) → is_set none i ≡ false) → length new ≡ length ws → AreFound (blocks asked) (owners_of ws) none new
      → IsSearching most blocks ws asked new (replicate most false)
  starts none new unset wide more = record {
    long = length-replicate most false;
    wide = wide;
    by_owner = goes_by_owner (blocks asked) none new (λ i j h k same. unset i ∙ sym (unset j)) more;
    led = λ i h e. leads_directly owner blocks ws asked (owner_at ws i)
        (⊎_elim (λ old. absurd (cc (sym (unset i) ∙ old))) (λ now. now) (or_cases _ _ _ (at_place (blocks asked) none new more i h) e));
    start = λ i h e. or_right _ _ _ (at_place (blocks asked) none new more i h) e;
    clear = λ i w h at e. absurd (none_set most i e);
    closed = λ i j w h k at e f. absurd (none_set most i e);
  }

  module _ (reached visited : List Bool) (so_far : IsSearching most blocks ws asked reached visited) where
    onward : (i : ℕ) (w : Wanted) (q : ℕ) → i < length ws → get_or ws i w ≡ w → is_set reached i ≡ true → blocks w q ≡ true
        → leads owner blocks ws asked q ≡ true
    onward i w q h at e k =
        leads_on owner blocks ws asked w q (i, h, at) (subst (λ o. leads owner blocks ws asked o ≡ true) (owner_is ws i w h at) (so_far.led i h e)) k

    pub finds : (i : ℕ) (w : Wanted) → i < length ws → get_or ws i w ≡ w → is_set reached i ≡ true → blocks w (owner asked) ≡ true
        → leads owner blocks ws asked (owner asked) ≡ true
    finds i w h at e k = onward i w (owner asked) h at e k

    pub goes_on : (new : List Bool) (i : ℕ) (w : Wanted) → i < length ws → get_or ws i w ≡ w → is_set reached i ≡ true → blocks w (owner asked) ≡ false
        → length new ≡ length ws → AreFound (blocks w) (owners_of ws) reached new → IsSearching most blocks ws asked new (set visited i true)
    goes_on new i w h at e free wide more = record {
      wide = wide;
      long = length-set visited i true ∙ so_far.long;
      by_owner = goes_by_owner (blocks w) reached new so_far.by_owner more;
      led = λ j k f. ⊎_elim (so_far.led j k) (onward i w (owner_at ws j) h at e) (or_cases _ _ _ (at_place (blocks w) reached new more j k) f);
      start = λ j k f. or_left _ _ _ (at_place (blocks w) reached new more j k) (so_far.start j k f);
      clear = λ j v k there f. clear_at j v k there f (cases_eq j i);
      closed = λ j l v k m there f g. closed_at j l v k m there f g (cases_eq j i);
    }
      where
        it : (j : ℕ) (v : Wanted) → j < length ws → get_or ws j v ≡ v → j ≡ i → v ≡ w
        it j v k there same = sym there ∙ any ws j v w k ∙ ap (λ n. get_or ws n w) same ∙ at
          where
            any : (xs : List Wanted) (n : ℕ) (x y : Wanted) → n < length xs → get_or xs n x ≡ get_or xs n y
            any [] n x y below = absurd (omega arith)
            any (z ∷ xs) zero x y below = refl
            any (z ∷ xs) (suc n) x y below = any xs n x y (omega arith)

        clear_at : (j : ℕ) (v : Wanted) → j < length ws → get_or ws j v ≡ v → is_set (set visited i true) j ≡ true → (j ≡ i) ⊎ (j ≢ i)
            → blocks v (owner asked) ≡ false
        clear_at j v k there f (inl same) = ap (λ x. blocks x (owner asked)) (it j v k there same) ∙ free
        clear_at j v k there f (inr other) = so_far.clear j v k there (sym (get_or-set_other visited i j true false other) ∙ f)

        closed_at : (j l : ℕ) (v : Wanted) → j < length ws → l < length ws → get_or ws j v ≡ v → is_set (set visited i true) j ≡ true
            → blocks v (owner_at ws l) ≡ true → (j ≡ i) ⊎ (j ≢ i) → is_set new l ≡ true
        closed_at j l v k m there f g (inl same) = or_right _ _ _ (at_place (blocks w) reached new more l m) (ap (λ x. blocks x (owner_at ws l)) (sym (it j v k there same)) ∙ g)
        closed_at j l v k m there f g (inr other) =
            or_left _ _ _ (at_place (blocks w) reached new more l m) (so_far.closed j l v k m there (sym (get_or-set_other visited i j true false other) ∙ f) g)

    -- where a path of owners begins
    place_of : (p : ℕ) (others : List ℕ) (q : ℕ) → IsPath owner blocks ws p others q → (i : ℕ) × (i < length ws) × (owner_at ws i ≡ p)
    place_of p [] q w = (w.among.0, w.among.1, owner_is ws w.among.0 w.request w.among.1 w.among.2 ∙ w.of)
    place_of p (x ∷ others) q w = let v = w.0 in (v.among.0, v.among.1, owner_is ws v.among.0 v.request v.among.1 v.among.2 ∙ v.of)

    module _ (all : (i : ℕ) → i < length ws → is_set reached i ≡ true → is_set visited i ≡ true) where
      seen : {p q : ℕ} (w : Waits owner blocks ws p q) (i : ℕ) → i < length ws → owner_at ws i ≡ p → is_set reached i ≡ true → is_set visited w.among.0 ≡ true
      seen w i h at e =
          all w.among.0 w.among.1 (so_far.by_owner w.among.0 i w.among.1 h (owner_is ws w.among.0 w.request w.among.1 w.among.2 ∙ w.of ∙ sym at) ∙ e)

      no_path : (p : ℕ) (others : List ℕ) (i : ℕ) → i < length ws → owner_at ws i ≡ p → is_set reached i ≡ true
          → IsPath owner blocks ws p others (owner asked) → ⊥
      no_path p [] i h at e w = cc (sym (so_far.clear w.among.0 w.request w.among.1 w.among.2 (seen w i h at e)) ∙ w.blocked)
      no_path p (x ∷ others) i h at e w =
          let v = w.0 in
          let n = place_of x others (owner asked) w.1 in
          no_path x others n.0 n.1 n.2 (so_far.closed v.among.0 n.0 v.request v.among.1 n.1 v.among.2 (seen v i h at e)
          (ap (blocks v.request) n.2 ∙ v.blocked)) w.1

      no_circle : IsCircle owner blocks ws asked → ⊥
      no_circle w =
          let n = place_of w.first w.others (owner asked) w.path in
          no_path w.first w.others n.0 n.1 n.2 (so_far.start n.0 n.1 (ap (blocks asked) n.2 ∙ w.blocked)) w.path

      pub ends : blocks asked (owner asked) ≡ false → leads owner blocks ws asked (owner asked) ≡ false
      ends own = only_false (leads owner blocks ws asked (owner asked)) (λ h. no_circle ((circle_words owner blocks ws asked own).0 h))
