-- If nobody waits for itself, nobody does once a request is parked that closes no circle, nor once an owner who waits
-- for nobody has gained locks.
use Rattle.std.proofs.Common.{◌≡◌, ◌≢◌, ℕ, Bool, true, ◌⊎◌, inl, inr, ⊎_elim, Option, Some, List, [], ◌∷◌, ◌++◌, refl}
use Rattle.std.proofs.Common.{ap, sym, ◌∙◌, subst}
use Rattle.std.specs.List.{Contains}
use Rattle.std.proofs.lemmas.List.Elements.{Contains-push_cases}
use Rattle.fl_waiting.specs.Circle.{Waits, IsPath, IsCircle}

-- ---- a request is parked behind others

module _ {A : Type 0} (owner : A → ℕ) (blocks : A → ℕ → Bool) (old : List A) (r : A) where
  abbrev Path : ℕ → List ℕ → ℕ → Type 0
  Path = IsPath owner blocks old

  abbrev NewPath : ℕ → List ℕ → ℕ → Type 0
  NewPath = IsPath owner blocks (old ++ r ∷ [])

  -- it is this owner, or waits for it along a path
  Reaches : ℕ → ℕ → Type 0
  Reaches p q = (p ≡ q) ⊎ ((others : List ℕ) × Path p others q)

  -- it reaches the owner who asks, whose request waits for one that reaches this owner
  record ByTheNew (p q : ℕ) : Type 0 where
    pub next : ℕ
    pub to : Reaches p (owner r)
    pub blocked : blocks r next ≡ true
    pub from : Reaches next q

  Route : ℕ → ℕ → Type 0
  Route p q = ((others : List ℕ) × Path p others q) ⊎ ByTheNew p q

  edge : (p q : ℕ) → Waits owner blocks (old ++ r ∷ []) p q → Waits owner blocks old p q ⊎ ((p ≡ owner r) × (blocks r q ≡ true))
  edge p q w =
      ⊎_elim (λ there. inl (record { request = w.request; among = there; of = w.of; blocked = w.blocked }))
      (λ is. inr (sym w.of ∙ ap owner (sym is), ap (λ s. blocks s q) is ∙ w.blocked)) (Contains-push_cases old r w.request w.among)

  appended : (p : ℕ) (xs : List ℕ) (q : ℕ) (ys : List ℕ) (o : ℕ) → Path p xs q → Path q ys o → Path p (xs ++ q ∷ ys) o
  appended p [] q ys o first second = (first, second)
  appended p (x ∷ xs) q ys o first second = (first.0, appended x xs q ys o first.1 second)

  reach_on : (p q o : ℕ) → Reaches p q → Reaches q o → Reaches p o
  unfolding Reaches
  reach_on p q o (inl e) second = subst (λ n. Reaches n o) (sym e) second
  reach_on p q o (inr f) (inl e) = inr (f.0, subst (λ n. Path p f.0 n) e f.1)
  reach_on p q o (inr f) (inr g) = inr (f.0 ++ q ∷ g.0, appended p f.0 q g.0 o f.1 g.1)

  route : (p : ℕ) (others : List ℕ) (o : ℕ) → NewPath p others o → Route p o
  unfolding Route Reaches
  route p [] o w =
      ⊎_elim (λ v. inl ([], v)) (λ e. inr (record { next = o; to = inl e.0; blocked = e.1; from = inl refl })) (edge p o w)
  route p (q ∷ others) o w = go (edge p q w.0) (route q others o w.1)
    where
      go : Waits owner blocks old p q ⊎ ((p ≡ owner r) × (blocks r q ≡ true)) → Route q o → Route p o
      go (inl v) (inl f) = inl (q ∷ f.0, (v, f.1))
      go (inl v) (inr n) = inr (record { next = n.next; to = reach_on p q (owner r) (inr ([], v)) n.to; blocked = n.blocked; from = n.from })
      go (inr e) (inl f) = inr (record { next = q; to = inl e.0; blocked = e.1; from = inr f })
      go (inr e) (inr n) = inr (record { next = n.next; to = inl e.0; blocked = n.blocked; from = n.from })

  pub none_once_parked : ((p : ℕ) (others : List ℕ) → Path p others p → ⊥) → (IsCircle owner blocks old r → ⊥)
      → (blocks r (owner r) ≡ true → ⊥) → (p : ℕ) (others : List ℕ) → NewPath p others p → ⊥
  unfolding Route Reaches
  none_once_parked none closes itself p others path = go (route p others p path)
    where
      back : (n : ℕ) → blocks r n ≡ true → Reaches n (owner r) → ⊥
      back n h (inl e) = itself (ap (blocks r) (sym e) ∙ h)
      back n h (inr f) = closes (record { first = n; others = f.0; blocked = h; path = f.1 })

      go : Route p p → ⊥
      go (inl f) = none p f.0 f.1
      go (inr n) = back n.next n.blocked (reach_on n.next p (owner r) n.from n.to)

-- ---- requests leave, and nobody gains locks but an owner, if one is named, who has none of the others

module _ {A : Type 0} (owner : A → ℕ) (before after : A → ℕ → Bool) (old new : List A) (gainer : Option ℕ)
    (lone : (s : A) → Contains new s → gainer ≢ Some (owner s))
    (was : (s : A) → Contains new s
    → (t : A) × Contains old t × (owner t ≡ owner s) × ((q : ℕ) → gainer ≢ Some q → after s q ≡ true → before t q ≡ true)) where
  first_waits : (p : ℕ) (others : List ℕ) (q : ℕ) → IsPath owner after new p others q → gainer ≢ Some p
  first_waits p [] q w is = lone w.request w.among (is ∙ ap (λ n. Some n) (sym w.of))
  first_waits p (next ∷ others) q w is = lone (w.0).request (w.0).among (is ∙ ap (λ n. Some n) (sym (w.0).of))

  as_before : (p q : ℕ) → gainer ≢ Some q → Waits owner after new p q → Waits owner before old p q
  as_before p q other w =
      let t = was w.request w.among in
      record { request = t.0; among = t.1; of = t.2 ∙ w.of; blocked = t.3 q other w.blocked }

  path_before : (p : ℕ) (others : List ℕ) (q : ℕ) → gainer ≢ Some q → IsPath owner after new p others q → IsPath owner before old p others q
  path_before p [] q other w = as_before p q other w
  path_before p (next ∷ others) q other w = (as_before p next (first_waits next others q w.1) w.0, path_before next others q other w.1)

  pub none_once_gained : ((p : ℕ) (others : List ℕ) → IsPath owner before old p others p → ⊥)
      → (p : ℕ) (others : List ℕ) → IsPath owner after new p others p → ⊥
  none_once_gained none p others path = none p others (path_before p others p (first_waits p others p path) path)
