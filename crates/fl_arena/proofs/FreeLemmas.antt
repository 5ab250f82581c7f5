-- The free list has no slot twice, and keeps its slots while other nodes change.
use Rattle.std.proofs.Common.{◌≡◌, ◌≢◌, ℕ, zero, suc, ◌≤◌, List, Option, Some, slice_get, refl, sym, ◌∙◌, ap, subst}
use Rattle.std.proofs.Common.{arith}
use Rattle.fl_arena.specs.Inside.Links.{SpellsFree}
use Rattle.fl_arena.specs.Inside.Held.{Held, Free}

module _ {T : Type 0} where
  same_next : (nodes : List (Held T)) (slot : ℕ) (x y : Option ℕ) → slice_get nodes slot ≡ Some (Free x) → slice_get nodes slot ≡ Some (Free y) → x ≡ y
  same_next nodes slot x y p q = let same = sym p ∙ q in cc

  SpellsFree-unique : (nodes : List (Held T)) (link : Option ℕ) (m n : ℕ) → SpellsFree nodes link m → SpellsFree nodes link n → m ≡ n
  SpellsFree-unique nodes link zero zero p q = refl
  SpellsFree-unique nodes link zero (suc n) p q = let none = sym p ∙ q.2 in cc
  SpellsFree-unique nodes link (suc m) zero p q = let none = sym q ∙ p.2 in cc
  SpellsFree-unique nodes link (suc m) (suc n) p q =
      let slots : p.0 ≡ q.0 = let e = sym p.2 ∙ q.2 in cc in
      let there : slice_get nodes p.0 ≡ Some (Free q.1) = rw slots q.3 in
      let nexts = same_next nodes p.0 p.1 q.1 p.3 there in
      ap suc (SpellsFree-unique nodes p.1 m n p.4 (subst (λ (l : Option ℕ). SpellsFree nodes l n) (sym nexts) q.4))

  -- nodes that read alike if they are free spell the same free list
  pub SpellsFree-kept : (old new : List (Held T)) →
      ((slot : ℕ) (next : Option ℕ) → slice_get old slot ≡ Some (Free next) → slice_get new slot ≡ Some (Free next)) → (link : Option ℕ) (n : ℕ) →
      SpellsFree old link n → SpellsFree new link n
  SpellsFree-kept old new keeps link zero p = p
  SpellsFree-kept old new keeps link (suc n) p = (p.0, p.1, p.2, keeps p.0 p.1 p.3, SpellsFree-kept old new keeps p.1 n p.4)

  shorter_kept : (old new : List (Held T)) (first : ℕ) (next : Option ℕ) (count : ℕ) → slice_get old first ≡ Some (Free next) → SpellsFree old next count →
      ((slot : ℕ) (next : Option ℕ) → slot ≢ first → slice_get old slot ≡ Some (Free next) → slice_get new slot ≡ Some (Free next)) →
      (link : Option ℕ) (n : ℕ) → n ≤ count → SpellsFree old link n → SpellsFree new link n
  shorter_kept old new first next count h rest keeps link zero le p = p
  shorter_kept old new first next count h rest keeps link (suc n) le p =
      let other : p.0 ≢ first = λ same.
      let nexts = same_next old first p.1 next (subst (λ (s : ℕ). slice_get old s ≡ Some (Free p.1)) same p.3) h in
      let lengths = SpellsFree-unique old next n count (subst (λ (l : Option ℕ). SpellsFree old l n) nexts p.4) rest in
      omega arith in
      (p.0, p.1, p.2, keeps p.0 p.1 other p.3, shorter_kept old new first next count h rest keeps p.1 n (omega arith) p.4)

  -- the free list without its first slot stays, whatever is put in that slot
  pub SpellsFree-rest : (old new : List (Held T)) (first : ℕ) (next : Option ℕ) (count : ℕ) → slice_get old first ≡ Some (Free next) →
      SpellsFree old next count →
      ((slot : ℕ) (next : Option ℕ) → slot ≢ first → slice_get old slot ≡ Some (Free next) → slice_get new slot ≡ Some (Free next)) → SpellsFree new next count
  SpellsFree-rest old new first next count h rest keeps = shorter_kept old new first next count h rest keeps next count (omega arith) rest
