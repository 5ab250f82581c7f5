-- What each node reads once the links beside a slot were written.
use Rattle.std.proofs.Common.{◌≡◌, ◌≢◌, ℕ, true, false, cond, eqb, List, length, Option, Some, None, slice_get, refl}
use Rattle.std.proofs.Common.{◌∙◌, ap, inl, inr, eq-eqb}
use Rattle.std.specs.Option.{option_map}
use Rattle.std.proofs.lemmas.Bool.{cases_eq, ne_eqb}
use Rattle.fl_arena.proofs.ReadLemmas.{slice_get-alter_same, slice_get-alter_other, length-alter}
use Rattle.fl_arena.specs.Inside.Links.{alter_link, at_link, with_previous, with_next, relinked}
use Rattle.fl_arena.specs.Inside.Held.{Held, Free, Taken}
use Rattle.fl_arena.specs.declared.nodes.Member.{Member}

module _ {A : Type 0} where
  pub at_link-same : (link : Option ℕ) (slot : ℕ) (x y : A) → link ≡ Some slot → at_link link slot x y ≡ x
  at_link-same None slot x y h = cc
  at_link-same (Some named) slot x y h =
      let same : named ≡ slot = cc in
      rw (eq-eqb named slot same)

  pub at_link-other : (link : Option ℕ) (slot : ℕ) (x y : A) → link ≢ Some slot → at_link link slot x y ≡ y
  at_link-other None slot x y h = refl
  at_link-other (Some named) slot x y h = rw (ne_eqb named slot (λ e. h (ap Some e)))

  pub at_link-ap : {B : Type 0} (f : A → B) (link : Option ℕ) (slot : ℕ) (x y : A) → at_link link slot (f x) (f y) ≡ f (at_link link slot x y)
  at_link-ap f None slot x y = refl
  at_link-ap f (Some named) slot x y = elim (eqb named slot) as (λ b. cond b (f x) (f y) ≡ f (cond b x y)) [ true ↦ refl | false ↦ refl ]

  pub at_link_both : (link : Option ℕ) (slot : ℕ) (x : A) → at_link link slot x x ≡ x
  at_link_both None slot x = refl
  at_link_both (Some named) slot x = elim (eqb named slot) as (λ b. cond b x x ≡ x) [ true ↦ refl | false ↦ refl ]

  pub slice_get-alter_link : (f : A → A) (xs : List A) (link : Option ℕ) (slot : ℕ) (x : A) → slice_get xs slot ≡ Some x →
      slice_get (alter_link f xs link) slot ≡ Some (at_link link slot (f x) x)
  slice_get-alter_link f xs None slot x h = h
  slice_get-alter_link f xs (Some named) slot x h =
      elim (cases_eq named slot) [
        | inl same ↦ rw (eq-eqb named slot same, same) (slice_get-alter_same f xs slot ∙ ap (option_map f) h)
        | inr other ↦ rw (ne_eqb named slot other) (slice_get-alter_other f xs named slot other ∙ h)
      ]

  pub length-alter_link : (f : A → A) (xs : List A) (link : Option ℕ) → length (alter_link f xs link) ≡ length xs
  length-alter_link f xs None = refl
  length-alter_link f xs (Some slot) = length-alter f xs slot

module _ {T : Type 0} where
  pub length-relinked : (nodes : List (Held T)) (before after previous next : Option ℕ) → length (relinked nodes before after previous next) ≡ length nodes
  length-relinked nodes before after previous next =
      length-alter_link (with_previous previous) (alter_link (with_next next) nodes before) after
      ∙ length-alter_link (with_next next) nodes before

  pub as_long : (nodes now : List (Held T)) (before after previous next : Option ℕ) → now ≡ relinked nodes before after previous next →
      length now ≡ length nodes
  as_long nodes now before after previous next e = ap length e ∙ length-relinked nodes before after previous next

  pub taken_in_relinked : (nodes : List (Held T)) (before after previous next : Option ℕ) (slot : ℕ) (m : Member T) → slice_get nodes slot ≡ Some (Taken m) →
      slice_get (relinked nodes before after previous next) slot
      ≡ Some (Taken (record m { previous = at_link after slot previous m.previous; next = at_link before slot next m.next }))
  taken_in_relinked nodes before after previous next slot m h =
      let n : Member T = record m { next = at_link before slot next m.next } in
      let first : slice_get (alter_link (with_next next) nodes before) slot ≡ Some (Taken n) =
      slice_get-alter_link (with_next next) nodes before slot (Taken m) h
      ∙ ap Some (at_link-ap (λ (l : Option ℕ). Taken (record m { next = l })) before slot next m.next) in
      slice_get-alter_link (with_previous previous) (alter_link (with_next next) nodes before) after slot (Taken n) first
      ∙ ap Some (at_link-ap (λ (l : Option ℕ). Taken (record n { previous = l })) after slot previous n.previous)

  pub free_in_relinked : (nodes : List (Held T)) (before after previous next : Option ℕ) (slot : ℕ) (link : Option ℕ) →
      slice_get nodes slot ≡ Some (Free link) → slice_get (relinked nodes before after previous next) slot ≡ Some (Free link)
  free_in_relinked nodes before after previous next slot link h =
      let first : slice_get (alter_link (with_next next) nodes before) slot ≡ Some (Free link) =
      slice_get-alter_link (with_next next) nodes before slot (Free link) h
      ∙ ap Some (at_link-ap (λ (l : Option ℕ). Free l) before slot link link ∙ ap Free (at_link_both before slot link)) in
      slice_get-alter_link (with_previous previous) (alter_link (with_next next) nodes before) after slot (Free link) first
      ∙ ap Some (at_link-ap (λ (l : Option ℕ). Free l) after slot link link ∙ ap Free (at_link_both after slot link))
