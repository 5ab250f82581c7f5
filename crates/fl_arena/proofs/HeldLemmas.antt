-- What a node holds once one of its fields was written, and what was read of one.
use Rattle.std.proofs.Common.{◌≡◌, ℕ, true, List, length, get_or, Option, Some, None, IsSome, is_some, slice_get, refl, sym, ◌∙◌}
use Rattle.std.proofs.Common.{ap, subst}
use Rattle.std.proofs.lemmas.Option.{slice_get_read, slice_get_within}
use Rattle.fl_arena.specs.Inside.Held.{Held, Free, Taken, held, IsWhole, IsFilled}
use Rattle.fl_arena.specs.Inside.Links.{chain_in, item_in, held_with, with_next, with_previous, with_links}
use Rattle.fl_arena.specs.Inside.Links.{IsTaken, HasLinks, HasItem}
use Rattle.fl_arena.specs.declared.nodes.Member.{Member}
use Rattle.fl_arena.specs.declared.nodes.Room.{Room}
use Rattle.fl_arena.specs.declared.nodes.Room.TheVariants.{Empty, Filled}

module _ {T : Type 0} where
  pub chain_in-held : (chain previous next : Option ℕ) (room : Room T) → IsWhole chain room → chain ≡ chain_in (held chain previous next room)
  chain_in-held None previous next room h = refl
  chain_in-held (Some c) previous next Empty h = absurd h
  chain_in-held (Some c) previous next (Filled item) h = refl

  pub with_next-held : (chain previous next new : Option ℕ) (room : Room T) → IsWhole chain room → is_some chain ≡ true →
      held chain previous new room ≡ with_next new (held chain previous next room)
  with_next-held None previous next new room h there = cc
  with_next-held (Some c) previous next new Empty h there = absurd h
  with_next-held (Some c) previous next new (Filled item) h there = refl

  pub with_previous-held : (chain previous next new : Option ℕ) (room : Room T) → IsWhole chain room → is_some chain ≡ true →
      held chain new next room ≡ with_previous new (held chain previous next room)
  with_previous-held None previous next new room h there = cc
  with_previous-held (Some c) previous next new Empty h there = absurd h
  with_previous-held (Some c) previous next new (Filled item) h there = refl

  pub with_links-held : (chain previous next : Option ℕ) (c : ℕ) (before after : Option ℕ) (room : Room T) → IsWhole chain room → is_some chain ≡ true →
      held (Some c) before after room ≡ with_links c before after (held chain previous next room)
  with_links-held None previous next c before after room h there = cc
  with_links-held (Some d) previous next c before after Empty h there = absurd h
  with_links-held (Some d) previous next c before after (Filled item) h there = refl

  pub filled : (chain previous next : Option ℕ) (room : Room T) → IsSome (item_in (held chain previous next room)) → IsFilled room
  filled None previous next room h = cc
  filled (Some c) previous next Empty h = cc
  filled (Some c) previous next (Filled item) h = tt

  pub item_in-held : (chain previous next : Option ℕ) (item : T) → IsSome (item_in (held chain previous next (Filled item))) →
      item_in (held chain previous next (Filled item)) ≡ Some item
  item_in-held None previous next item h = cc
  item_in-held (Some c) previous next item h = refl

  pub held_with-held : (chain previous next : Option ℕ) (room : Room T) (item : T) → IsSome (item_in (held chain previous next room)) →
      held chain previous next (Filled item) ≡ held_with (held chain previous next room) item
  held_with-held None previous next room item h = cc
  held_with-held (Some c) previous next Empty item h = cc
  held_with-held (Some c) previous next (Filled old) item h = refl

  -- a slot that holds an item holds what its node does
  read_held : (nodes : List (Held T)) (slot at : ℕ) (n m : Held T) → IsTaken nodes slot → at ≡ slot → n ≡ get_or nodes at n → m ≡ n →
      slice_get nodes slot ≡ Some m
  read_held nodes slot at n m taken same read is =
      slice_get_read nodes (length nodes) slot n refl (slice_get_within nodes slot _ taken.1) (subst (λ (i : ℕ). n ≡ get_or nodes i n) same read)
      ∙ ap Some (sym is)

  links_of : (nodes : List (Held T)) (slot : ℕ) (chain previous next : Option ℕ) (room : Room T) → IsTaken nodes slot →
      slice_get nodes slot ≡ Some (held chain previous next room) → HasLinks nodes slot previous next
  links_of nodes slot None previous next room taken read = let both = sym taken.1 ∙ read in cc
  links_of nodes slot (Some c) previous next Empty taken read = let both = sym taken.1 ∙ read in cc
  links_of nodes slot (Some c) previous next (Filled item) taken read = record { chain = c; item = item; read = read }

  item_of_read : (nodes : List (Held T)) (slot : ℕ) (chain previous next : Option ℕ) (item : T) → IsTaken nodes slot →
      slice_get nodes slot ≡ Some (held chain previous next (Filled item)) → HasItem nodes slot item
  item_of_read nodes slot None previous next item taken read = let both = sym taken.1 ∙ read in cc
  item_of_read nodes slot (Some c) previous next item taken read = record { chain = c; previous = previous; next = next; read = read }

  pub links_read : (nodes : List (Held T)) (slot at : ℕ) (n : Held T) (chain previous next : Option ℕ) (room : Room T) → IsTaken nodes slot → at ≡ slot →
      n ≡ get_or nodes at n → held chain previous next room ≡ n → HasLinks nodes slot previous next
  links_read nodes slot at n chain previous next room taken same read is =
      links_of nodes slot chain previous next room taken (read_held nodes slot at n (held chain previous next room) taken same read is)

  pub item_read : (nodes : List (Held T)) (slot at : ℕ) (n : Held T) (chain previous next : Option ℕ) (item : T) → IsTaken nodes slot → at ≡ slot →
      n ≡ get_or nodes at n → held chain previous next (Filled item) ≡ n → HasItem nodes slot item
  item_read nodes slot at n chain previous next item taken same read is =
      item_of_read nodes slot chain previous next item taken (read_held nodes slot at n (held chain previous next (Filled item)) taken same read is)

  pub on_chain : (n : Held T) (c : ℕ) → chain_in n ≡ Some c → (m : Member T) × (n ≡ Taken m) × (m.chain ≡ c)
  on_chain (Free next) c h = cc
  on_chain (Taken m) c h = (m, refl, cc)

  pub on_none : (n : Held T) → chain_in n ≡ None → (next : Option ℕ) × (n ≡ Free next)
  on_none (Free next) h = (next, refl)
  on_none (Taken m) h = cc
