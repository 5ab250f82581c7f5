-- Where the items of chunks stand, and one item or one chunk more.
use Rattle.std.proofs.Common.{◌≡◌, ℕ, ◌+◌, ◌*◌, ◌-◌, ◌<◌, ◌≤◌, ◌/◌, ◌%◌, ◌^◌, get_or, zero, suc, List, [], ◌∷◌, ◌++◌}
use Rattle.std.proofs.Common.{length, slice_set, append_assoc}
use Rattle.std.proofs.Common.{refl, ap, sym, ◌∙◌, subst, arith, length-append}
use Rattle.std.proofs.lemmas.List.{length_push, nil_from_length, append-nil}
use Rattle.std.proofs.lemmas.Nat.{div-add-mod', mod_below}
use Rattle.std.specs.List.{slice_get}
use Rattle.fl_history.specs.Inside.Chunks.{joined, ArePacked, IsStocked}

module _ {A : Type 0} where
  pub packed_length : (size len : ℕ) (cs : List (List A)) → ArePacked size len cs → length (joined cs) ≡ len
  packed_length size len [] p = sym p
  packed_length size len (c ∷ cs) p = omega (arith, length-append c (joined cs), p.0, packed_length size (len - size) cs p.1)

  pub get_left : (xs ys : List A) (i : ℕ) → i < length xs → slice_get (xs ++ ys) i ≡ slice_get xs i
  get_left [] ys i l = absurd (omega arith)
  get_left (x ∷ xs) ys zero l = refl
  get_left (x ∷ xs) ys (suc i) l = get_left xs ys i (omega arith)

  pub get_right : (xs ys : List A) (n i : ℕ) → n ≡ length xs + i → slice_get (xs ++ ys) n ≡ slice_get ys i
  get_right [] ys n i e = ap (slice_get ys) (omega (arith, e))
  get_right (x ∷ xs) ys zero i e = absurd (omega arith)
  get_right (x ∷ xs) ys (suc n) i e = get_right xs ys n i (omega arith)

  -- the chunk of a place is there
  is_chunk : (size len q r at : ℕ) (cs : List (List A)) → ArePacked size len cs → at ≡ q * size + r → at < len → q < length cs
  is_chunk size len q r at [] p e l = absurd (omega (arith, p))
  is_chunk size len zero r at (c ∷ cs) p e l = omega arith
  is_chunk size len (suc q) r at (c ∷ cs) p e l = omega (arith, is_chunk size (len - size) q r (at - size) cs p.1 (omega arith) (omega arith))

  -- the place is in that chunk
  in_chunk : (size len q r at : ℕ) (cs : List (List A)) (chunk : List A) → ArePacked size len cs → at ≡ q * size + r → at < len → r < size
      → chunk ≡ get_or cs q chunk → (r < length chunk) × (slice_get (joined cs) at ≡ slice_get chunk r)
  in_chunk size len q r at [] chunk p e l s there = absurd (omega (arith, p))
  in_chunk size len zero r at (c ∷ cs) chunk p e l s there =
      let short : r < length c = omega (arith, p.0) in
      subst (λ c′. (r < length c′) × (slice_get (c ++ joined cs) at ≡ slice_get c′ r)) (sym there)
      (short, ap (slice_get (c ++ joined cs)) (omega arith) ∙ get_left c (joined cs) r short)
  in_chunk size len (suc q) r at (c ∷ cs) chunk p e l s there =
      let w = in_chunk size (len - size) q r (at - size) cs chunk p.1 (omega arith) (omega arith) s there in
      (w.0, get_right c (joined cs) at (at - size) (omega (arith, p.0)) ∙ w.1)

  -- how chunks take one item more
  pub record TakesOne (size len q r : ℕ) (cs : List (List A)) (chunk : List A) (x : A) : Type 0 where
    pub long : length chunk ≡ r
    pub packed : ArePacked size (len + 1) (slice_set cs q (chunk ++ x ∷ []))
    pub joined_is : joined (slice_set cs q (chunk ++ x ∷ [])) ≡ joined cs ++ x ∷ []

  room_left : (size len q r : ℕ) (cs : List (List A)) → ArePacked size len cs → len ≡ q * size + r → len < length cs * size → q < length cs
  room_left size len q r [] p e l = absurd (omega (arith, l))
  room_left size len zero r (c ∷ cs) p e l = omega arith
  room_left size len (suc q) r (c ∷ cs) p e l = omega (arith, room_left size (len - size) q r cs p.1 (omega arith) (omega (arith, l)))

  chunk_takes_one : (size len q r : ℕ) (cs : List (List A)) (chunk : List A) (x : A) → ArePacked size len cs → len ≡ q * size + r → r < size
      → q < length cs → chunk ≡ get_or cs q chunk → TakesOne size len q r cs chunk x
  chunk_takes_one size len q r [] chunk x p e s l there = absurd (omega (arith, l))
  chunk_takes_one size len zero r (c ∷ cs) chunk x p e s l there =
      let none : joined cs ≡ [] = nil_from_length (joined cs) (omega (arith, packed_length size (len - size) cs p.1)) in
      subst (λ c′. TakesOne size len zero r (c ∷ cs) c′ x) (sym there) (record {
        long = omega (arith, p.0);
        packed = (omega (arith, p.0, length_push c x), subst (λ n. ArePacked size n cs) (rest len size (omega arith)) p.1);
        joined_is = append_assoc c (x ∷ []) (joined cs) ∙ ap (λ (l : List A). c ++ (x ∷ l)) none
            ∙ sym (ap (λ (l : List A). (c ++ l) ++ x ∷ []) none ∙ ap (λ (l : List A). l ++ x ∷ []) (append-nil c));
      })
    where
      rest : (n s : ℕ) → n + 1 ≤ s → n - s ≡ n + 1 - s
      rest n s l = omega arith
  chunk_takes_one size len (suc q) r (c ∷ cs) chunk x p e s l there =
      let w = chunk_takes_one size (len - size) q r cs chunk x p.1 (omega arith) s (omega arith) there in
      record {
        long = w.long;
        packed = (omega (arith, p.0), subst (λ n. ArePacked size n (slice_set cs q (chunk ++ x ∷ []))) (rest len size (omega arith)) w.packed);
        joined_is = ap (λ l. c ++ l) w.joined_is ∙ sym (append_assoc c (joined cs) (x ∷ []));
      }
    where
      rest : (n s : ℕ) → s ≤ n → n - s + 1 ≡ n + 1 - s
      rest n s l = omega arith

  pub chunk_more : (size len : ℕ) (cs : List (List A)) → ArePacked size len cs → ArePacked size len (cs ++ [] ∷ [])
  chunk_more size len [] p = (omega (arith, p), omega (arith, p))
  chunk_more size len (c ∷ cs) p = (p.0, chunk_more size (len - size) cs p.1)

  -- ---- at a quotient and a remainder

  pub chunk_is_there : (size len capacity at : ℕ) (cs : List (List A)) → IsStocked size cs len capacity → at < len → at / size < length cs
  chunk_is_there size len capacity at cs k l = is_chunk size len (at / size) (at % size) at cs k.packed (sym (div-add-mod' at size)) l

  pub item_is_there : (size len capacity at : ℕ) (cs : List (List A)) (chunk : List A) → 0 < size → IsStocked size cs len capacity → at < len
      → chunk ≡ get_or cs (at / size) chunk → (at % size < length chunk) × (slice_get (joined cs) at ≡ slice_get chunk (at % size))
  item_is_there size len capacity at cs chunk some k l there =
      in_chunk size len (at / size) (at % size) at cs chunk k.packed (sym (div-add-mod' at size)) l (mod_below at size some) there

  pub chunk_with_room : (size len capacity : ℕ) (cs : List (List A)) → IsStocked size cs len capacity → len < capacity → len / size < length cs
  chunk_with_room size len capacity cs k l = room_left size len (len / size) (len % size) cs k.packed (sym (div-add-mod' len size)) (omega (arith, k.made))

  pub takes_one : (size len capacity : ℕ) (cs : List (List A)) (chunk : List A) (x : A) → 0 < size → IsStocked size cs len capacity → len < capacity
      → chunk ≡ get_or cs (len / size) chunk → TakesOne size len (len / size) (len % size) cs chunk x
  takes_one size len capacity cs chunk x some k l there =
      chunk_takes_one size len (len / size) (len % size) cs chunk x k.packed (sym (div-add-mod' len size)) (mod_below len size some)
      (chunk_with_room size len capacity cs k l) there

  pub stocked_more : (size len capacity : ℕ) (cs : List (List A)) → IsStocked size cs len capacity → capacity + size < 2 ^ 63
      → IsStocked size (cs ++ [] ∷ []) len (capacity + size)
  stocked_more size len capacity cs k few = record {
    made = omega (arith, k.made, ap (λ n. n * size) (length_push cs []));
    within = omega (arith, k.within);
    few = few;
    packed = chunk_more size len cs k.packed;
  }
