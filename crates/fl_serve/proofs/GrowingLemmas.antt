-- What came behind what there was, and is all that there is if it is counted.
use Rattle.std.proofs.Common.{◌≡◌, ℕ, ◌≤◌, List, [], ◌∷◌, ◌++◌, length, refl, ap, sym, ◌∙◌, subst, arith}
use Rattle.std.proofs.Common.{append_assoc, append-nil, length-append}
use mathlib.Core.List.{IsPrefix, Sublistᴰ}
use mathlib.Core.List.Sublistᴰ as sublist
use Rattle.fl_log.specs.Appended.{entries_by, entry_by}
use Rattle.fl_log.specs.Growing.{Grows}

module _ {A : Type 0} where
  pub then_more : (a b c : List A) (k m n : ℕ) (xs ys : List A) → Grows a b k m xs → Grows b c m n ys
      → Grows a c k n (xs ++ ys)
  then_more a b c k m n xs ys first second = record {
    counted = omega (arith, first.counted, second.counted, length-append xs ys);
    among = λ some among. subst (λ l. Sublistᴰ l c) (append_assoc some xs ys)
        (second.among (some ++ xs) (first.among some among));
  }

  shorter : (xs ys : List A) → Sublistᴰ xs ys → length xs ≤ length ys
  shorter xs ys sublist.slnil = omega arith
  shorter xs (y ∷ ys) (sublist.cons s) = omega (arith, shorter xs ys s)
  shorter (x ∷ xs) (y ∷ ys) (sublist.cons-cons e s) = omega (arith, shorter xs ys s)

  all_of : (xs ys : List A) → Sublistᴰ xs ys → length ys ≤ length xs → xs ≡ ys
  all_of xs ys sublist.slnil long = refl
  all_of xs (y ∷ ys) (sublist.cons s) long = absurd (omega (arith, shorter xs ys s, long))
  all_of (x ∷ xs) (y ∷ ys) (sublist.cons-cons e s) long = λ i. e i ∷ all_of xs ys s (omega (arith, long)) i

  -- if there was nothing before, and the count is that of all there is, it is just what came
  pub just_these : (now all : List A) (count : ℕ) (more : List A) → Grows [] now 0 count more → IsPrefix now all
      → length all ≡ count → all ≡ more
  just_these now all count more grown begins total =
      let among : Sublistᴰ more now = grown.among [] (sublist.refl []) in
      let there : Sublistᴰ more all = rw (← append-nil more, ← begins.1) (sublist.append among (sublist.nil-sublist begins.0)) in
      sym (all_of more all there (omega (arith, total, grown.counted)))

  -- the same of what there was up to the last that came
  pub all_grown : (now all : List A) (count : ℕ) (more : List A) → Grows [] now 0 count more → IsPrefix now all
      → length all ≡ count → now ≡ more
  all_grown now all count more grown begins total =
      sym (all_of more now (grown.among [] (sublist.refl []))
      (omega (arith, total, grown.counted, ap length begins.1, length-append now begins.0)))

module _ {E : Type 0} (author_of : E → ℕ) (author : ℕ) where
  by_append : (xs ys : List E)
      → entries_by author_of author (xs ++ ys) ≡ entries_by author_of author xs ++ entries_by author_of author ys
  by_append [] ys = refl
  by_append (x ∷ xs) ys = ap (λ l. entry_by author_of author x ++ l) (by_append xs ys)
      ∙ sym (append_assoc (entry_by author_of author x) (entries_by author_of author xs) (entries_by author_of author ys))

  -- what an author had so far begins what it has later
  pub by_begins : (xs ys : List E) → IsPrefix xs ys
      → IsPrefix (entries_by author_of author xs) (entries_by author_of author ys)
  by_begins xs ys begins =
      (entries_by author_of author begins.0, sym (by_append xs begins.0) ∙ ap (entries_by author_of author) begins.1)
