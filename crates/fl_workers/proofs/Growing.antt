-- What came behind what there was, and is counted.
use Rattle.std.proofs.Common.{◌≡◌, ℕ, ◌+◌, ◌==◌, true, List, [], ◌∷◌, ◌++◌, refl, sym, ap, ◌∙◌, subst}
use Rattle.std.proofs.Common.{arith, append_assoc, append-nil, length-append}
use Rattle.std.specs.Prelude.{if◌then◌else◌}
use Rattle.std.proofs.lemmas.Bool.Decides.{nat_tests}
use mathlib.Core.List.{IsPrefix, Sublistᴰ}
use mathlib.Core.List.Sublistᴰ as sublist
use Rattle.fl_log.specs.Appended.{Appended, IsAppended, entries_by, entry_by}
use Rattle.fl_log.specs.Growing.{Grows}

module _ {A : Type 0} where
  -- what stands among a beginning stands among the whole
  pub among_more : (some before now : List A) → IsPrefix before now → Sublistᴰ some before → Sublistᴰ some now
  among_more some before now begins among =
      rw (← append-nil some, ← begins.1) (sublist.append among (sublist.nil-sublist begins.0))

  pub prefix_trans : (xs ys zs : List A) → IsPrefix xs ys → IsPrefix ys zs → IsPrefix xs zs
  prefix_trans xs ys zs first second = (
    first.0 ++ second.0,
    sym (append_assoc xs first.0 second.0) ∙ ap (λ l. l ++ second.0) first.1 ∙ second.1,
  )

  -- nothing came
  pub none_more : (before : List A) (count : ℕ) → Grows before before count count []
  none_more before count = record {
    counted = omega arith;
    among = λ some among. subst (λ l. Sublistᴰ l before) (sym (append-nil some)) among;
  }

  -- one came last
  pub one_more : (had before now : List A) (count count_now : ℕ) (it : A) → IsPrefix had before
      → now ≡ before ++ it ∷ [] → count_now ≡ count + 1 → Grows had now count count_now (it ∷ [])
  one_more had before now count count_now it begins is more = record {
    counted = more;
    among = λ some among. rw is (sublist.append (among_more some had before begins among) (sublist.refl (it ∷ [])));
  }

  -- these came, and then those
  pub then_more : (a b c : List A) (k m n : ℕ) (xs ys : List A) → Grows a b k m xs → Grows b c m n ys
      → Grows a c k n (xs ++ ys)
  then_more a b c k m n xs ys first second = record {
    counted = omega (arith, first.counted, second.counted, length-append xs ys);
    among = λ some among. subst (λ l. Sublistᴰ l c) (append_assoc some xs ys)
        (second.among (some ++ xs) (first.among some among));
  }

module _ {E : Type 0} (author_of : E → ℕ) where
  by_more : (author : ℕ) (xs ys : List E)
      → entries_by author_of author (xs ++ ys) ≡ entries_by author_of author xs ++ entries_by author_of author ys
  by_more author [] ys = refl
  by_more author (x ∷ xs) ys =
      let first = entry_by author_of author x in
      ap (λ l. first ++ l) (by_more author xs ys)
      ∙ sym (append_assoc first (entries_by author_of author xs) (entries_by author_of author ys))

  by_begins : (author : ℕ) (xs ys : List E) → IsPrefix xs ys
      → IsPrefix (entries_by author_of author xs) (entries_by author_of author ys)
  by_begins author xs ys begins = (
    entries_by author_of author begins.0,
    sym (by_more author xs begins.0) ∙ ap (entries_by author_of author) begins.1,
  )

  same_number : (n : ℕ) → (n == n) ≡ true
  same_number n = grind (arith, nat_tests)

  by_one : (author : ℕ) (e : E) → author_of e ≡ author → entries_by author_of author (e ∷ []) ≡ e ∷ []
  by_one author e is = ap (λ n. (if n == author then e ∷ [] else []) ++ []) is
      ∙ ap (λ b. (if b then e ∷ [] else []) ++ []) (same_number author)

  -- an entry was appended, which is its author's last
  pub appended_more : (old new : Appended E) (e : E) → author_of e ≡ old.author → IsAppended old e new
      → Grows (entries_by author_of old.author old.upto) (entries_by author_of old.author new.upto) old.count new.count
      (e ∷ [])
  appended_more old new e its appended =
      let had = entries_by author_of old.author old.upto in
      let before = entries_by author_of old.author appended.before in
      let is = ap (entries_by author_of old.author) appended.upto ∙ by_more old.author appended.before (e ∷ [])
      ∙ ap (λ l. before ++ l) (by_one old.author e its) in
      one_more had before (entries_by author_of old.author new.upto) old.count new.count e
      (by_begins old.author old.upto appended.before appended.had) is appended.count
