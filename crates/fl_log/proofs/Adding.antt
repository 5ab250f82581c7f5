-- The exchange that adds an entry keeps the rule of the log.
use Rattle.std.proofs.Common.{◌≡◌, ℕ, ◌+◌, ◌<◌, ◌==◌, Bool, true, false, List, [], ◌∷◌, ◌++◌, length, refl, ap, sym}
use Rattle.std.proofs.Common.{subst, arith, inl, length-append, None}
use Rattle.std.proofs.lemmas.List.{append-nil}
use Rattle.std.proofs.lemmas.Bool.Decides.{nat_tests}
use mathlib.Core.List.{IsPrefix}
use prog.Atomic.{either}
use Rattle.logbook.specs.Pages.{Cell, cell, keeps, no_nib, step, Moves, Goes, View}
use Rattle.fl_log.specs.Inside.Counting.{IsCounted, IsAdded}
use Rattle.fl_log.proofs.Prefixes.{is_whole}

-- clients see nothing of the log, and trade nothing
abbrev nothing_shown : {E : Type 0} → List E → List E
nothing_shown log = []

abbrev nothing_moves : {E : Type 0} → List E → List E → ℕ → Type 0
nothing_moves before after answer = Unit {0}

abbrev cells_of : ℕ → List Cell
cells_of n = (n, true) ∷ (0, true) ∷ []

module _ {E : Type 0} (seen : List E) (entry : E) (n : ℕ) (counted : length seen ≡ n) where
  abbrev before : View E ℕ
  before = (seen, (no_nib, None))

  -- the word becomes one more, if it was n
  abbrev put : ℕ → ℕ
  put found = either (found == n) (n + 1) found

  abbrev GoesAt : List Cell → List E → Type 0
  GoesAt cells log = Goes IsCounted nothing_shown nothing_moves 0 before put (IsAdded (step 0 n (n + 1) entry) before) cells log

  goes : (log : List E) → IsPrefix seen log → (b : Bool) → (length log == n) ≡ b → GoesAt (cells_of (length log)) log
  goes log begins true is =
      let here : length log ≡ n = grind (arith, nat_tests) in
      let whole : seen ≡ log = is_whole seen log begins (omega arith) in
      let one_more : put (length log) ≡ length (log ++ entry ∷ []) = rw is (omega (arith, length-append log (entry ∷ []))) in (
        keeps,
        entry ∷ [],
        None,
        tt,
        ap cells_of one_more,
        inl (refl, refl),
        rw is (ap (λ xs. xs ++ entry ∷ []) (sym whole)),
      )
  goes log begins false is =
      let all : log ++ [] ≡ log = append-nil log in
      let same : put (length log) ≡ length (log ++ []) = rw is (ap length (sym all)) in (
        keeps,
        [],
        None,
        tt,
        ap cells_of same,
        inl (refl, refl),
        rw is (ap length all),
      )

  -- whatever the log is, the entry is added to all that was seen, or the whole log is seen
  pub adds : Moves IsCounted nothing_shown nothing_moves 0 before put (IsAdded (step 0 n (n + 1) entry) before)
  adds cells log kept begins away =
      let P : List Cell → Type 0 = λ cs. (0 < length cs) × ((cell cs 0).1 ≡ true) × GoesAt cs log in
      subst P (sym kept) (omega arith, refl, goes log begins (length log == n) refl)
