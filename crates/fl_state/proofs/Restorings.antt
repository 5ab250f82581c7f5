-- Parts that are put back one after another.
use Rattle.std.proofs.Common.{◌≡◌, ℕ, zero, suc, ◌+◌, ◌<◌, ◌≤◌, true, List, [], ◌∷◌, ◌++◌, map, length, take, drop, slice_index_or}
use Rattle.std.proofs.Common.{refl, ap, sym, subst, ◌∙◌, arith}
use Rattle.std.proofs.lemmas.List.{map-append, take-append-drop}
use Rattle.fl_core.specs.Restored.{begun, fits, with_part}
use Rattle.fl_core.specs.State.{Snapshot, snapshot_of}
use Rattle.fl_order.specs.declared.state_part.StatePart.{StatePart}
use Rattle.fl_state.specs.Parts.{part_of}
use Rattle.fl_state.specs.Telling.{told_by, AreTold}
use Rattle.fl_state.proofs.Parts.{told_more, shown_more, fits_each}
use Rattle.fl_state.proofs.Walks.{drop_at}
use Rattle.fl_waiting.specs.declared.rules.Rules.{Rules}

module _ {X : Type 0} where
  take_at : (xs : List X) (j : ℕ) (d : X) → j < length xs → take (j + 1) xs ≡ take j xs ++ slice_index_or xs j d ∷ []
  take_at [] j d below = absurd (omega (arith, below))
  take_at (x ∷ xs) zero d below = refl
  take_at (x ∷ xs) (suc j) d below =
      let next : suc j + 1 ≡ suc (j + 1) = omega arith in
      ap (λ (n : ℕ). take n (x ∷ xs)) next ∙ ap (λ ys. x ∷ ys) (take_at xs j d (omega (arith, below)))

  pub take_all : (xs : List X) (j : ℕ) → length xs ≤ j → take j xs ≡ xs
  take_all [] zero h = refl
  take_all [] (suc j) h = refl
  take_all (x ∷ xs) zero h = absurd (omega (arith, h))
  take_all (x ∷ xs) (suc j) h = ap (λ ys. x ∷ ys) (take_all xs j (omega (arith, h)))

-- so many of these parts are told, and this is there then, if nothing was at first
abbrev pub AreBack : Snapshot → Snapshot → List StatePart → Type 0
AreBack first now parts =
    (rules : Rules) (node fh : ℕ) → first ≡ snapshot_of (begun rules node fh)
    → AreTold rules node fh (map part_of parts) × (now ≡ snapshot_of (told_by rules node fh (map part_of parts)))

pub one_back : (first now next : Snapshot) (parts : List StatePart) (i : ℕ) (part : StatePart) → i < length parts → part ≡ slice_index_or parts i part
    → AreBack first now (take i parts) → true ≡ fits now (part_of part) → next ≡ with_part (part_of part) now → AreBack first next (take (i + 1) parts)
one_back first now next parts i part below is back ok after rules node fh begins =
    let so_far = back rules node fh begins in
    let front = map part_of (take i parts) in
    let more : map part_of (take (i + 1) parts) ≡ front ++ part_of part ∷ [] =
    ap (map part_of) (take_at parts i part below) ∙ map-append part_of (take i parts) (slice_index_or parts i part ∷ [])
    ∙ ap (λ p. front ++ part_of p ∷ []) (sym is) in
    let fit = ap (λ p. fits p (part_of part)) (sym so_far.1) ∙ sym ok in (
      subst (AreTold rules node fh) (sym more) (told_more rules node fh front (part_of part) so_far.0 fit),
      after ∙ ap (with_part (part_of part)) so_far.1 ∙ sym (shown_more rules node fh front (part_of part))
          ∙ ap (λ ps. snapshot_of (told_by rules node fh ps)) (sym more),
    )

-- the part at which it stops would fit, if all were told
pub next_fits : (first now : Snapshot) (parts : List StatePart) (i : ℕ) (part : StatePart) → i < length parts → part ≡ slice_index_or parts i part
    → AreBack first now (take i parts) → (rules : Rules) (node fh : ℕ) → first ≡ snapshot_of (begun rules node fh)
    → AreTold rules node fh (map part_of parts) → fits now (part_of part) ≡ true
next_fits first now parts i part below is back rules node fh begins told =
    let front = map part_of (take i parts) in
    let rest = map part_of (drop (i + 1) parts) in
    let split : map part_of parts ≡ front ++ part_of part ∷ rest =
    ap (map part_of) (sym (take-append-drop i parts)) ∙ map-append part_of (take i parts) (drop i parts)
    ∙ ap (λ ps. front ++ map part_of ps) (drop_at parts i part below) ∙ ap (λ p. front ++ part_of p ∷ rest) (sym is) in
    ap (λ p. fits p (part_of part)) (back rules node fh begins).1
    ∙ fits_each rules node fh front rest (part_of part) (subst (AreTold rules node fh) split told)
