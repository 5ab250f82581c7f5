-- Pieces with a comma between each two, written one after another.
use Rattle.std.proofs.Common.{◌≡◌, ℕ, ◌≤◌, List, [], ◌∷◌, ◌++◌, length, map, take, ap, ◌∙◌, append_assoc, append-nil}
use Rattle.std.proofs.lemmas.List.{take_all}
use Rattle.std.specs.List.{flat_map, join_with_byte}

-- a comma stands before each piece but the first
joined : {A : Type 0} (f : A → List ℕ) (x : A) (xs : List A) → f x ++ flat_map (λ y. 44 ∷ f y) xs ≡ join_with_byte 44 (map f (x ∷ xs))
joined f x [] = append-nil (f x)
joined f x (y ∷ ys) = ap (λ text. f x ++ 44 ∷ text) (joined f y ys)

-- the first piece was written, and then all others
pub written : {A : Type 0} (f : A → List ℕ) (x : A) (others : List A) (i : ℕ) (old begun new : List ℕ) → begun ≡ old ++ f x
    → new ≡ begun ++ flat_map (λ y. 44 ∷ f y) (take i others) → length others ≤ i → new ≡ old ++ join_with_byte 44 (map f (x ∷ others))
written f x others i old begun new first all past =
    all
    ∙ ap (λ (ys : List _). begun ++ flat_map (λ y. 44 ∷ f y) ys) (take_all i others past)
    ∙ ap (λ text. text ++ flat_map (λ y. 44 ∷ f y) others) first
    ∙ append_assoc old (f x) (flat_map (λ y. 44 ∷ f y) others)
    ∙ ap (λ text. old ++ text) (joined f x others)
