-- The last item of a list.
use Rattle.std.proofs.Common.{◌≡◌, List, [], ◌∷◌, ◌++◌, All, subst}
use Rattle.std.proofs.lemmas.List.Elements.{All-head, All-tail}

of_last : {A : Type 0} (IsSo : A → Type 0) (front : List A) (last : A) → All IsSo (front ++ last ∷ []) → IsSo last
of_last IsSo [] last all = All-head IsSo last [] all
of_last IsSo (one ∷ front) last all = of_last IsSo front last (All-tail IsSo one (front ++ last ∷ []) all)

-- the last of which this is so
pub all_last : {A : Type 0} (IsSo : A → Type 0) (all front : List A) (last : A) → all ≡ front ++ last ∷ []
    → All IsSo all → IsSo last
all_last IsSo all front last is so = of_last IsSo front last (subst (All IsSo) is so)
