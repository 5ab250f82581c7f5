-- Where lines end with one line more.
use Rattle.std.proofs.Common.{◌≡◌, List, [], ◌∷◌, ◌++◌, ap, sym, ◌∙◌}
use Rattle.std.proofs.lemmas.List.Sums.{fold-append}
use Rattle.fl_history.specs.declared.history.Line.{Line}
use Rattle.fl_history.specs.Place.{nowhere, place_of, with_place}
use Rattle.fl_history.specs.declared.place.Place.{Place}

pub placed : (lines new : List Line) (l : Line) (before after : Place) → new ≡ lines ++ l ∷ [] → before ≡ place_of lines
    → after ≡ with_place before l → after ≡ place_of new
placed lines new l before after is so_far one =
    one ∙ ap (λ p. with_place p l) so_far ∙ sym (fold-append with_place nowhere lines (l ∷ [])) ∙ ap place_of (sym is)
