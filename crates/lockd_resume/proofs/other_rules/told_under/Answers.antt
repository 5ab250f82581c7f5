use Rattle.std.proofs.Common.{◌≡◌, ◌∙◌, ◌+◌, ◌-◌, ◌^◌, ◌≤◌, min, ap, arith, length, List, [], ◌∷◌, subst}
use Rattle.std.proofs.lemmas.List.Sums.{fold-append}
use Rattle.std.specs.List.{fold}
use Rattle.fl_history.specs.Place.{nowhere, place_of, with_place}
use Rattle.fl_history.specs.declared.history.Line.TheVariants as line
use Rattle.fl_history.specs.declared.place.Place.{Place}
use Rattle.fl_judge.specs.Present.{told_lines}
use Rattle.fl_order.specs.declared.told.Told.{Told}
use Rattle.lockd_resume.specs.Resumed.{lines_at}
use Rattle.lockd_resume.proofs.other_rules.told_under.Goals as goal

-- replies end as many lines further on
told_behind : (p : Place) (tolds : List Told) → p.lines ≤ 2 ^ 64 - 1
    → (fold with_place p (told_lines tolds)).lines ≡ min (p.lines + length tolds) (2 ^ 64 - 1)
told_behind p [] few = omega (arith, few)
told_behind p (told ∷ tolds) few = omega (arith, told_behind (with_place p (line.Told told)) tolds (omega arith))

pub returns-in-Ok-None-clause-lines : goal.returns-in-Ok-None-clause-lines
returns-in-Ok-None-clause-lines c =
    let point = c.args.point.now in
    let tolds = point.resumed.missing in
    let behind = told_behind point.place tolds (omega arith) in
    let there : (place_of (lines_at point)).lines ≡ min (point.place.lines + length tolds) (2 ^ 64 - 1) =
    ap (λ (p : Place). p.lines) (fold-append with_place nowhere point.resumed.past.items (told_lines tolds))
    ∙ subst (λ p. (fold with_place p (told_lines tolds)).lines ≡ min (point.place.lines + length tolds) (2 ^ 64 - 1))
    c.requires.place behind in
    omega (arith, c.in-Ok.ensures.lines, c.saturating_add-lines.ensures, ap length c.as_slice.ensures.is, there)
