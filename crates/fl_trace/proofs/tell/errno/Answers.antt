use Rattle.std.proofs.Common.{◌≡◌, ◌==◌, ◌∙◌, sym, subst, ap, rules, tests, IsSome, Option, refl}
use Rattle.std.proofs.lemmas.Iterator.{YieldsList-from_slice}
use Rattle.std.proofs.lemmas.Iterator.Search.{find_from_yields_List}
use Rattle.std.specs.List.{find}
use Rattle.fl_order.specs.Errno.{number_of}
use Rattle.fl_order.specs.declared.errno.Errno.{Errno}
use Rattle.fl_trace.proofs.ReadBack.{all_errors, error_is_found}
use Rattle.fl_trace.proofs.tell.errno.Goals as goal

pub returns-clause-only : goal.returns-clause-only
returns-clause-only c = λ error e.
    let found : c.copied.result ≡ find (λ one. number_of one == c.args.number) all_errors =
    c.copied.ensures ∙ find_from_yields_List (λ one. number_of one == c.args.number) _ _ _ c.find.ensures.ran (YieldsList-from_slice all_errors cc)
    (λ x b q k. search (rules, tests)) in
    subst (λ (r : Option Errno). IsSome r) (sym (found ∙ ap (λ n. find (λ one. number_of one == n) all_errors) e ∙ error_is_found error)) refl
