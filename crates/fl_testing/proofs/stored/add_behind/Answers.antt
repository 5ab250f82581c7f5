use Rattle.std.proofs.Common.{◌++◌, sym, ap, ◌∙◌, string_bytes}
use Rattle.std.proofs.lemmas.List.{append-nil}
use Rattle.fl_testing.proofs.Marks.{stripped, not_stripped}
use Rattle.fl_testing.proofs.stored.add_behind.Goals as goal

pub returns-in_ok-push_str : goal.returns-in_ok-push_str
returns-in_ok-push_str c =
    let text = string_bytes c.args.text.now in
    c.in_ok-push_str.ensures.bytes
    ∙ ap (λ t. text ++ t) (sym (stripped c.args.mark.now c.args.line.now c.in-Some.rest.now c.in-Some.ensures.cases))

pub returns-in_default : goal.returns-in_default
returns-in_default c =
    let text = string_bytes c.args.text.now in
    sym (ap (λ t. text ++ t) (not_stripped c.args.mark.now c.args.line.now c.in_default.ensures.cases) ∙ append-nil text)
