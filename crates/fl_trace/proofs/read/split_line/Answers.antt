use Rattle.std.proofs.Common.{◌≡◌, ◌==◌, ◌∙◌, sym, ap, length, Some, None}
use Rattle.std.specs.List.{position}
use Rattle.fl_trace.proofs.Newlines.{at_newline, cut_at_newline, parts_at_newline}
use Rattle.fl_trace.proofs.read.split_line.Goals as goal

pub returns-in_err-end-clause-only : goal.returns-in_err-end-clause-only
returns-in_err-end-clause-only c = λ line rest lacks e.
    let at : c.newline.result ≡ Some (length line) = c.newline.ensures ∙ ap (position (λ b. b == 10)) e ∙ at_newline line rest lacks in
    let none : c.newline.result ≡ None = c.in_err-end.was in
    absurd (cc)

pub returns-clause-parts : goal.returns-clause-parts
returns-clause-parts c = cut_at_newline c.args.text.now c.in_ok-end.end (sym c.newline.ensures ∙ c.in_ok-end.was)

pub returns-clause-only : goal.returns-clause-only
returns-clause-only c = λ line rest lacks e. parts_at_newline c.args.text.now line rest c.in_ok-end.end lacks e (sym c.newline.ensures ∙ c.in_ok-end.was)
