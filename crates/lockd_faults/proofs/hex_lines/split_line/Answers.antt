use Rattle.std.proofs.Common.{◌≡◌, ◌-◌, ◌+◌, ap, sym, ◌∙◌, ◌∷◌, arith, length, take, drop, take_all, length-drop}
use Rattle.lockd_faults.specs.HexLines.{lines_of}
use Rattle.lockd_faults.proofs.LineLemmas.{has_line, split_line_is, only_line_is}
use Rattle.lockd_faults.proofs.hex_lines.split_line.Goals as goal

pub returns-in_err-end-clause-none : goal.returns-in_err-end-clause-none
returns-in_err-end-clause-none c = λ none. only_line_is c.args.text.now
    (sym c.first_newline.ensures.place ∙ c.in_err-end.was)

pub returns-clause-first : goal.returns-clause-first
returns-clause-first c =
    let text = c.args.text.now in
    let end = c.in_ok-end.end in
    let rest : take (length text - (end + 1)) (drop (end + 1) text) ≡ drop (end + 1) text = take_all
    (length text - (end + 1)) (drop (end + 1) text) (omega (arith, length-drop (end + 1) text)) in
    split_line_is text end (sym c.first_newline.ensures.place ∙ c.in_ok-end.was)
    ∙ ap (λ after. take end text ∷ lines_of after) (sym rest)

pub returns-clause-behind : goal.returns-clause-behind
returns-clause-behind c = has_line _
