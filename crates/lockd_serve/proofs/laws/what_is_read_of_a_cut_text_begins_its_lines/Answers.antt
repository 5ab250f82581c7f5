use Rattle.lockd_serve.proofs.CutTexts.{front, has}
use Rattle.lockd_serve.proofs.laws.what_is_read_of_a_cut_text_begins_its_lines.Goals as goal

pub returns : goal.returns
returns c =
    let apart = c.no_text_is_that_of_two_histories.ensures in
    let lacks = c.a_line_is_short.ensures.lacks in
    record { front = front apart lacks; has = has apart lacks }
