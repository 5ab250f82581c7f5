use Rattle.fl_trace.proofs.line.push_answer.Goals as goal

pub returns-in-Done-clause-utf8 : goal.returns-in-Done-clause-utf8
returns-in-Done-clause-utf8 c = c.push.ensures.utf8

pub returns-in-Entry-clause-utf8 : goal.returns-in-Entry-clause-utf8
returns-in-Entry-clause-utf8 c = λ is. c.push_attr.ensures.utf8 (c.push-in-Entry.ensures.utf8 is)

pub returns-in-Attr-clause-utf8 : goal.returns-in-Attr-clause-utf8
returns-in-Attr-clause-utf8 c = λ is. c.push_attr-in-Attr.ensures.utf8 (c.push-in-Attr.ensures.utf8 is)

pub returns-in-Open-clause-utf8 : goal.returns-in-Open-clause-utf8
returns-in-Open-clause-utf8 c = λ is. c.push_number.ensures.utf8 (c.push-in-Open.ensures.utf8 is)

pub returns-in-Made-clause-utf8 : goal.returns-in-Made-clause-utf8
returns-in-Made-clause-utf8 c = λ is.
    c.push_number-in-Made.ensures.utf8 (c.push_attr-in-Made.ensures.utf8 (c.push-in-Made.ensures.utf8 is))

pub returns-in-Lock-clause-utf8 : goal.returns-in-Lock-clause-utf8
returns-in-Lock-clause-utf8 c = λ is. c.push_numbers.ensures.utf8 (c.push-in-Lock.ensures.utf8 is)
