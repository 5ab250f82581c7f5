use Rattle.std.proofs.Common.{List, [], ◌∷◌, ◌++◌, All}
use Rattle.std.proofs.lemmas.List.Elements.{All-cons, All-head, All-nil, All-tail}
use Rattle.fl_session.specs.Session.{Came, session_of}
use Rattle.lockd_serve.specs.Said.{CanBeSaid}
use Rattle.lockd_serve.proofs.laws.what_is_read_of_a_killed_servers_file_is_a_session.Goals as goal

firsts : (first others : List Came) → All CanBeSaid (first ++ others) → All CanBeSaid first
firsts [] others all = All-nil CanBeSaid
firsts (c ∷ first) others all =
    All-cons CanBeSaid c first (All-head CanBeSaid c (first ++ others) all)
    (firsts first others (All-tail CanBeSaid c (first ++ others) all))

pub returns : goal.returns
returns c =
    let by = c.what_is_read_of_a_cut_text_begins_its_lines.ensures in
    let fits = c.the_lines_of_a_session_can_be_read_back.ensures in
    λ rules first others text read bytes missing can has begins are legal.
    c.what_a_cut_session_leaves_is_a_session.ensures.left rules first others read missing
    (by.has text (session_of rules first).lines read bytes (fits rules first (firsts first others can)) has are)
    (by.front text (session_of rules (first ++ others)).lines read bytes (fits rules (first ++ others) can) begins are) legal
