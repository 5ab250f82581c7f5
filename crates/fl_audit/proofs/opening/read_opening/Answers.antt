use Rattle.fl_audit.proofs.OpeningLemmas.{named_so}
use Rattle.fl_audit.proofs.opening.read_opening.Goals as goal

pub returns-clause-named : goal.returns-clause-named
returns-clause-named g c =
    named_so (g.R.Read.remaining c.args.input.now) (g.R.Read.remaining c.read_front.new.input) _ c.named_rules.result
    c.in_ok-bytes.ensures.read c.in_ok-bytes.ensures.enough c.a_line_is_short.ensures.short c.a_line_is_short.ensures.lacks
    c.named_rules.ensures
