use Rattle.std.proofs.Common.{refl, sym, subst}
use Rattle.fl_audit.proofs.Listening.{same_line}
use Rattle.fl_audit.proofs.listener.Listener.end.Goals as goal
use Rattle.fl_audit.specs.Inside.Hearing.{AreJudged, IsBad, Listens}
use Rattle.fl_audit.specs.declared.listener.Listener.{Listener}

pub returns-in-Some-clause-bad : goal.returns-in-Some-clause-bad
returns-in-Some-clause-bad c = λ n e text is.
    subst (λ (l : Listener). IsBad l.most c.args.cut text n) c.meet_rest.ensures
    (subst (IsBad c.meet_rest.new.self.most c.args.cut text) (same_line c.in-Some.n n e)
    (c.in-Some.ensures.bad text (subst (Listens text) (sym c.meet_rest.ensures) is)))

pub returns-in-None-clause-heard : goal.returns-in-None-clause-heard
returns-in-None-clause-heard c = λ text is.
    subst (λ (l : Listener). AreJudged l.most c.args.cut text c.meet_rest.new.self.judge.lines c.meet_rest.new.self.bytes) c.meet_rest.ensures
    (c.in-None.ensures.none refl text (subst (Listens text) (sym c.meet_rest.ensures) is))
