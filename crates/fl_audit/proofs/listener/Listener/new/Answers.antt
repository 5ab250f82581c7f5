use Rattle.std.proofs.Common.{rules, refl, ap, ◌∙◌, arith}
use Rattle.fl_audit.proofs.Listening.{listens_first, none_within}
use Rattle.fl_audit.proofs.listener.Listener.new.Goals as goal
use Rattle.fl_judge.specs.Hearing.{Hearing}
use Rattle.fl_audit.specs.Inside.Keeping.{Keeping}

pub returns-clause-room : goal.returns-clause-room
returns-clause-room c = record {
  room = search rules;
  kept = omega arith;
  within = none_within c.args.most _ (ap (λ (h : Keeping). h.lines) c.new-judge.ensures ∙ ap (λ (h : Hearing). h.lines) c.in_ok-unheard.ensures);
}

pub returns-clause-listens : goal.returns-clause-listens
returns-clause-listens c =
    listens_first _ (ap (λ (h : Keeping). h.lines) c.new-judge.ensures ∙ ap (λ (h : Hearing). h.lines) c.in_ok-unheard.ensures) refl refl refl
