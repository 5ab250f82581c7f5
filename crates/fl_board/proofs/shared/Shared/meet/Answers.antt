use Rattle.std.proofs.Common.{◌≡◌, ◌∙◌, refl, subst, sym}
use mathlib.Core.List.{IsPrefix}
use Rattle.fl_board.proofs.Refusing.{short_of_first, short_of_second}
use Rattle.fl_desk.specs.Legal.{IsLegal}
use Rattle.fl_record.specs.Asks.{history_of}
use Rattle.fl_board.proofs.shared.Shared.meet.Goals.{then-not-begins-via-then-not-begins, then-not-begins-via-else-not-begins+then-not-begins-2}
use Rattle.fl_board.proofs.shared.Shared.meet.Goals as goal

pub returns-then-not-begins-clause-no_view : goal.returns-then-not-begins-clause-no_view
returns-then-not-begins-clause-no_view g c =
    let ours = g.L.BoardName.rules in
    let all = c.asks-all.result.now in
    let legal = c.asks_lead.ensures.legal ours all in
    elim c.then-not-begins.branch [
      | then-not-begins-via-then-not-begins w ↦
          short_of_first ours (history_of ours all) _ _ legal (λ begins. cc (w.if-not-begins.ensures.all begins.had begins.saw))
      | then-not-begins-via-else-not-begins+then-not-begins-2 w ↦
          short_of_second ours (history_of ours all) _ _ _ legal (λ begins. cc (w.if-not-begins-2.ensures.all begins.had begins.saw))
    ]

pub returns-clause-met : goal.returns-clause-met
returns-clause-met g c =
    let ours = g.L.BoardName.rules in
    let lines = history_of ours c.asks-all.result.now in
    let one = c.if-not-begins.ensures.most refl in
    let other = c.if-not-begins-2.ensures.most refl in
    let shown : c.show.new.self.seen ≡ lines = c.show.ensures.shown in
    record {
      legal = subst (IsLegal ours) (sym shown) (c.asks_lead.ensures.legal ours c.asks-all.result.now);
      same = c.show-2.ensures.shown ∙ sym shown;
      one_had = subst (IsPrefix c.args.one.now.handed) (sym shown) one.had;
      one_saw = subst (IsPrefix c.args.one.now.seen) (sym shown) one.saw;
      other_had = subst (IsPrefix c.args.other.now.handed) (sym shown) other.had;
      other_saw = subst (IsPrefix c.args.other.now.seen) (sym shown) other.saw;
    }
