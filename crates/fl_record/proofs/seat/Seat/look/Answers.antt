use Rattle.std.proofs.Common.{rules, ◌≡◌, Some, refl, ap, sym, ◌∙◌}
use Rattle.fl_counter.specs.Tolds.{own_replies}
use Rattle.fl_core.specs.State.{Snapshot}
use Rattle.fl_core.specs.Step.{replies}
use Rattle.fl_record.specs.Asks.{present_after}
use Rattle.fl_record.proofs.seat.Seat.look.Goals as goal

pub returns-clause-shown : goal.returns-clause-shown
returns-clause-shown g c =
    let ours = g.L.BoardName.rules in
    let shown = c.in-Some.shown in
    let leads = c.asks_lead.ensures in
    let most = c.if-not-begins.ensures.most refl in
    let told : replies (present_after ours shown) c.args.order.now ≡ own_replies c.args.order.now (Some c.in-Some.answer) = search rules in
    rw (← c.self.view_is) (record {
      had = most.had;
      answered = most.answered;
      saw = most.saw;
      answer = record {
        legal = leads.legal ours shown;
        answer = ap (λ (p : Snapshot). replies p c.args.order.now) (sym (leads.stands ours shown)) ∙ told;
      };
    })
