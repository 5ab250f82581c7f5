use Rattle.std.proofs.Common.{◌≡◌, [], ◌∙◌, ap, sym}
use Rattle.fl_record.specs.Asks.{history_of, present_after}
use Rattle.fl_core.specs.State.{opening, snapshot_of}
use Rattle.fl_desk.specs.Legal.{orders_asked}
use Rattle.fl_replica.specs.Asks.{Publication}
use Rattle.fl_record.proofs.record.Record.over.Goals as goal

pub invariant_of-result : goal.invariant_of-result
invariant_of-result g c =
    let ours = g.L.BoardName.rules in
    let none : [] ≡ c.named-log.result.1 = sym c.named-log.ensures in (
      ap (λ (p : Publication). p.asks) c.in-Ok-made.ensures ∙ none,
      c.in-Ok.ensures.lines ∙ ap (history_of ours) none,
      c.in-Ok.ensures.present ∙ ap (λ r. snapshot_of (opening r)) c.requires.rules ∙ ap (present_after ours) none,
      c.requires.ledger ∙ sym (ap orders_asked c.in-Ok.ensures.lines),
    )
