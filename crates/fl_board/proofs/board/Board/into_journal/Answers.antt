use Rattle.std.proofs.Common.{◌≡◌, ◌∙◌, ap, sym, subst, All, refl, inr, sum_by, List}
use mathlib.Core.List.{IsPrefix}
use Rattle.fl_record.specs.Asks.{history_of}
use Rattle.fl_record.specs.Seats.{HasMostOf}
use Rattle.fl_board.specs.Inside.UnderLock.{UnderLock}
use Rattle.fl_board.specs.Refused.{CantClose}
use Rattle.fl_record.specs.Seats.{AreApart, Place}
use Rattle.fl_board.proofs.Counts.{has_all}
use Rattle.fl_board.proofs.Prefixes.{all_of_another}
use Rattle.fl_desk.specs.Legal.{orders_asked}
use Rattle.fl_history.specs.declared.history.Line.{Line}
use Rattle.fl_board.proofs.board.Board.into_journal.Goals as goal

pub returns-then-not-can_close-clause-back : goal.returns-then-not-can_close-clause-back
returns-then-not-can_close-clause-back g c =
    inr (_, refl, subst (CantClose g.L.BoardName.rules) c.deref-2.ensures.value (c.if-not-can_close.ensures.cant refl))

pub returns-clause-apart : goal.returns-clause-apart
returns-clause-apart g c = subst AreApart c.deref-2.ensures.value (c.if-not-can_close.ensures.apart refl)

pub returns-clause-each : goal.returns-clause-each
returns-clause-each g c =
    let ours = g.L.BoardName.rules in
    let seats = c.args.seats.items in
    let most : All (λ (p : Place). HasMostOf (history_of ours c.deref.result.now.asks) p) seats =
    subst (λ (l : List Place). All (λ (p : Place). HasMostOf (history_of ours c.deref.result.now.asks) p) l) c.deref-2.ensures.value
    (c.if-not-can_close.ensures.most refl) in
    let kept = g.J.Journal.lines c.into_journal.result in
    let history = c.into_journal.ensures in
    let lines : history_of ours c.deref.result.now.asks ≡ kept =
    ap (λ (s : UnderLock). history_of ours s.asks) (c.deref.ensures ∙ sym c.into_inner.ensures) ∙ sym history.lines in
    let total : orders_asked kept ≡ sum_by (λ (p : Place). p.count) seats = history.counted in
    has_all kept seats (returns-clause-apart g c) (subst (λ (l : List Line). All (λ (p : Place). HasMostOf l p) seats) lines most) total

pub returns-clause-stored : goal.returns-clause-stored
returns-clause-stored g c =
    let ours = g.L.BoardName.rules in
    let stored = history_of ours c.deref.result.now.stored in
    all_of_another (λ (p : Place). p.stored) c.args.seats.items stored _
    (subst (λ (l : List Place). All (λ (p : Place). IsPrefix p.stored stored) l) c.deref-2.ensures.value
    (c.if-not-can_close.ensures.stored refl))
    (subst (λ (s : UnderLock). IsPrefix (history_of ours s.stored) (g.J.Journal.stored c.into_journal.result))
    (c.into_inner.ensures ∙ sym c.deref.ensures) c.into_journal.ensures.stored)
