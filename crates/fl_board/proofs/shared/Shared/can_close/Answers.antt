use Rattle.std.proofs.Common.{rules, ◌≡◌, ◌<◌, length, All, arith, refl, inl, inr, subst, sym, List}
use Rattle.std.proofs.Math.ListN.{get_or}
use Rattle.std.proofs.lemmas.List.{take_more, take_all}
use Rattle.std.proofs.lemmas.List.Elements.{All-push}
use mathlib.Core.List.{IsPrefix}
use Rattle.fl_board.proofs.Refusing.{short_at}
use Rattle.fl_record.specs.Asks.{history_of}
use Rattle.fl_record.specs.Seats.{HasMostOf}
use Rattle.fl_record.specs.Seats.{Place}
use Rattle.fl_board.proofs.shared.Shared.can_close.Goals.{then-not-begins-via-then-not-begins, then-not-begins-via-else-not-begins+then-not-is_stored_in}
use Rattle.fl_board.proofs.shared.Shared.can_close.Goals as goal

pub loop-seat-preserved : goal.loop-seat-preserved
loop-seat-preserved g c =
    let ours = g.L.BoardName.rules in
    let seats = c.args.seats.now in
    let lt : c.loop-seat.seat-index < length seats = c.loop-seat-test.true in
    let most : HasMostOf (history_of ours c.args.self.now.asks) c.seat-item.result = search rules in
    let stored : IsPrefix c.seat-item.result.stored (history_of ours c.args.self.now.stored) = search rules in
    let is : get_or seats c.loop-seat.seat-index c.seat-item.result ≡ c.seat-item.result = sym c.seat-item.is in
    rw (take_more seats c.loop-seat.seat-index c.seat-item.result lt, is) (record {
      most = All-push (λ x. HasMostOf (history_of ours c.args.self.now.asks) x) _ _ c.loop-seat.invariant.most most;
      stored = All-push (λ x. IsPrefix x.stored (history_of ours c.args.self.now.stored)) _ _ c.loop-seat.invariant.stored stored;
    })

pub returns-clause-most : goal.returns-clause-most
returns-clause-most g c = λ t.
    subst (λ (l : List Place). All (λ x. HasMostOf (history_of g.L.BoardName.rules c.args.self.now.asks) x) l)
    (take_all c.loop-seat.seat-index c.args.seats.now (omega (arith, c.loop-seat-test.false))) c.loop-seat.invariant.most

pub returns-clause-stored : goal.returns-clause-stored
returns-clause-stored g c = λ t.
    subst (λ (l : List Place). All (λ x. IsPrefix x.stored (history_of g.L.BoardName.rules c.args.self.now.stored)) l)
    (take_all c.loop-seat.seat-index c.args.seats.now (omega (arith, c.loop-seat-test.false))) c.loop-seat.invariant.stored

pub returns-clause-apart : goal.returns-clause-apart
returns-clause-apart g c = λ t. (c.if-not-are_apart.ensures).0 refl

pub returns-then-not-are_apart-clause-cant : goal.returns-then-not-are_apart-clause-cant
returns-then-not-are_apart-clause-cant g c = λ f. inr (λ apart. cc ((c.if-not-are_apart.ensures).1 apart))

pub returns-then-not-begins-clause-cant : goal.returns-then-not-begins-clause-cant
returns-then-not-begins-clause-cant g c = λ f.
    let ours = g.L.BoardName.rules in
    let seats = c.args.seats.now in
    let i = c.loop-seat.seat-index in
    let seat = c.seat-item.result in
    let lt : i < length seats = c.loop-seat-test.true in
    let is : get_or seats i seat ≡ seat = sym c.seat-item.is in
    let legal = c.asks_lead.ensures.legal ours in
    inl (elim c.then-not-begins.branch [
      | then-not-begins-via-then-not-begins w ↦ short_at ours _ seats i seat (legal _) lt is (λ begins. w.if-not-begins.ensures.all begins.had begins.saw)
      | then-not-begins-via-else-not-begins+then-not-is_stored_in w ↦
          short_at ours _ seats i seat (legal _) lt is (λ begins. w.if-not-is_stored_in.ensures.1 begins.stored)
    ])
