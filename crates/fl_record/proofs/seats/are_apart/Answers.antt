use Rattle.std.proofs.Common.{rules, ◌≡◌, ◌≢◌, ◌<◌, ◌∙◌, ap, length, take, refl, sym, subst, arith}
use Rattle.std.proofs.Math.ListN.{get_or}
use Rattle.std.proofs.lemmas.List.{take_more, take_all}
use Rattle.std.proofs.lemmas.List.Quantifiers.{all_pairs_push}
use Rattle.fl_record.proofs.Seating.{none_before}
use Rattle.fl_record.specs.Seats.{AreApart, Place}
use Rattle.fl_record.proofs.seats.are_apart.Goals as goal

pub loop-i-preserved : goal.loop-i-preserved
loop-i-preserved g c =
    let seats = c.args.seats.now in
    let i = c.loop-i.i in
    let seat = c.index-seats-i.result in
    let lt : i < length seats = search rules in
    let is : get_or seats i seat ≡ seat = sym c.index-seats-i.is in
    let its : c.seat.inside.worker ≡ seat.worker = ap (λ (p : Place). p.worker) c.seat.view_is in
    rw (take_more seats i seat lt, is)
    (all_pairs_push (λ (a b : Place). a.worker ≢ b.worker) (take i seats) seat c.loop-i.invariant
    (λ k d short same. (c.if-has_worker.ensures).0 refl k d short (same ∙ sym its)))

pub returns : goal.returns
returns g c = (
  λ t. subst AreApart (take_all c.loop-i.i c.args.seats.now (omega (arith, c.loop-i-test.false))) c.loop-i.invariant,
  λ apart. refl,
)

pub returns-then-has_worker : goal.returns-then-has_worker
returns-then-has_worker g c =
    let its : c.seat.inside.worker ≡ c.index-seats-i.result.worker = ap (λ (p : Place). p.worker) c.seat.view_is in
    let lt : c.loop-i.i < length c.args.seats.now = search rules in (
      λ t. absurd (cc t),
      λ apart. sym ((c.if-has_worker.ensures).1
          (rw its (none_before c.args.seats.now c.loop-i.i c.index-seats-i.result apart lt c.index-seats-i.is))),
    )
