use Rattle.std.proofs.Common.{rules, ◌≡◌, ◌<◌, ◌++◌, ◌∷◌, [], length, length-append, ap, refl, sym, ◌∙◌, arith}
use Rattle.std.proofs.Math.ListN.{get_or}
use Rattle.fl_record.specs.Asks.{history_of}
use Rattle.fl_record.specs.Seats.{Place}
use Rattle.fl_record.proofs.Batches.{handed_more}
use Rattle.fl_record.proofs.Prefixes.{of_another, of_itself}
use Rattle.fl_record.proofs.record.Record.take_all.Goals as goal

pub loop-order-init : goal.loop-order-init
loop-order-init g c = record {
  handed = rw c.clear.ensures.none refl;
  stored = of_itself c.args.self.now.stored c.args.self.now.stored refl;
  all = λ some. absurd (omega (arith, some, ap length c.clear.ensures.none));
  count = ap length c.clear.ensures.none;
  room = refl;
  lists = search rules;
  first = search rules;
}

pub returns-in-Err-clause-stored : goal.returns-in-Err-clause-stored
returns-in-Err-clause-stored g c =
    of_another c.args.self.now.stored c.loop-order.self.stored c.take.new.self.stored c.loop-order.invariant.stored c.take.ensures.stored

pub loop-order-preserved : goal.loop-order-preserved
loop-order-preserved g c =
    let so_far = c.loop-order.invariant in
    let before = c.loop-order.lists.lists in
    let orders = c.args.orders.now in
    let order = c.order-item.result in
    let told = c.take.new.tolds.told in
    let lists : c.push.new.self.lists ≡ before ++ told ∷ [] =
    c.push.ensures.lists ∙ ap (λ l. before ++ l ∷ []) c.as_slice.ensures in
    let within : c.loop-order.order-index < length orders = c.loop-order-test.true in
    let less : length before < length orders = omega (arith, so_far.count, within) in
    let here : get_or orders c.loop-order.order-index order ≡ order = sym c.order-item.is in
    record {
      handed = rw lists (handed_more g.L.BoardName.rules c.args.seat.now c.loop-order.seat c.take.new.seat orders before order
          told less (ap (λ n. get_or orders n order) so_far.count ∙ here) c.take.ensures.worker c.in_default.ensures.handed
          so_far.handed);
      stored = of_another c.args.self.now.stored c.loop-order.self.stored c.take.new.self.stored so_far.stored c.take.ensures.stored;
      all = λ _. c.in_default.ensures.all;
      count = omega (arith, ap length lists, length-append before (told ∷ []), so_far.count);
      room = c.take.ensures.room ∙ so_far.room;
      lists = (c.push.ensures.room.0 ∙ so_far.lists.0, c.push.ensures.places ∙ so_far.lists.1);
      first = λ none. absurd (omega (arith, none));
    }

pub take-requires : goal.take-requires
take-requires g c = rw c.loop-order.invariant.room c.requires.room

pub push-requires-clause-room : goal.push-requires-clause-room
push-requires-clause-room g c =
    let free = (c.if-not-has_room.ensures.0 refl).0 in
    omega (arith, ap length c.as_slice.ensures, c.in_default.ensures.few, free, c.most_tolds-most.ensures)

pub push-requires-clause-place : goal.push-requires-clause-place
push-requires-clause-place g c = (c.if-not-has_room.ensures.0 refl).1

pub returns-clause-some : goal.returns-clause-some
returns-clause-some g c = λ some. omega (arith, some, c.loop-order.invariant.count, c.loop-order-test.false)

pub returns-in-Err-clause-refused : goal.returns-in-Err-clause-refused
returns-in-Err-clause-refused g c = omega (arith, c.loop-order.invariant.count, c.loop-order-test.true)

pub returns-in-Err-clause-handed : goal.returns-in-Err-clause-handed
returns-in-Err-clause-handed g c = rw c.in-Err.ensures.refused.0 c.loop-order.invariant.handed

pub returns-in-Err-clause-all : goal.returns-in-Err-clause-all
returns-in-Err-clause-all g c = λ some.
    let same = c.in-Err.ensures.refused in
    ap (history_of g.L.BoardName.rules) same.2 ∙ c.loop-order.invariant.all some ∙ sym (ap (λ (p : Place). p.handed) same.0)
