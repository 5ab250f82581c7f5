use Rattle.std.proofs.Common.{◌≡◌, [], ◌∷◌, ap, refl}
use Rattle.std.proofs.lemmas.Result.{on_err_weaker, on_ok_weaker}
use Rattle.fl_board.proofs.Fronts.{handed_in_behind}
use Rattle.fl_board.specs.Shown.{front_of}
use Rattle.fl_counter.specs.Answered.{answered_by}
use Rattle.fl_record.specs.Seats.{Place}
use Rattle.fl_record.specs.Shown.{IsHandedIn}
use Rattle.fl_board.proofs.counter.BoardCounter.hand_in_one.Goals as goal

pub returns-clause-count : goal.returns-clause-count
returns-clause-count g c =
    let it = c.hand_in_one in
    let One : Type 0 = IsHandedIn g.L.BoardName.rules c.args.seat.now c.args.order.now it.new.tolds.told it.new.seat in
    on_ok_weaker it.result (λ (one : One). one.count) it.ensures.handed

pub returns-clause-taken : goal.returns-clause-taken
returns-clause-taken g c =
    let it = c.hand_in_one in
    on_ok_weaker it.result
    (c.answered_last.ensures g.L.BoardName.rules c.args.seat.now it.new.seat c.args.order.now it.new.tolds.told
    it.ensures.worker) it.ensures.handed

pub returns-clause-behind : goal.returns-clause-behind
returns-clause-behind g c =
    let it = c.hand_in_one in
    let ours = g.L.BoardName.rules in
    let old = c.args.seat.now in
    let order = c.args.order.now in
    let told = it.new.tolds.told in
    let One : Type 0 = IsHandedIn ours old order told it.new.seat in
    on_ok_weaker it.result
    (λ (one : One). handed_in_behind ours old it.new.seat (order ∷ []) (told ∷ []) (it.new.seat, it.ensures.worker, one, refl))
    it.ensures.handed

pub returns-clause-stored : goal.returns-clause-stored
returns-clause-stored g c =
    let it = c.hand_in_one in
    let seat = it.new.seat in
    let All : Type 0 = seat.stored ≡ seat.handed in
    on_ok_weaker it.result (λ (all : All). ap (answered_by seat.worker) all) it.ensures.stored

pub returns-clause-refused : goal.returns-clause-refused
returns-clause-refused g c =
    let it = c.hand_in_one in
    let Same : Type 0 = (it.new.seat ≡ c.args.seat.now) × (it.new.tolds ≡ c.args.tolds.now) in
    on_err_weaker it.result (λ (same : Same). (
      ap (λ (p : Place). p.count) same.0,
      ap (λ (p : Place). answered_by p.worker p.handed) same.0,
      ap front_of same.0,
      ap (λ (p : Place). p.stored) same.0,
    )) it.ensures.refused
