use Rattle.std.proofs.Common.{rules, ◌≡◌, ℕ, nat_eq, ◌<◌, ◌∙◌, Bool, true, false, length, sym, subst}
use Rattle.fl_board.proofs.Batches.{all_stored_in}
use Rattle.fl_record.specs.Seats.{all_stored}
use Rattle.fl_record.specs.Shown.{AreHandedIn}
use Rattle.fl_board.proofs.board.Board.hand_in_all.Goals.{then-count-eq0, else-count-eq0}
use Rattle.fl_board.proofs.board.Board.hand_in_all.Goals as goal

-- if there are no lists, none wait
some_wait : (stored : Bool) (n : ℕ) → stored ≡ nat_eq n 0 → n ≡ 0 → stored ≡ false → ⊥
some_wait stored n is none waits = cc (subst (λ m. stored ≡ nat_eq m 0) none is, waits)

pub returns-then-not-stored-clause-handed : goal.returns-then-not-stored-clause-handed
returns-then-not-stored-clause-handed g c =
    let ours = g.L.BoardName.rules in
    let old = c.args.seat.now in
    let orders = c.args.orders.now in
    let taken = c.hand_in_all-taken in
    let waits : c.if-count-eq0.stored ≡ false = search rules in
    let some : 0 < length taken.new.lists.lists =
    elim c.if-count-eq0.branch [
      | then-count-eq0 w ↦ absurd (some_wait c.if-count-eq0.stored c.count.result w.stored-is w.if-count-eq0.true waits)
      | else-count-eq0 w ↦ search rules
    ] in
    let same : c.if-count-eq0.seat ≡ taken.new.seat =
    elim c.if-count-eq0.branch [
      | then-count-eq0 w ↦ w.seat-is
      | else-count-eq0 w ↦ w.seat-is ∙ w.store_if_due-stored.ensures.waits (sym w.stored-is ∙ waits)
    ] in
    subst (AreHandedIn ours old orders taken.new.lists.lists) (sym c.wait_until_stored.ensures)
    (rw same (all_stored_in ours old taken.new.seat orders taken.new.lists.lists some taken.ensures.handed))

pub returns-else-not-stored-clause-handed : goal.returns-else-not-stored-clause-handed
returns-else-not-stored-clause-handed g c =
    let ours = g.L.BoardName.rules in
    let old = c.args.seat.now in
    let orders = c.args.orders.now in
    let taken = c.hand_in_all-taken in
    let stored : c.if-count-eq0.stored ≡ true = search rules in
    elim c.if-count-eq0.branch [
      | then-count-eq0 w ↦ subst (AreHandedIn ours old orders taken.new.lists.lists) (sym w.seat-is) taken.ensures.handed
      | else-count-eq0 w ↦
          let some : 0 < length taken.new.lists.lists = search rules in
          let noted : c.if-count-eq0.seat ≡ all_stored taken.new.seat =
          w.seat-is ∙ w.store_if_due-stored.ensures.noted (sym w.stored-is ∙ stored) in
          subst (AreHandedIn ours old orders taken.new.lists.lists) (sym noted)
          (all_stored_in ours old taken.new.seat orders taken.new.lists.lists some taken.ensures.handed)
    ]
