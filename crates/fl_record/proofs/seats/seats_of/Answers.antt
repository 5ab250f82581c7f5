use Rattle.std.proofs.Common.{rules, ◌≡◌, List, [], ap, ◌∙◌, refl, sym, subst, map, All, arith}
use Rattle.std.proofs.lemmas.List.Elements.{All-push}
use Rattle.std.specs.List.{range_with_len}
use Rattle.fl_record.proofs.Seating.{seat_added}
use Rattle.fl_record.specs.Asks.{history_of}
use Rattle.fl_record.specs.Seats.{Place}
use Rattle.fl_record.proofs.seats.seats_of.Goals as goal

pub loop-worker-preserved : goal.loop-worker-preserved
loop-worker-preserved g c =
    let inv = c.loop-worker.invariant in (
      search rules,
      search rules,
      search rules,
      search rules,
      ap (map (λ seat. seat.worker)) c.push_reserved.ensures.items ∙ seat_added (λ seat. seat.worker) _ _ _ inv.4 refl,
      subst (All (λ seat. (seat.count ≡ 0) × (seat.handed ≡ []) × (seat.seen ≡ []) × (seat.stored ≡ [])))
          (sym {A = List Place} c.push_reserved.ensures.items)
          (All-push (λ seat. (seat.count ≡ 0) × (seat.handed ≡ []) × (seat.seen ≡ []) × (seat.stored ≡ [])) _ _ inv.5 (
            c.split_off-share.ensures.amount,
            ap (history_of g.L.BoardName.rules) (c.again.ensures ∙ c.requires.none),
            ap (history_of g.L.BoardName.rules) (c.again-in-loop-worker.ensures ∙ c.requires.none),
            ap (history_of g.L.BoardName.rules) (c.again-in-loop-worker-2.ensures ∙ c.requires.none),
          )),
    )

pub returns-clause-workers : goal.returns-clause-workers
returns-clause-workers g c =
    let inv = c.loop-worker.invariant in
    let ended = c.loop-worker-test.false in
    inv.4 ∙ ap (range_with_len 0) (omega arith)
