use Rattle.std.proofs.Common.{◌≤◌, arith, refl, length}
use mathlib.Core.List.{IsPrefix}
use Rattle.fl_record.proofs.Answering.{answered_begins}
use Rattle.fl_record.proofs.Counts.{no_longer}
use Rattle.fl_record.proofs.Histories.{asks_begin, history_begins}
use Rattle.fl_record.specs.Asks.{history_of}
use Rattle.fl_counter.specs.Answered.{answered_by}
use Rattle.fl_record.proofs.seat.Seat.begins.Goals as goal

pub returns-then-begins-clause-all : goal.returns-then-begins-clause-all
returns-then-begins-clause-all g c =
    let ours = g.L.BoardName.rules in
    rw (← c.self.view_is) (λ had saw. c.begins-then-begins.ensures.begins.1 (asks_begin ours _ _ saw))

pub returns-then-begins-clause-most : goal.returns-then-begins-clause-most
returns-then-begins-clause-most g c = λ t.
    let ours = g.L.BoardName.rules in
    let worker = c.self.inside.worker in
    let handed : IsPrefix c.self.inside.handed c.args.asks.now = c.if-begins.ensures.begins.0 refl in
    let answered = answered_begins ours worker _ _ handed in
    let more = no_longer _ _ answered in
    let count : c.self.inside.share.amount ≤ length (answered_by worker (history_of ours c.args.asks.now)) =
    omega (arith, c.self.invariant.1, more) in
    rw (← c.self.view_is) (record {
      had = history_begins ours _ _ handed;
      answered = answered;
      saw = history_begins ours _ _ (c.begins-then-begins.ensures.begins.0 t);
      count = count;
    })

pub returns-else-begins-clause-all : goal.returns-else-begins-clause-all
returns-else-begins-clause-all g c =
    let ours = g.L.BoardName.rules in
    rw (← c.self.view_is) (λ had saw. c.begins.ensures.begins.1 (asks_begin ours _ _ had))
