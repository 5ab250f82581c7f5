use Rattle.std.proofs.Common.{ℕ, ◌+◌, ◌∙◌, Bool, arith, refl, sum_by, sym, subst}
use Rattle.std.specs.Prelude.{◌||◌}
use Rattle.fl_intake.specs.Often.{Weight}
use Rattle.fl_pool.specs.Running.{weight_worked}
use Rattle.fl_pool.specs.Working.{HaveDone, reading}
use Rattle.fl_staff.proofs.CrewLemmas.{as_many}
use Rattle.fl_staff.proofs.EndLemmas.{weighed}
use Rattle.fl_staff.proofs.finishing.finish.Goals as goal

pub handed_in-seats-requires-clause-some : goal.handed_in-seats-requires-clause-some
handed_in-seats-requires-clause-some g c = omega (arith, as_many g.C.Counter.worker _ _ c.requires.whose, c.requires.some)

pub handed_in-seats-requires-clause-pairs : goal.handed_in-seats-requires-clause-pairs
handed_in-seats-requires-clause-pairs g c = c.requires.pairs.0 ∙ sym (as_many g.C.Counter.worker _ _ c.requires.whose)

pub returns-clause-served : goal.returns-clause-served
returns-clause-served g c put left left_now run =
    let read = reading g.C.Counter.worker g.C.Counter.count g.C.Counter.answered g.C.Counter.front g.C.Counter.stored in
    let shows = g.C.Counter.shows in
    let back = c.args.ran.back in
    let seats = c.handed_in-seats.result.0.items in
    let sent = c.handed_in-seats.result.1.items in
    let more = c.handed_in-seats.result.2 in
    let failed = c.or-failures.result in
    let before : Weight → ℕ = weight_worked run.inline back in
    let orders : Weight → ℕ = λ weight. weight_worked run.inline back weight + sum_by weight c.in-Ok.left.items in
    let did = c.handed_in-seats.ensures.did before back.failures.refused back.failures.lost run.worked.did in
    let lost = subst (λ (b : Bool). HaveDone read shows orders seats sent (back.failures.refused || more.refused) b)
    (sym c.or-failures.ensures.1) did in
    let both = subst (λ (b : Bool). HaveDone read shows orders seats sent b failed.lost) (sym c.or-failures.ensures.0) lost in
    record {
      ended = c.args.ran.received.fault;
      orders = run.orders;
      goodbye = c.args.ran.received.goodbye;
      own = c.args.ran.received.own;
      missing = c.args.ran.received.lost;
      received = run.received;
      whose = c.handed_in-seats.ensures.whose ∙ c.requires.whose;
      sents = sent;
      lost = failed.lost;
      did = weighed read shows orders (λ weight. sum_by weight run.orders) seats sent failed.refused failed.lost
          (λ weight. omega (arith, run.shared weight, c.in-Ok.ensures.left weight)) both;
      broken = c.say_goodbye-writer.result.1;
      whole = c.say_goodbye-writer.result.2;
      said = c.say_goodbye-writer.ensures.given;
      known = refl;
      ends = c.told.ensures.ends;
      memory = λ memory. run.memory (c.told.ensures.memory memory);
    }
