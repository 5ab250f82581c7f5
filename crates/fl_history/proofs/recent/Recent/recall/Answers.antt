use Rattle.std.proofs.Common.{◌∙◌, ap, arith}
use Rattle.std.specs.VecDeque.Iter.{deque_iter_rest}
use Rattle.fl_history.specs.Inside.Entries.{entries_of}
use Rattle.fl_history.specs.Recent.{recent}
use Rattle.fl_history.proofs.Recalling.{saying_starts, saying_on, saying_ends}
use Rattle.fl_history.proofs.recent.Recent.recall.Goals as goal

pub loop-entry-init : goal.loop-entry-init
loop-entry-init c =
    saying_starts c.args.unique c.args.self.now (deque_iter_rest c.into_iter-entry-iterator.result)
    (ap deque_iter_rest c.into_iter-entry-iterator.ensures.into_iter_gives ∙ c.iter-entry-items.ensures.rest
    ∙ c.self.invariant.0 ∙ ap (λ lines. entries_of (recent lines)) c.self.view_is)

pub recalled-recalled-requires : goal.recalled-recalled-requires
recalled-recalled-requires c = omega (arith, c.loop-entry.invariant.few)

pub loop-entry-preserved : goal.loop-entry-preserved
loop-entry-preserved c =
    saying_on c.args.unique c.args.self.now c.loop-entry.recalled c.recalled-recalled.result c.in-Some.entry.now
    (deque_iter_rest c.loop-entry.entry-iterator) (deque_iter_rest c.next.new.self) c.loop-entry.invariant
    c.in-Some.ensures.steps c.recalled-recalled.ensures

pub returns : goal.returns
returns c =
    saying_ends c.args.unique c.args.self.now c.loop-entry.recalled (deque_iter_rest c.loop-entry.entry-iterator)
    c.loop-entry.invariant c.in-None.ensures.steps.0
