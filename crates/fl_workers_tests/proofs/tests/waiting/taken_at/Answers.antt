use Rattle.std.proofs.Common.{◌≡◌, []}
use Rattle.fl_intake.specs.Ends.{TakeSide}
use Rattle.fl_workers_tests.proofs.ListLemmas.{all_last}
use Rattle.fl_workers_tests.proofs.tests.waiting.taken_at.Goals as goal

pub taken_by-came-requires : goal.taken_by-came-requires
taken_by-came-requires g c =
    let of = c.expect-intake.result.0 in
    let IsFresh : TakeSide → Type 0 = λ end. (end.of ≡ of) × (end.taken ≡ []) in
    let is = rw c.expect-end.ensures at c.pop.ensures.items in
    (all_last IsFresh c.expect-intake.result.2.items c.pop.new.self.items c.expect-end.result is
    (rw c.expect-intake.ensures at c.new.ensures.takes)).0
