use Rattle.std.proofs.Common.{[], ap}
use Rattle.fl_workers.proofs.DispatchLemmas.{handles_none, waits_more}
use Rattle.fl_workers.specs.Dispatched.{HandlesMore, Inline}
use Rattle.fl_workers.proofs.inline.InlineWorker.take.Goals.{else-is_full, then-is_full}
use Rattle.fl_workers.proofs.inline.InlineWorker.take.Goals as goal

pub push-requires : goal.push-requires
push-requires g c = record {
  room = elim c.if-is_full.branch [
    | then-is_full w ↦ rw w.self-is w.handle.ensures.room
    | else-is_full w ↦ rw w.self-is (c.is_full.ensures w.if-is_full.false)
  ];
}

pub returns : goal.returns
returns g c =
    let here : HandlesMore g.C.Counter.shows c.args.self.now c.if-is_full.self [] = elim c.if-is_full.branch [
      | then-is_full w ↦ rw w.self-is w.handle.ensures.handled
      | else-is_full w ↦ rw w.self-is (handles_none g.C.Counter.shows c.args.self.now)
    ] in
    let is = c.push.ensures in
    waits_more _ _ _ _ _ here (ap (λ (s : Inline). s.end) is) (ap (λ (s : Inline). s.standing) is) (ap (λ (s : Inline). s.waiting) is)
    (ap (λ (s : Inline). s.refused) is) (ap (λ (s : Inline). s.lost) is)
