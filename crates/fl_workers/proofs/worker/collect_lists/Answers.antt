use Rattle.std.proofs.Common.{◌≡◌, ◌∙◌, ap, sym}
use Rattle.std.specs.Prelude.{◌||◌, not}
use Rattle.fl_workers.proofs.SentLemmas.{lists_more, none_sent}
use Rattle.fl_workers.proofs.worker.collect_lists.Goals as goal
use Rattle.fl_workers.proofs.worker.collect_lists.Goals.{else-lost, then-lost}

pub loop-place-init : goal.loop-place-init
loop-place-init g c = none_sent c.args.own.now _

pub loop-place-preserved : goal.loop-place-preserved
loop-place-preserved g c =
    let given = c.collect-given.result in
    let either : c.if-lost.lost ≡ (c.loop-place.lost || not given) = elim c.if-lost.branch [
      | then-lost w ↦ w.lost-is ∙ w.if-lost.true ∙ sym (ap (λ b. b || not given) w.if-lost.true)
      | else-lost w ↦ w.lost-is ∙ sym (ap (λ b. b || not given) w.if-lost.false)
    ] in
    lists_more c.args.lists.now.lists c.loop-place.place _ _ _ _ _ given _ c.list.ensures either
    c.loop-place.invariant c.collect-given.ensures.appended (λ no. (c.collect-given.ensures.refused no).1)
