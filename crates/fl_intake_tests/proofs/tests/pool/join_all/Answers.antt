use Rattle.std.proofs.Common.{rules, ◌≡◌, ◌∙◌, sym, subst, [], ◌∷◌, ◌++◌}
use Rattle.std.specs.Prelude.{All}
use Rattle.std.specs.declared.thread.PromisedHandle.{PromisedHandle}
use Rattle.std.proofs.lemmas.List.Elements.{All-head, All-tail, All-push}
use Rattle.fl_intake.specs.Ends.{TakeSide}
use Rattle.fl_intake_tests.specs.declared.tests.pool.SameIntake.{SameIntake}
use Rattle.fl_intake_tests.specs.declared.tests.pool.Took.{Took}
use Rattle.fl_intake_tests.proofs.tests.pool.join_all.Goals as goal

pub loop-thread-preserved : goal.loop-thread-preserved
loop-thread-preserved g c =
    let kept = c.loop-thread.invariant in
    let of = c.args.pool.now.intake in
    let is_here = λ (end : TakeSide). end.of ≡ of in
    let is_theirs = λ (thread : PromisedHandle Took SameIntake). thread.promise.was.value.of ≡ of in
    let all = subst (All is_theirs) c.in-Some.ensures.steps.0 kept.0 in
    let longer : c.push.new.self.items ≡ c.loop-thread.ends.items ++ c.join-end.result.end ∷ [] = search rules in (
      All-tail is_theirs _ _ all,
      subst (All is_here) (sym longer)
          (All-push is_here c.loop-thread.ends.items c.join-end.result.end kept.1
          (c.join-end.ensures ∙ All-head is_theirs _ _ all)),
    )
