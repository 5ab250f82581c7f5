use Rattle.std.proofs.Common.{rules, ◌≡◌, sym, subst, [], ◌∷◌, ◌++◌}
use Rattle.std.specs.Prelude.{All}
use Rattle.std.specs.declared.thread.PromisedHandle.{PromisedHandle}
use Rattle.std.proofs.lemmas.List.Elements.{All-tail, All-push}
use Rattle.fl_intake.specs.Ends.{TakeSide}
use Rattle.fl_intake_tests.specs.declared.tests.pool.SameIntake.{SameIntake}
use Rattle.fl_intake_tests.specs.declared.tests.pool.Took.{Took}
use Rattle.fl_intake_tests.proofs.tests.pool.start_all.Goals as goal

pub loop-end-preserved : goal.loop-end-preserved
loop-end-preserved g c =
    let kept = c.loop-end.invariant in
    let of = c.args.pool.now.intake in
    let is_here = λ (end : TakeSide). end.of ≡ of in
    let is_theirs = λ (thread : PromisedHandle Took SameIntake). thread.promise.was.value.of ≡ of in
    let longer : c.push.new.self.items ≡ c.loop-end.threads.items ++ c.start.result ∷ [] = search rules in (
      All-tail is_here _ _ (subst (All is_here) c.in-Some.ensures.steps.0 kept.0),
      subst (All is_theirs) (sym longer)
          (All-push is_theirs c.loop-end.threads.items c.start.result kept.1 c.start.ensures),
    )
