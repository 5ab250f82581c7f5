use Rattle.std.proofs.Common.{rules, ◌≡◌, ap, ◌∙◌, sym, subst, arith, [], length}
use Rattle.std.proofs.lemmas.List.Elements.{All-push}
use Rattle.std.specs.Prelude.{All}
use Rattle.fl_intake.specs.Ends.{TakeSide}
use Rattle.fl_intake.proofs.Steps.{opens, shares_out, gave_one_more, shares_of, taken_of}
use Rattle.fl_intake.proofs.intake.Intake.new.Goals as goal

pub ruled-requires-clause-rule : goal.ruled-requires-clause-rule
ruled-requires-clause-rule c = opens

pub another-share-requires-clause-rule : goal.another-share-requires-clause-rule
another-share-requires-clause-rule c =
    let kept = c.loop.invariant in
    shares_out _ _ (omega (arith, ap shares_of kept.1, kept.2, c.loop-test.true, c.requires.takers.1))

pub loop-preserved : goal.loop-preserved
loop-preserved c =
    let kept = c.loop.invariant in
    let longer = c.push_reserved.ensures.items in
    let given = c.another-share.ensures in
    let is_fresh = λ (end : TakeSide). (end.of ≡ c.in_ok-queue.queue.table.shared.table_id) × (end.taken ≡ []) in (
      search rules,
      given.rule.0 ∙ gave_one_more _ _ _ _ kept.1 (ap length longer),
      search rules,
      subst (All is_fresh) (sym longer)
          (All-push is_fresh c.loop.takes.items _ kept.3 (given.queue.1.0, ap taken_of given.rule.1)),
      search rules,
    )
