use Rattle.std.proofs.Common.{rules, ◌≡◌, ap, subst, arith, length}
use Rattle.std.specs.Prelude.{All, sum_by}
use Rattle.std.proofs.lemmas.List.Sums.{sum_by-cons, sum_by-append}
use Rattle.std.proofs.lemmas.List.Elements.{All-tail}
use Rattle.crossbeam_queue.specs.Passes.{view}
use Rattle.fl_intake.specs.Ends.{TakeSide, weight_taken}
use Rattle.fl_intake.proofs.Steps.{joins, shares_of, put_by, taken_by}
use Rattle.fl_intake.proofs.intake.merged.Goals as goal

pub absorb-requires-clause-rule : goal.absorb-requires-clause-rule
absorb-requires-clause-rule c = joins _ _ _ _ c.loop-end.invariant.1

pub loop-end-preserved : goal.loop-end-preserved
loop-end-preserved c =
    let kept = c.loop-end.invariant in
    let joined = c.absorb.ensures.rule in
    let other = c.into_pass-other.ensures.known in
    let rest = c.in-Some.ensures.steps.0 in
    let is_here = λ (end : TakeSide). end.of ≡ c.args.queue.now.table.shared.table_id in (
      search rules,
      omega (arith, ap shares_of other, ap shares_of joined),
      omega (arith, kept.2, ap shares_of other, ap shares_of joined, ap length rest),
      All-tail is_here _ _ (subst (All is_here) rest kept.3),
      λ weight. omega (
        arith,
        kept.4 weight,
        ap (put_by weight) joined,
        sum_by-append weight (view c.loop-end.pass).put (view c.into_pass-other.result).put,
        ap (put_by weight) other,
      ),
      λ weight. omega (
        arith,
        kept.5 weight,
        ap (taken_by weight) joined,
        ap (taken_by weight) other,
        sum_by-append weight (view c.loop-end.pass).taken (view c.into_pass-other.result).taken,
        ap (weight_taken weight) rest,
        sum_by-cons (λ (end : TakeSide). sum_by weight end.taken) c.in-Some.end c.next.new.self.rest.items,
      ),
    )
