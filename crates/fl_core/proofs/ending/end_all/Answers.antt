use Rattle.std.proofs.Common.{rules, ◌∙◌, ap, sym, length, arith}
use Rattle.fl_core.specs.Replies.{ended_with, error_of, picks}
use Rattle.fl_core.proofs.Endings.{ending_goes_on, ending_ends}
use Rattle.fl_core.proofs.Taken.{is_taken, none_taken, one_longer}
use Rattle.fl_core.proofs.ending.end_all.Goals as goal

pub push-requires : goal.push-requires
push-requires c =
    let w = is_taken (picks c.args.ending) _ _ _ (c.in-Some.ensures (picks c.args.ending) (λ a r k. search rules)) in
    omega (arith, c.requires, c.loop-claim.invariant.few, c.loop-claim.invariant.room, w.shorter)

pub loop-claim-smaller : goal.loop-claim-smaller
loop-claim-smaller c =
    let w = is_taken (picks c.args.ending) _ _ _ (c.in-Some.ensures (picks c.args.ending) (λ a r k. search rules)) in
    omega (arith, w.shorter)

pub loop-claim-preserved : goal.loop-claim-preserved
loop-claim-preserved c =
    let taken = c.in-Some.ensures (picks c.args.ending) (λ a r k. search rules) in
    let w = is_taken (picks c.args.ending) _ _ _ taken in
    record {
      tolds =
          ending_goes_on (error_of c.args.ending) (picks c.args.ending) _ _ _ _ _ _ c.in-Some.claim.request _ c.loop-claim.invariant.tolds taken
          (ap (λ e. ended_with e c.in-Some.claim.request) c.error_of.ensures) c.push.ensures.told;
      parked = sym w.failing ∙ c.loop-claim.invariant.parked;
      none = λ none. absurd (cc none);
      few = omega (
        arith,
        c.loop-claim.invariant.few,
        w.shorter,
        ap length c.push.ensures.told,
        one_longer c.loop-claim.tolds.told
            (ended_with c.error_of.result c.in-Some.claim.request),
      );
      room = c.push.ensures.room ∙ c.loop-claim.invariant.room;
    }

pub returns-clause-tolds : goal.returns-clause-tolds
returns-clause-tolds c =
    let none = c.in_default.ensures (picks c.args.ending) (λ a r k. search rules) in
    ending_ends (error_of c.args.ending) (picks c.args.ending) _ _ _ _ c.loop-claim.invariant.tolds none.0

pub returns-clause-parked : goal.returns-clause-parked
returns-clause-parked c =
    let none = c.in_default.ensures (picks c.args.ending) (λ a r k. search rules) in
    none.1 ∙ sym (none_taken (picks c.args.ending) _ none.0).1 ∙ c.loop-claim.invariant.parked

pub returns-clause-few : goal.returns-clause-few
returns-clause-few c =
    let none = c.in_default.ensures (picks c.args.ending) (λ a r k. search rules) in
    omega (arith, c.loop-claim.invariant.few, ap length none.1)

pub returns-clause-any : goal.returns-clause-any
returns-clause-any c never =
    let none = c.in_default.ensures (picks c.args.ending) (λ a r k. search rules) in
    none.1 ∙ c.loop-claim.invariant.none never
