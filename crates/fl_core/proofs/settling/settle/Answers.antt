use Rattle.std.proofs.Common.{◌∙◌, ◌++◌, append-nil, ap, refl, sym, subst, length, arith}
use Rattle.fl_core.specs.Settling.{Settled, present, granted_told, marking_granted}
use Rattle.fl_core.specs.Inside.Touched.{OthersWait}
use Rattle.fl_core.proofs.Alone.{not_in_conflict}
use Rattle.fl_core.proofs.Settlings.{is_oldest, one_shorter, settled_none, settling_goes_on, settling_ends}
use Rattle.fl_core.proofs.Taken.{apart_without, one_longer}
use Rattle.fl_core.proofs.Waits.{none_concerned, others_granted}
use Rattle.fl_core.proofs.settling.settle.Goals as goal
use Rattle.fl_marks.specs.Conflict.{SameElsewhere}
use Rattle.fl_marks.specs.Marking.{Stroke}
use Rattle.fl_waiting.specs.Waiting.{AreApart}

pub grant-requires : goal.grant-requires
grant-requires c =
    let m = c.loop-claim.locks.marking in
    let oldest = is_oldest c.args.rules m _ _ _ c.in-Some.ensures in
    not_in_conflict c.args.rules m oldest.older c.in-Some.claim.request oldest.free

pub push-requires : goal.push-requires
push-requires c =
    let shorter = one_shorter c.args.rules (is_oldest c.args.rules c.loop-claim.locks.marking _ _ _ c.in-Some.ensures) in
    omega (arith, c.requires.room, c.loop-claim.invariant.few, c.loop-claim.invariant.room, shorter)

pub loop-claim-smaller : goal.loop-claim-smaller
loop-claim-smaller c = omega (arith, one_shorter c.args.rules (is_oldest c.args.rules c.loop-claim.locks.marking _ _ _ c.in-Some.ensures))

pub loop-claim-preserved : goal.loop-claim-preserved
loop-claim-preserved c =
    let m = c.loop-claim.locks.marking in
    let rules = c.args.rules in
    let taken = c.in-Some.ensures in
    let oldest = is_oldest rules m _ _ _ taken in
    let elsewhere = subst (λ (s : Stroke). SameElsewhere s.key m c.grant.new.locks.marking) c.in-Some.claim.wanted c.grant.ensures.elsewhere in
    let others = subst (OthersWait c.args.touched rules m) oldest.stands c.loop-claim.invariant.others in
    record {
      so_far = settling_goes_on rules _ _ _ _ m _ _ _ c.in-Some.claim.request _ c.loop-claim.invariant.so_far taken
          (c.grant.ensures.marking ∙ ap (λ n. marking_granted n m c.in-Some.claim.request) c.loop-claim.invariant.limit)
          (c.grant.ensures.told ∙ ap (λ n. granted_told n m c.in-Some.claim.request) c.loop-claim.invariant.limit)
          c.push.ensures.told;
      others = subst (OthersWait c.args.touched rules c.grant.new.locks.marking) (sym oldest.left)
          (others_granted c.args.touched rules m _ oldest.older c.in-Some.claim.request oldest.younger elsewhere oldest.free others);
      apart = λ apart. subst AreApart (sym oldest.left)
          (apart_without oldest.older c.in-Some.claim.request oldest.younger (subst AreApart oldest.stands (c.loop-claim.invariant.apart apart))).1;
      few = omega (
        arith,
        c.loop-claim.invariant.few,
        one_shorter rules oldest,
        ap length c.push.ensures.told,
        one_longer c.loop-claim.tolds.told c.grant.result,
      );
      room = c.push.ensures.room ∙ c.loop-claim.invariant.room;
      lawful = λ lawful. c.grant.ensures.lawful (c.loop-claim.invariant.lawful lawful);
      limit = c.grant.ensures.limit ∙ c.loop-claim.invariant.limit;
    }

pub returns-clause-tolds : goal.returns-clause-tolds
returns-clause-tolds c = (settling_ends c.args.rules _ _ _ c.loop-claim.locks.marking c.loop-claim.parked c.loop-claim.invariant.so_far c.in_default.ensures.0).0

pub returns-clause-present : goal.returns-clause-present
returns-clause-present c =
    ap (λ ps. present c.loop-claim.locks.marking ps) c.in_default.ensures.1
    ∙ (settling_ends c.args.rules _ _ _ c.loop-claim.locks.marking c.loop-claim.parked c.loop-claim.invariant.so_far c.in_default.ensures.0).1

pub returns-then-not-may_concern-clause-tolds : goal.returns-then-not-may_concern-clause-tolds
returns-then-not-may_concern-clause-tolds c =
    let m = c.args.locks.now.marking in
    let parked = c.args.parked.now in
    let all = none_concerned c.args.touched c.args.rules m parked (c.if-not-may_concern.ensures refl) c.requires.others in
    sym (append-nil c.args.tolds.now.told) ∙ ap (λ (s : Settled). c.args.tolds.now.told ++ s.tolds) (sym (settled_none c.args.rules m parked all))

pub returns-then-not-may_concern-clause-present : goal.returns-then-not-may_concern-clause-present
returns-then-not-may_concern-clause-present c =
    let m = c.args.locks.now.marking in
    let parked = c.args.parked.now in
    let all = none_concerned c.args.touched c.args.rules m parked (c.if-not-may_concern.ensures refl) c.requires.others in
    ap (λ (s : Settled). s.present) (sym (settled_none c.args.rules m parked all))
