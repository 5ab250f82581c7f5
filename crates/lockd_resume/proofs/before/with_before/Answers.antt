use Rattle.std.proofs.Common.{Ok, ap, inr, refl}
use Rattle.lockd_resume.proofs.BeforeLemmas.{gap_lacks, gap_says, heard_before, lacks_before, more_lines, one_more}
use Rattle.lockd_resume.specs.Heard.{IsHeardBefore, LacksBefore}
use Rattle.lockd_resume.specs.Inside.{StandsBefore}
use Rattle.lockd_resume.proofs.before.with_before.Goals as goal

pub returns-in_default-clause-heard : goal.returns-in_default-clause-heard
returns-in_default-clause-heard g c =
    let left = g.P.PiecesBefore.left in
    gap_says c.with_gap.result c.pieces.last c.pieces.last c.args.allows_gap
    (λ all. IsHeardBefore c.args.rules (left c.args.before.now) c.args.here all.past.items) c.with_gap.ensures.same refl
    (heard_before c.args.rules (left c.args.before.now) (left c.pieces.before) c.args.here c.args.place c.pieces.last
    c.requires.place c.pieces.invariant.recent c.pieces.invariant.heard)

pub returns-in_default-clause-fault : goal.returns-in_default-clause-fault
returns-in_default-clause-fault g c =
    let left = g.P.PiecesBefore.left in
    gap_lacks c.with_gap.result c.args.allows_gap (LacksBefore c.args.rules (left c.args.before.now) c.args.here)
    c.with_gap.ensures.fault
    (lacks_before c.args.rules (left c.args.before.now) (left c.pieces.before) c.args.here c.args.place c.pieces.last
    c.requires.place c.pieces.invariant.recent c.pieces.invariant.heard
    (λ enough. cc (c.pieces-test.ensures.1 enough)))

pub returns-in-Ok-Apart-clause-heard : goal.returns-in-Ok-Apart-clause-heard
returns-in-Ok-Apart-clause-heard g c =
    let left = g.P.PiecesBefore.left in
    gap_says c.with_gap-in-Ok-Apart.result c.pieces.last c.add_piece.new.last c.args.allows_gap
    (λ all. IsHeardBefore c.args.rules (left c.args.before.now) c.args.here all.past.items)
    c.with_gap-in-Ok-Apart.ensures.same (c.in-Ok-Apart.ensures.apart (ap (λ b. Ok b) c.in-Ok-Apart.field-0-is))
    (heard_before c.args.rules (left c.args.before.now) (left c.pieces.before) c.args.here c.args.place c.pieces.last
    c.requires.place c.pieces.invariant.recent c.pieces.invariant.heard)

pub returns-in-Ok-Apart-clause-fault : goal.returns-in-Ok-Apart-clause-fault
returns-in-Ok-Apart-clause-fault g c =
    let left = g.P.PiecesBefore.left in
    gap_lacks c.with_gap-in-Ok-Apart.result c.args.allows_gap (LacksBefore c.args.rules (left c.args.before.now) c.args.here)
    c.with_gap-in-Ok-Apart.ensures.fault
    (lacks_before c.args.rules (left c.args.before.now) (left c.pieces.before) c.args.here c.args.place c.pieces.last
    c.requires.place c.pieces.invariant.recent c.pieces.invariant.heard
    (λ enough. cc (c.pieces-test.ensures.1 enough)))

pub returns-in-Ok-Later-clause-fault : goal.returns-in-Ok-Later-clause-fault
returns-in-Ok-Later-clause-fault g c =
    let left = g.P.PiecesBefore.left in
    inr (
      refl,
      lacks_before c.args.rules (left c.args.before.now) (left c.pieces.before) c.args.here c.args.place c.pieces.last
          c.requires.place c.pieces.invariant.recent c.pieces.invariant.heard
          (λ enough. cc (c.pieces-test.ensures.1 enough)),
    )

pub pieces-preserved : goal.pieces-preserved
pieces-preserved g c =
    let left = g.P.PiecesBefore.left in
    let text = g.P.Piece.Read.remaining c.in-Some.piece in
    let more = c.add_piece.new.last in
    let stands : StandsBefore text c.args.place c.pieces.last more = c.in-Ok-Before.ensures.added (ap (λ b. Ok b) c.in-Ok-Before.field-0-is) in
    record {
      recent = more_lines text c.args.place c.pieces.last more c.args.here c.pieces.invariant.recent stands;
      heard = one_more c.args.rules (left c.args.before.now) (left c.pieces.before) c.args.here c.args.place c.pieces.last
          c.requires.place c.pieces.invariant.recent c.pieces.invariant.heard (left c.next.new.self) text more
          (λ enough. cc (c.pieces-test.ensures.1 enough)) c.in-Some.ensures.nearest stands;
    }

pub returns-clause-heard : goal.returns-clause-heard
returns-clause-heard g c =
    heard_before c.args.rules (g.P.PiecesBefore.left c.args.before.now) (g.P.PiecesBefore.left c.pieces.before) c.args.here
    c.args.place c.pieces.last c.requires.place c.pieces.invariant.recent c.pieces.invariant.heard
