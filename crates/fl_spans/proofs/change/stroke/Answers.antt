use Rattle.std.proofs.Common.{ap, refl, ◌∙◌, arith}
use Rattle.fl_spans.specs.Row.{spans_at, with_spans}
use Rattle.fl_spans.proofs.Marks.{stroke_are, stroke_marks}
use Rattle.fl_spans.proofs.Strokes.{Walked, told}
use Rattle.fl_spans.proofs.change.stroke.Goals as goal
use Rattle.fl_spans.proofs.change.stroke.Goals.{After-pieces_with-pieces}

-- what the walk told of the row
at : (g : _) (c : After-pieces_with-pieces g) →
    Walked g.M.PartialEq.eq c.requires.exact g.met.M.Eq.laws.refl c.args.start c.args.end c.args.mark c.requires.ordered
    (spans_at c.args.rows.now c.args.row.now) c.seek-at.result.index c.gather-change.result.1 c.pieces_with-pieces.result
at g c =
    told g.M.PartialEq.eq c.requires.exact g.met.M.Eq.laws.refl c.args.start c.args.end c.args.mark c.requires.ordered
    (spans_at c.args.rows.now c.args.row.now) c.requires.spans c.seek-at.result.index c.gather-change.result.1 c.gather-change.result.0
    c.pieces_with-pieces.result c.seek-at.ensures.first c.gather-change.ensures.change c.gather-change.ensures.taken c.pieces_with-pieces.ensures

pub returns-clause-spans : goal.returns-clause-spans
returns-clause-spans g c =
    stroke_are g.M.PartialEq.eq c.requires.exact g.met.M.Eq.laws.refl c.args.start c.args.end c.args.mark _ c.requires.spans c.requires.ordered
    c.requires.in_range

pub returns-then-free-saturating_sub-clause-spans : goal.returns-then-free-saturating_sub-clause-spans
returns-then-free-saturating_sub-clause-spans g c =
    stroke_are g.M.PartialEq.eq c.requires.exact g.met.M.Eq.laws.refl c.args.start c.args.end c.args.mark _ c.requires.spans c.requires.ordered
    c.requires.in_range

pub returns-clause-marks : goal.returns-clause-marks
returns-clause-marks g c =
    stroke_marks g.M.PartialEq.eq c.requires.exact g.met.M.Eq.laws.refl c.args.start c.args.end c.args.mark _ c.requires.spans c.requires.ordered
    c.requires.in_range

pub returns-then-free-saturating_sub-clause-marks : goal.returns-then-free-saturating_sub-clause-marks
returns-then-free-saturating_sub-clause-marks g c =
    stroke_marks g.M.PartialEq.eq c.requires.exact g.met.M.Eq.laws.refl c.args.start c.args.end c.args.mark _ c.requires.spans c.requires.ordered
    c.requires.in_range

pub splice-requires-clause-taken : goal.splice-requires-clause-taken
splice-requires-clause-taken g c = (at g (goal.at.splice-requires-clause-taken g c).After-pieces_with-pieces).within

pub returns-clause-rows : goal.returns-clause-rows
returns-clause-rows g c =
    c.splice.ensures.rows
    ∙ ap (with_spans c.args.rows.now c.args.row.now) (at g (goal.at.returns-clause-rows g c).After-pieces_with-pieces).is

pub returns-then-free-saturating_sub-clause-full : goal.returns-then-free-saturating_sub-clause-full
returns-then-free-saturating_sub-clause-full g c =
    let walk = at g (goal.at.returns-then-free-saturating_sub-clause-full g c).After-pieces_with-pieces in
    let long = walk.long in
    let free = c.free.ensures in
    (λ _. omega (arith, long, free, c.count.ensures, c.saturating_sub.ensures, c.if-free-saturating_sub.true), λ _. refl)

pub returns-clause-full : goal.returns-clause-full
returns-clause-full g c =
    let walk = at g (goal.at.returns-clause-full g c).After-pieces_with-pieces in
    let long = walk.long in
    let free = c.free.ensures in
    (λ e. absurd (cc e), λ less. absurd (omega (arith, less, long, free, c.count.ensures, c.saturating_sub.ensures, c.if-free-saturating_sub.false)))
