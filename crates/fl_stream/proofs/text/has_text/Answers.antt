use Rattle.std.proofs.Common.{◌≤◌, length, refl, arith}
use Rattle.std.proofs.lemmas.Grind.{common_steps}
use Rattle.fl_trace.specs.Text.{LineFits}
use Rattle.fl_stream.proofs.Places.{fits_more, fits_all}
use Rattle.fl_stream.proofs.text.has_text.Goals as goal

pub loop-at-preserved : goal.loop-at-preserved
loop-at-preserved c =
    let fits : LineFits c.line.result = c.fits.ensures.0 c.if-not-fits.false in
    fits_more c.args.history.now c.loop-at.at c.line.result c.loop-at.invariant c.line.ensures fits

pub returns : goal.returns
returns c =
    let past : length c.args.history.now ≤ c.loop-at.at = grind (arith, common_steps) in
    (λ yes. fits_all c.args.history.now c.loop-at.at past c.loop-at.invariant, λ fits. refl)
