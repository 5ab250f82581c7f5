use Rattle.std.proofs.Common.{◌∙◌, sym, subst}
use Rattle.fl_state.specs.Telling.{AreTold}
use Rattle.fl_state.proofs.Restorings.{AreBack, take_all, one_back, next_fits}
use Rattle.fl_state.proofs.restoring.restore_all.Goals as goal

pub loop-i-init : goal.loop-i-init
loop-i-init c = λ rules node fh begins. (AreTold.none, begins)

pub loop-i-preserved : goal.loop-i-preserved
loop-i-preserved c =
    one_back c.args.core.now c.loop-i.core c.restore.new.core c.args.parts.now c.loop-i.i c.index-parts-i.result c.loop-i-test.true
    c.index-parts-i.is c.loop-i.invariant (sym c.if-not-restore.false ∙ c.restore.ensures.fits)
    (c.restore.ensures.after c.if-not-restore.false)

pub returns-clause-all : goal.returns-clause-all
returns-clause-all c rules node fh begins _ =
    subst (AreBack c.args.core.now c.loop-i.core) (take_all c.args.parts.now c.loop-i.i c.loop-i-test.false) c.loop-i.invariant rules node fh begins

pub returns-then-not-restore-clause-some : goal.returns-then-not-restore-clause-some
returns-then-not-restore-clause-some c rules node fh begins told =
    sym c.if-not-restore.true ∙ c.restore.ensures.fits
    ∙ next_fits c.args.core.now c.loop-i.core c.args.parts.now c.loop-i.i c.index-parts-i.result c.loop-i-test.true c.index-parts-i.is
    c.loop-i.invariant rules node fh begins told
