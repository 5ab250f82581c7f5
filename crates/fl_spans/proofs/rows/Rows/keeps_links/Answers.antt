use Rattle.std.proofs.Common.{subst}
use Rattle.fl_spans.specs.Rows.{AreLinked}
use Rattle.fl_spans.proofs.rows.Rows.keeps_links.Goals as goal

pub returns : goal.returns
returns g c = subst AreLinked c.self.view_is (record { heads = c.keeps_links.ensures; runs = c.keeps_links-2.ensures })
