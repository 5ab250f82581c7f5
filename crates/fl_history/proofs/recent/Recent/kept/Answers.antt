use Rattle.std.proofs.Common.{rules, ap}
use Rattle.std.specs.Prelude.{length, min}
use Rattle.fl_history.specs.Recent.{spoken}
use Rattle.fl_history.proofs.Recalling.{many_kept}
use Rattle.fl_history.proofs.recent.Recent.kept.Goals as goal

pub returns : goal.returns
returns c =
    search (
      rules,
      many_kept c.self.inside.past.items c.self.inside.entries.items c.self.invariant.0,
      ap (λ lines. min 65536 (length (spoken lines))) c.self.view_is,
    )
