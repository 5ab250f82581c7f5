use Rattle.std.proofs.Common.{IsSome, sym, subst}
use Rattle.std.specs.FinMap.{get}
use Rattle.fl_dir.specs.Directory.{Listing}
use Rattle.fl_dir.proofs.Kept.{still_there}
use Rattle.fl_dir.proofs.dir.Dir.reopen.Goals as goal

pub open_file-requires-clause-there : goal.open_file-requires-clause-there
open_file-requires-clause-there c =
    subst (λ (d : Listing). IsSome (get d.nodes c.args.number)) (sym c.set_lookups.ensures)
    (still_there c.args.self.now.nodes c.args.number _ c.requires)
