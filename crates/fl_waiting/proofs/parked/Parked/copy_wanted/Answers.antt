use Rattle.std.proofs.Common.{◌∙◌, length, ap, arith}
use Rattle.std.proofs.lemmas.List.{length-map}
use Rattle.fl_arena.specs.Chains.{items}
use Rattle.fl_waiting.specs.Inside.Claims.{request_in}
use Rattle.fl_waiting.specs.Waiting.{wishes}
use Rattle.fl_waiting.proofs.parked.Parked.copy_wanted.Goals as goal

pub copy_wanted-requires-clause-few : goal.copy_wanted-requires-clause-few
copy_wanted-requires-clause-few c = omega (arith, c.requires.few, length-map (items c.self.inside.claims 0) request_in, ap length c.self.view_is)

pub returns-clause-wanted : goal.returns-clause-wanted
returns-clause-wanted c = c.copy_wanted.ensures.wanted ∙ ap wishes c.self.view_is
