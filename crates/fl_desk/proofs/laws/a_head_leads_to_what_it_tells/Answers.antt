use Rattle.std.proofs.Common.{map}
use Rattle.fl_desk.proofs.Heads.{Telling, begins, goes_on_telling, head_leads}
use Rattle.fl_desk.proofs.laws.a_head_leads_to_what_it_tells.Goals as goal
use Rattle.fl_state.specs.Parts.{part_of}

pub returns : goal.returns
returns c =
    let fit = c.a_told_state_is_fit.ensures in
    let telling : Telling = record { each = c.parts_are_told_one_by_one.ensures.each } in
    record {
      leads = λ rules head parts told. head_leads rules head parts told (fit rules head.node head.fh (map part_of parts) told.fit);
      begins = begins;
      next = goes_on_telling telling;
    }
