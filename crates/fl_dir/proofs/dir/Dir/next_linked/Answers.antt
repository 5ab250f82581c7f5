use Rattle.std.proofs.Common.{◌≡◌, Some, option_map, ap, ◌∙◌, subst}
use Rattle.std.specs.FinMap.{get}
use Rattle.fl_dir.specs.declared.nodes.Slot.{Slot}
use Rattle.fl_dir.specs.Directory.{Listing}
use Rattle.fl_dir.proofs.Bare.{get_bare}
use Rattle.fl_dir.proofs.Next.{none_left, first_of_rest, slot_there}
use Rattle.fl_dir.proofs.dir.Dir.next_linked.Goals as goal

pub at-requires : goal.at-requires
at-requires c =
    let own = c.self.inside in
    slot_there own.nodes own.files c.args.self.now c.in-Some.number c.self.view_is c.in-Some.ensures.next.passes

pub returns-in-None-clause-none : goal.returns-in-None-clause-none
returns-in-None-clause-none c = λ _. none_left c.args.self.now.nodes c.args.from c.in-None.ensures.next

pub returns-in-Some-clause-rest : goal.returns-in-Some-clause-rest
returns-in-Some-clause-rest c =
    let own = c.self.inside in
    let number = c.in-Some.number in
    first_of_rest c.args.self.now.nodes c.args.from number c.at.result.now.node c.in-Some.ensures.next
    (subst (λ (d : Listing). get d.nodes number ≡ Some c.at.result.now.node) c.self.view_is
    (get_bare own.nodes.values number ∙ ap (option_map (λ (s : Slot). s.node)) c.at.ensures))
