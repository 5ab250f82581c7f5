use Rattle.fl_state.proofs.Seekings.{same_of_alike, alike_of_same, equal_of_same}
use Rattle.fl_state.proofs.same.have_same.Goals as goal

pub returns-clause-is : goal.returns-clause-is
returns-clause-is c =
    let p = c.args.one.now in
    let q = c.args.other.now in
    let exact = c.marks_tell_markings_apart.ensures in (
      λ yes. same_of_alike p q exact (c.are_alike.ensures.0 yes),
      λ same. c.are_alike.ensures.1 (alike_of_same p q same),
    )

pub returns-clause-equal : goal.returns-clause-equal
returns-clause-equal c = λ yes rules.
    let p = c.args.one.now in
    let q = c.args.other.now in
    equal_of_same p q c.keeps_rules.ensures c.keeps_rules-2.ensures (same_of_alike p q c.marks_tell_markings_apart.ensures (c.are_alike.ensures.0 yes)) rules
