use Rattle.fl_arena.proofs.CountLemmas.{linked_once}
use Rattle.fl_arena.proofs.WalkLemmas.{spelled_is}
use Rattle.fl_arena.proofs.CallLemmas.{spells_own, made}
use Rattle.fl_arena.proofs.chains.Arena.new.Goals as goal

pub invariant_of-result : goal.invariant_of-result
invariant_of-result g c =
    let ends = c.in_ok-ends.ensures.items_if_clones_equal (λ _ same. same) in
    rw ends (spells_own _ _ _ _ _
    (made c.in_ok-nodes.nodes.items c.in_ok-nodes.spare c.args.slots c.args.chains c.in_ok-nodes.ensures c.requires.slots c.requires.chains))

pub returns-clause-empty : goal.returns-clause-empty
returns-clause-empty g c =
    let ends = c.in_ok-ends.ensures.items_if_clones_equal (λ _ same. same) in
    rw ends (spelled_is _ _ _ _ _
    (made c.in_ok-nodes.nodes.items c.in_ok-nodes.spare c.args.slots c.args.chains c.in_ok-nodes.ensures c.requires.slots c.requires.chains))

pub returns-clause-linked : goal.returns-clause-linked
returns-clause-linked g c =
    let ends = c.in_ok-ends.ensures.items_if_clones_equal (λ _ same. same) in
    rw ends (linked_once _ _ _ _ _ (spells_own _ _ _ _ _
    (made c.in_ok-nodes.nodes.items c.in_ok-nodes.spare c.args.slots c.args.chains c.in_ok-nodes.ensures c.requires.slots c.requires.chains)))
