use Rattle.std.proofs.Common.{IsSome, subst, ap, sym, ◌∙◌, arith}
use Rattle.std.proofs.lemmas.Option.{none-some}
use Rattle.std.specs.FinMap.{remove, get}
use Rattle.fl_dir.specs.Inside.Numbers.{Numbers}
use Rattle.fl_dir.proofs.Spread.{removed}
use Rattle.fl_dir.proofs.Numbers.{in_range, alone, get_at, altered_numbers, same_numbers}
use Rattle.fl_dir.proofs.numbered.Numbered.remove.Goals as goal

pub take_out-requires-clause-chain : goal.take_out-requires-clause-chain
take_out-requires-clause-chain g c =
    let own = c.self.inside in in_range own.entries own.mask own.next c.args.number c.chain_of-chain.result c.self.invariant c.chain_of-chain.ensures

pub take_out-requires-clause-sorted : goal.take_out-requires-clause-sorted
take_out-requires-clause-sorted g c = c.self.invariant.sorted

pub take_out-requires-clause-found : goal.take_out-requires-clause-found
take_out-requires-clause-found g c =
    let own = c.self.inside in
    subst IsSome (get_at own.entries own.mask own.next c.args.number c.chain_of-chain.result c.self.invariant c.chain_of-chain.ensures)
    (subst (λ (n : Numbers g.row.T.Denot). IsSome (get n.values c.args.number)) (sym c.self.view_is) c.requires)

pub invariant_of-self : goal.invariant_of-self
invariant_of-self g c =
    let own = c.self.inside in
    altered_numbers own.entries c.take_out.new.entries own.mask own.next own.next c.args.number c.chain_of-chain.result _ c.self.invariant c.take_out.ensures
    c.chain_of-chain.ensures (omega arith) (λ x e. absurd (none-some x e))

pub returns : goal.returns
returns g c =
    let own = c.self.inside in
    let without = removed own.entries c.take_out.new.entries c.chain_of-chain.result c.args.number c.take_out.ensures
    (alone own.entries own.mask own.next c.args.number c.chain_of-chain.result c.self.invariant c.chain_of-chain.ensures) in
    same_numbers _ _ own.next _ _ without c.take_out.ensures.size.slots
    ∙ ap (λ (n : Numbers g.row.T.Denot). record n { values = remove n.values c.args.number }) c.self.view_is
