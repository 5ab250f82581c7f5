use Rattle.std.proofs.Common.{◌≡◌, ◌∙◌, ℕ, None, true, subst, ap, sym, arith}
use Rattle.std.specs.FinMap.{get}
use Rattle.fl_dir.specs.Inside.Numbers.{Numbers, has_place, with_value}
use Rattle.fl_dir.proofs.Spread.{inserted}
use Rattle.fl_dir.proofs.Numbers.{in_range, alone, get_at, altered_numbers, same_numbers, IsPlace, is_place, room_at}
use Rattle.fl_dir.proofs.numbered.Numbered.put.Goals as goal

own_place : {X : Type 0} (n m : Numbers X) (k : ℕ) → n ≡ m → has_place m k ≡ true → IsPlace n k
own_place n m k same place = is_place n k (subst (λ x. has_place x k ≡ true) (sym same) place)

pub put-requires-clause-chain : goal.put-requires-clause-chain
put-requires-clause-chain g c =
    let own = c.self.inside in in_range own.entries own.mask own.next c.args.number c.chain_of-chain.result c.self.invariant c.chain_of-chain.ensures

pub put-requires-clause-room : goal.put-requires-clause-room
put-requires-clause-room g c =
    let own = c.self.inside in
    room_at own.entries own.mask own.next c.self.invariant (own_place _ _ c.args.number c.self.view_is c.requires).room

pub put-requires-clause-sorted : goal.put-requires-clause-sorted
put-requires-clause-sorted g c = c.self.invariant.sorted

pub put-requires-clause-fresh : goal.put-requires-clause-fresh
put-requires-clause-fresh g c =
    let own = c.self.inside in
    sym (get_at own.entries own.mask own.next c.args.number c.chain_of-chain.result c.self.invariant c.chain_of-chain.ensures)
    ∙ (own_place _ _ c.args.number c.self.view_is c.requires).fresh

pub invariant_of-self : goal.invariant_of-self
invariant_of-self g c =
    let own = c.self.inside in
    altered_numbers own.entries c.put.new.entries own.mask own.next own.next c.args.number c.chain_of-chain.result _ c.self.invariant c.put.ensures
    c.chain_of-chain.ensures (omega arith) (λ x e. (own_place _ _ c.args.number c.self.view_is c.requires).below)

pub returns-clause-fresh : goal.returns-clause-fresh
returns-clause-fresh g c =
    subst (λ (n : Numbers g.row.T.Denot). get n.values c.args.number ≡ None) c.self.view_is
    (own_place _ _ c.args.number c.self.view_is c.requires).fresh

pub returns-clause-after : goal.returns-clause-after
returns-clause-after g c =
    let own = c.self.inside in
    let put = inserted own.entries c.put.new.entries c.chain_of-chain.result c.args.number c.args.value c.put.ensures
    (alone own.entries own.mask own.next c.args.number c.chain_of-chain.result c.self.invariant c.chain_of-chain.ensures) in
    same_numbers _ _ own.next _ _ put c.put.ensures.size.slots
    ∙ ap (λ (n : Numbers g.row.T.Denot). with_value n c.args.number c.args.value) c.self.view_is
