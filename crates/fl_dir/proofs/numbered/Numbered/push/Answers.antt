use Rattle.std.proofs.Common.{◌≡◌, ◌==◌, ◌+◌, ◌≤◌, ℕ, None, false, subst, ap, sym, ◌∙◌, arith}
use Rattle.std.specs.Int.Bits.{bit_and}
use Rattle.std.specs.FinMap.{insert, get}
use Rattle.fl_dir.specs.Inside.Numbers.{Numbers, is_full}
use Rattle.fl_dir.proofs.Spread.{inserted}
use Rattle.fl_dir.proofs.Numbers.{in_range, alone, get_at, none_next, room_left, altered_numbers, same_numbers}
use Rattle.fl_dir.proofs.numbered.Numbered.push.Goals as goal

pub push-requires-clause-chain : goal.push-requires-clause-chain
push-requires-clause-chain g c =
    let own = c.self.inside in in_range own.entries own.mask own.next own.next c.chain_of-chain.result c.self.invariant c.chain_of-chain.ensures

pub push-requires-clause-room : goal.push-requires-clause-room
push-requires-clause-room g c =
    let own = c.self.inside in
    room_left own.entries own.mask own.next (own.next == 18446744073709551615) c.self.invariant (subst (λ n. is_full n ≡ false) (sym c.self.view_is) c.requires)

pub push-requires-clause-sorted : goal.push-requires-clause-sorted
push-requires-clause-sorted g c = c.self.invariant.sorted

pub push-requires-clause-above : goal.push-requires-clause-above
push-requires-clause-above g c = let own = c.self.inside in none_next own.entries own.mask own.next c.self.invariant c.chain_of-chain.result

pub invariant_of-self : goal.invariant_of-self
invariant_of-self g c =
    let own = c.self.inside in
    altered_numbers own.entries c.push.new.entries own.mask own.next (own.next + 1) own.next c.chain_of-chain.result _ c.self.invariant c.push.ensures
    c.chain_of-chain.ensures (omega arith) (λ x e. omega arith)

pub returns-clause-above : goal.returns-clause-above
returns-clause-above g c =
    let own = c.self.inside in
    subst (λ (n : Numbers g.row.T.Denot). (q : ℕ) → n.next ≤ q → get n.values q ≡ None) c.self.view_is
    (λ q most. get_at own.entries own.mask own.next q _ c.self.invariant (λ i. bit_and q own.mask) ∙ none_next own.entries own.mask own.next c.self.invariant _ q most)

pub returns-clause-after : goal.returns-clause-after
returns-clause-after g c =
    let own = c.self.inside in
    let pushed = inserted own.entries c.push.new.entries c.chain_of-chain.result own.next c.args.value c.push.ensures
    (alone own.entries own.mask own.next own.next c.chain_of-chain.result c.self.invariant c.chain_of-chain.ensures) in
    same_numbers _ _ (own.next + 1) _ _ pushed c.push.ensures.size.slots
    ∙ ap (λ (n : Numbers g.row.T.Denot). record n { values = insert n.values n.next c.args.value; next = n.next + 1 }) c.self.view_is
