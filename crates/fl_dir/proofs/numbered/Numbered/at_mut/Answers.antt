use Rattle.std.proofs.Common.{◌≡◌, IsSome, Some, subst, refl, ap, sym, ◌∙◌, arith}
use Rattle.std.specs.FinMap.{get}
use Rattle.fl_arena.specs.Cursors.{with_item}
use Rattle.fl_dir.specs.Inside.Numbers.{Numbers, with_value}
use Rattle.fl_dir.proofs.Spread.{inserted}
use Rattle.fl_dir.proofs.Chained.{slot_there, own_item, left}
use Rattle.fl_dir.proofs.Numbers.{alone, get_at, below_next, altered_numbers, same_numbers}
use Rattle.fl_dir.proofs.numbered.Numbered.at_mut.Goals as goal

pub item_mut-entry-requires-clause-at_item : goal.item_mut-entry-requires-clause-at_item
item_mut-entry-requires-clause-at_item g c =
    let own = c.self.inside in
    slot_there own.entries c.seek-cursor.result c.chain_of.result c.args.number c.seek-cursor.ensures.at c.seek-cursor.ensures.found
    (subst IsSome (get_at own.entries own.mask own.next c.args.number c.chain_of.result c.self.invariant c.chain_of.ensures)
    (subst (λ (n : Numbers g.row.T.Denot). IsSome (get n.values c.args.number)) (sym c.self.view_is) c.requires))

pub invariant_of-self-lent : goal.invariant_of-self-lent
invariant_of-self-lent g c w =
    let own = c.self.inside in
    let k = c.args.number in
    let there = subst IsSome (get_at own.entries own.mask own.next k c.chain_of.result c.self.invariant c.chain_of.ensures)
    (subst (λ (n : Numbers g.row.T.Denot). IsSome (get n.values k)) (sym c.self.view_is) c.requires) in
    let new = left own.entries c.seek-cursor.result c.chain_of.result k c.item_mut-entry.result.now w c.seek-cursor.ensures.at c.seek-cursor.ensures.found
    there c.self.invariant.sorted c.item_mut-entry.ensures.item (c.item_mut-entry.ensures.size (k, w)) (c.item_mut-entry.ensures.items (k, w))
    (c.item_mut-entry.ensures.others (k, w)) in
    altered_numbers own.entries (with_item own.entries c.seek-cursor.result (c.item_mut-entry.result.now.0, w)) own.mask own.next own.next k c.chain_of.result
    (Some w) c.self.invariant new c.chain_of.ensures (omega arith)
    (λ x e. below_next own.entries own.mask own.next c.chain_of.result k c.self.invariant there)

pub returns : goal.returns
returns g c =
    let own = c.self.inside in
    let k = c.args.number in
    let apart = alone own.entries own.mask own.next k c.chain_of.result c.self.invariant c.chain_of.ensures in
    let at_k = get_at own.entries own.mask own.next k c.chain_of.result c.self.invariant c.chain_of.ensures in
    let there = subst IsSome at_k (subst (λ (n : Numbers g.row.T.Denot). IsSome (get n.values k)) (sym c.self.view_is) c.requires) in
    let new = λ (w : g.row.T.Denot). left own.entries c.seek-cursor.result c.chain_of.result k c.item_mut-entry.result.now w c.seek-cursor.ensures.at
    c.seek-cursor.ensures.found there c.self.invariant.sorted c.item_mut-entry.ensures.item (c.item_mut-entry.ensures.size (k, w))
    (c.item_mut-entry.ensures.items (k, w)) (c.item_mut-entry.ensures.others (k, w)) in
    let item = own_item own.entries c.seek-cursor.result c.chain_of.result k c.item_mut-entry.result.now c.seek-cursor.ensures.at c.seek-cursor.ensures.found
    there c.item_mut-entry.ensures.item in (
      (
        refl,
        λ w. same_numbers _ _ own.next _ _
            (inserted own.entries (with_item own.entries c.seek-cursor.result (c.item_mut-entry.result.now.0, w)) c.chain_of.result k w (new w) apart)
            (new w).size.slots
            ∙ ap (λ (n : Numbers g.row.T.Denot). with_value n k w) c.self.view_is,
      ),
      record {
        writes_back = tt;
        value = subst (λ (n : Numbers g.row.T.Denot). get n.values k ≡ Some c.item_mut-entry.result.now.1) c.self.view_is (at_k ∙ item.1);
      },
    )
