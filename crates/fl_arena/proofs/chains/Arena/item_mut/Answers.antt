use Rattle.std.proofs.Common.{IsSome, ◌<◌, length, sym, subst, ◌∙◌, set, unwrap_or, refl, arith}
use Rattle.std.proofs.lemmas.Option.{slice_get_within}
use Rattle.fl_arena.specs.Chains.{entries}
use Rattle.fl_arena.specs.Inside.Links.{item_in}
use Rattle.fl_arena.proofs.ChainLaws.{HasSizeOf-with, items-set, entries-with_other}
use Rattle.fl_arena.proofs.PlaceLemmas.{linked_at}
use Rattle.fl_arena.proofs.CursorLemmas.{is_at, slot_there}
use Rattle.fl_arena.proofs.WalkLemmas.{spelled_is}
use Rattle.fl_arena.proofs.CallLemmas.{spells_value, spells_own, node_read, left}
use Rattle.fl_arena.proofs.CountLemmas.{linked_once}
use Rattle.fl_arena.proofs.chains.Arena.item_mut.Goals as goal

pub index_mut-requires : goal.index_mut-requires
index_mut-requires g c =
    let spells = spells_value _ _ _ _ _ c.self.invariant c.self.view_is in
    let there = linked_at _ _ _ _ _ spells _ _ _ (slot_there c.args.self.now c.args.cursor.now _ c.in-Some.is c.requires.in_place) in
    let within : c.in-Some.slot < length c.self.inside.nodes.items = slice_get_within _ _ _ there.linked in
    omega (arith, within, c.from.ensures, c.self.inside.nodes.ok.0)

pub item_mut-requires : goal.item_mut-requires
item_mut-requires g c =
    let spells = spells_value _ _ _ _ _ c.self.invariant c.self.view_is in
    let node = node_read _ _ _ _ _ c.args.cursor.now c.in-Some.slot c.from.result c.index_mut.result.now spells c.requires.in_place c.in-Some.is c.from.ensures
    c.index_mut.ensures.value in
    subst (λ x. IsSome (item_in x)) (sym node.is) refl

pub invariant_of-self-lent : goal.invariant_of-self-lent
invariant_of-self-lent g c w =
    let spells = spells_value _ _ _ _ _ c.self.invariant c.self.view_is in
    spells_own _ _ _ _ _ (left _ _ _ _ _ c.args.cursor.now c.in-Some.slot c.from.result c.index_mut.result.now w spells c.requires.in_place c.in-Some.is
    c.from.ensures c.index_mut.ensures.value)

pub returns : goal.returns
returns g c =
    let a = c.args.self.now in
    let cursor = c.args.cursor.now in
    let spells = spells_value _ _ _ _ _ c.self.invariant c.self.view_is in
    let node = node_read _ _ _ _ _ cursor c.in-Some.slot c.from.result c.index_mut.result.now spells c.requires.in_place c.in-Some.is c.from.ensures
    c.index_mut.ensures.value in
    let there = slot_there a cursor _ c.in-Some.is c.requires.in_place in
    let place = is_at _ _ _ _ _ spells _ _ _ node.member there node.there in
    let after = λ (w : g.row.T.Denot). left _ _ _ _ _ cursor c.in-Some.slot c.from.result c.index_mut.result.now w spells c.requires.in_place c.in-Some.is c.from.ensures
    c.index_mut.ensures.value in (
      (refl, λ w. spelled_is _ _ _ _ _ (after w)),
      record {
        writes_back = tt;
        item = node.item ∙ c.item_mut.ensures.item;
        items = λ w. items-set a cursor.chain cursor.index (record { slot = unwrap_or cursor.slot 0; item = w }) place.in_chains;
        others = λ w d apart. entries-with_other a cursor.chain d (set (entries a cursor.chain) cursor.index (record { slot = unwrap_or cursor.slot 0; item = w })) apart;
        size = λ w. HasSizeOf-with a _ cursor.chain _ refl;
        linked = λ w. linked_once _ _ _ _ _ (after w);
      },
    )
