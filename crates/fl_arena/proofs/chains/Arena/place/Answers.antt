use Rattle.std.proofs.Common.{◌≡◌, ℕ, ◌<◌, Some, length, sym, subst, refl, arith, ◌∙◌}
use Rattle.std.proofs.lemmas.Option.{slice_get_read}
use Rattle.fl_arena.specs.Chains.{slot_at}
use Rattle.fl_arena.proofs.HeldLemmas.{on_chain, on_none}
use Rattle.fl_arena.proofs.PlaceLemmas.{place_free, place_on}
use Rattle.fl_arena.proofs.CallLemmas.{spells_value}
use Rattle.fl_arena.proofs.chains.Arena.place.Goals as goal

pub index_on-requires : goal.index_on-requires
index_on-requires g c =
    let spells = spells_value _ _ _ _ _ c.self.invariant c.self.view_is in
    let within : c.args.slot < length c.self.inside.nodes.items = let slots = spells.slots in omega arith in
    let taken = on_chain c.index.result.now c.in-Some.chain (sym c.chain.ensures ∙ c.in-Some.is) in
    let read = slice_get_read c.self.inside.nodes.items _ c.args.slot c.index.result.now refl within c.index.ensures in
    let on = spells.owned c.args.slot taken.0 (rw taken.1 at read) in
    let same : c.from-chain.result ≡ taken.0.chain = c.from-chain.ensures ∙ sym taken.2 in
    subst (λ (d : ℕ). (i : ℕ) × (slot_at c.args.self.now d i ≡ Some c.args.slot)) (sym same) (on.index, on.found)

pub returns-in-None-clause-on : goal.returns-in-None-clause-on
returns-in-None-clause-on g c =
    let spells = spells_value _ _ _ _ _ c.self.invariant c.self.view_is in
    let within : c.args.slot < length c.self.inside.nodes.items = let slots = spells.slots in omega arith in
    let free = on_none c.index.result.now (sym c.chain.ensures ∙ c.in-None.is) in
    let read = slice_get_read c.self.inside.nodes.items _ c.args.slot c.index.result.now refl within c.index.ensures in
    place_free _ _ _ _ _ spells c.args.slot free.0 (rw free.1 at read)

pub returns-in-Some-clause-on : goal.returns-in-Some-clause-on
returns-in-Some-clause-on g c =
    let spells = spells_value _ _ _ _ _ c.self.invariant c.self.view_is in
    place_on _ _ _ _ _ spells c.args.slot c.from-chain.result c.index_on.result c.index_on.ensures
