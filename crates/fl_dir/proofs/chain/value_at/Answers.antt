use Rattle.std.proofs.Common.{◌∙◌, ℕ, option_map, sym, ap}
use Rattle.std.specs.Option.{option_copied}
use Rattle.fl_arena.specs.Chains.{items}
use Rattle.fl_dir.proofs.Entries.{found}
use Rattle.fl_dir.proofs.chain.value_at.Goals as goal

pub returns-in-None : goal.returns-in-None
returns-in-None g c =
    let there = ap (option_map (λ (e : ℕ × g.row.T.Denot). e.1)) (c.item.ensures.at_index c.args.chain c.seek.result.index c.seek.ensures.at ∙ c.seek.ensures.found)
    ∙ sym (found (items c.args.entries.now c.args.chain) c.args.number) in
    sym (ap (λ o. option_map (λ (e : ℕ × g.row.T.Denot). e.1) (option_copied o)) c.in-None.is) ∙ there

pub returns-in-Some : goal.returns-in-Some
returns-in-Some g c =
    let there = ap (option_map (λ (e : ℕ × g.row.T.Denot). e.1)) (c.item.ensures.at_index c.args.chain c.seek.result.index c.seek.ensures.at ∙ c.seek.ensures.found)
    ∙ sym (found (items c.args.entries.now c.args.chain) c.args.number) in
    sym (ap (λ o. option_map (λ (e : ℕ × g.row.T.Denot). e.1) (option_copied o)) c.in-Some.is) ∙ there
