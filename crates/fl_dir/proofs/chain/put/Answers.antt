use Rattle.std.proofs.Common.{rules, ◌∙◌, ℕ, nat_lt}
use Rattle.std.specs.List.{position_or_len}
use Rattle.fl_arena.specs.Chains.{items}
use Rattle.fl_dir.proofs.Chained.{put_in_place}
use Rattle.fl_dir.proofs.chain.put.Goals as goal

pub returns : goal.returns
returns g c =
    let a = c.args.entries.now in
    let test = λ (e : ℕ × g.row.T.Denot). nat_lt c.args.number e.0 in
    let first = c.first_where-place.ensures.first test (λ a r k. search rules) in
    put_in_place a c.insert.new.self c.args.chain c.args.number c.args.value c.requires.sorted c.requires.fresh c.insert.ensures.size
    (c.in-Ok.ensures.at_index c.args.chain (position_or_len test (items a c.args.chain)) first)
    (λ d apart. c.insert.ensures.others d (λ e. apart (e ∙ c.first_where-place.ensures.chain)))
