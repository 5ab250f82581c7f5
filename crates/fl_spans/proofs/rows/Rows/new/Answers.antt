use Rattle.std.proofs.Common.{◌+◌, List, [], length, ap, ◌∙◌, arith}
use Rattle.std.proofs.lemmas.List.{length-replicate}
use Rattle.fl_arena.specs.Chains.{Chains, Entry, entries, item_count}
use Rattle.fl_spans.specs.declared.rows.Head.{Head}
use Rattle.fl_spans.proofs.Loops.{made_empty, made_none}
use Rattle.fl_spans.proofs.Made.{made, made_rows}
use Rattle.fl_spans.proofs.rows.Rows.new.Goals as goal

pub invariant_of-result : goal.invariant_of-result
invariant_of-result g c =
    made c.in_ok-heads.heads _ _ _ _ c.requires.chains c.requires.limit c.in_ok-heads.ensures.empty c.in_ok-runs.ensures.empty c.add_heads.ensures.size
    c.add_heads.ensures.others c.add_heads.ensures.count c.add_heads.ensures.once c.add_heads.ensures.named

pub returns-clause-rows : goal.returns-clause-rows
returns-clause-rows g c =
    made_rows c.in_ok-heads.heads _ _ _ _ c.requires.chains c.requires.limit c.in_ok-heads.ensures.empty c.in_ok-runs.ensures.empty c.add_heads.ensures.size
    c.add_heads.ensures.others

pub new-requires-clause-chains : goal.new-requires-clause-chains
new-requires-clause-chains g c = omega (arith, c.requires.chains)

pub add_heads-requires-clause-chain : goal.add_heads-requires-clause-chain
add_heads-requires-clause-chain g c =
    omega (arith, ap (λ (a : Chains (Head g.row.K.Denot)). length a.chains) c.in_ok-heads.ensures.empty, length-replicate {A = List (Entry (Head g.row.K.Denot))} (c.args.chains + 1) [])

pub add_heads-requires-clause-slots : goal.add_heads-requires-clause-slots
add_heads-requires-clause-slots g c = ap (λ (a : Chains (Head g.row.K.Denot)). a.slots) c.in_ok-heads.ensures.empty

pub add_heads-requires-clause-empty : goal.add_heads-requires-clause-empty
add_heads-requires-clause-empty g c k = ap (λ (a : Chains (Head g.row.K.Denot)). entries a k) c.in_ok-heads.ensures.empty ∙ made_empty (c.args.chains + 1) k

pub add_heads-requires-clause-none : goal.add_heads-requires-clause-none
add_heads-requires-clause-none g c = ap item_count c.in_ok-heads.ensures.empty ∙ made_none _ (c.args.chains + 1)

pub returns-clause-limit : goal.returns-clause-limit
returns-clause-limit g c = ap (λ (a : Chains g.row.R.Denot). a.slots) c.in_ok-runs.ensures.empty
