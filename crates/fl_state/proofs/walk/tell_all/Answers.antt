use Rattle.std.proofs.Common.{◌∙◌, ◌+◌, ◌++◌, [], List, sym, refl, ap, map, arith}
use Rattle.fl_arena.specs.Chains.{Entry, entries}
use Rattle.fl_order.specs.declared.state_part.StatePart.{StatePart}
use Rattle.fl_state.proofs.Walks.{some_more, some_done, map_flat, drop_at, drop_all}
use Rattle.fl_state.proofs.walk.tell_all.Goals as goal

pub loop-chain-preserved : goal.loop-chain-preserved
loop-chain-preserved g c =
    let a = c.args.arena.now in
    let k = c.loop-chain.chain in
    let said : List (Entry g.row.T.Denot) → List StatePart = λ es. map g.T.Says.said (map (λ e. e.item) es) in
    record {
      kept = c.tell_chain.ensures.kept ∙ c.loop-chain.invariant.kept;
      rest = some_more said a.chains k (k + 1) (entries a k) (g.S.StateSink.told c.loop-chain.sink) (g.S.StateSink.told c.tell_chain.new.sink)
          (drop_at a.chains k [] (omega (arith, c.loop-chain-test.true, c.requires))) refl (c.tell_chain.ensures.told c.if-not-tell_chain.false)
          ∙ c.loop-chain.invariant.rest;
    }

pub returns-clause-told : goal.returns-clause-told
returns-clause-told g c _ =
    let a = c.args.arena.now in
    let k = c.loop-chain.chain in
    let items : List (Entry g.row.T.Denot) → List g.row.T.Denot = λ es. map (λ e. e.item) es in
    some_done (λ es. map g.T.Says.said (items es)) a.chains k _ _ (drop_all a.chains k (omega (arith, c.loop-chain-test.false, c.requires))) c.loop-chain.invariant.rest
    ∙ ap (λ l. g.S.StateSink.told c.args.sink.now ++ l) (sym (map_flat g.T.Says.said items a.chains))
