use Rattle.std.proofs.Common.{◌≡◌, ◌+◌, ◌++◌, suc, take, drop, sym, ap, ◌∙◌, arith}
use Rattle.std.specs.List.{remove}
use Rattle.fl_arena.specs.Chains.{items, item_count}
use Rattle.fl_arena.specs.Cursors.{cursor_at}
use Rattle.fl_arena.specs.declared.cursors.Cursor.{Cursor}
use Rattle.fl_spans.proofs.Loops.{taken_more}
use Rattle.fl_spans.proofs.Calls.{fewer}
use Rattle.fl_spans.proofs.changes.take_out.Goals as goal

pub loop-taken-preserved : goal.loop-taken-preserved
loop-taken-preserved g c =
    let inv = c.loop-taken.invariant in
    let chain : c.loop-taken.from.chain ≡ c.args.from.now.chain = ap (λ (x : Cursor). x.chain) inv.at in
    let index : c.loop-taken.from.index ≡ c.args.from.now.index = ap (λ (x : Cursor). x.index) inv.at in
    let xs = items c.args.runs.now c.args.from.now.chain in
    let i = c.args.from.now.index in
    let next : suc (i + c.loop-taken.taken) ≡ i + (c.loop-taken.taken + 1) = omega arith in
    record {
      at = c.remove.ensures.cursor ∙ (λ t. cursor_at c.remove.new.self (chain t) (index t));
      upto = omega (arith, c.loop-taken-test.true);
      left =
          ap (items c.remove.new.self) (sym chain)
          ∙ c.remove.ensures.items
          ∙ (λ t. remove (items c.loop-taken.runs (chain t)) (index t))
          ∙ ap (λ l. remove l i) inv.left
          ∙ taken_more xs i (i + c.loop-taken.taken) (omega arith)
          ∙ ap (λ k. take i xs ++ drop k xs) next;
      others = λ d apart. c.remove.ensures.others d (λ e. apart (e ∙ chain)) ∙ inv.others d apart;
      size = record {
        chains = c.remove.ensures.size.chains ∙ inv.size.chains;
        slots = c.remove.ensures.size.slots ∙ inv.size.slots;
      };
    }

pub returns-clause-fewer : goal.returns-clause-fewer
returns-clause-fewer g c =
    let inv = c.loop-taken.invariant in
    let all : c.loop-taken.taken ≡ c.args.count = omega (arith, inv.upto, c.loop-taken-test.false) in
    ap (λ k. item_count c.loop-taken.runs + k) (sym all)
    ∙ fewer c.args.runs.now c.loop-taken.runs c.args.from.now.chain c.args.from.now.index c.loop-taken.taken c.requires.chain inv.size inv.others inv.left
    (omega (arith, all, c.requires.there))
