use Rattle.std.proofs.Common.{rules, ◌==◌, ◌∙◌, ℕ, slice_get, ap, sym}
use Rattle.std.proofs.lemmas.List.Folds.{find_at}
use Rattle.fl_arena.specs.Chains.{items}
use Rattle.fl_arena.specs.Cursors.{cursor_at}
use Rattle.fl_arena.specs.declared.cursors.Cursor.{Cursor}
use Rattle.fl_dir.proofs.chain.seek.Goals as goal

pub returns-clause-at : goal.returns-clause-at
returns-clause-at g c =
    let first = c.first_where.ensures.first (λ (e : ℕ × g.row.T.Denot). e.0 == c.args.number) (λ a r k. search rules) in
    first ∙ ap (cursor_at c.args.entries.now c.args.chain) (sym (ap (λ (k : Cursor). k.index) first))

pub returns-clause-found : goal.returns-clause-found
returns-clause-found g c =
    let test = λ (e : ℕ × g.row.T.Denot). e.0 == c.args.number in
    let first = c.first_where.ensures.first test (λ a r k. search rules) in
    ap (λ (k : Cursor). slice_get (items c.args.entries.now c.args.chain) k.index) first ∙ sym (find_at test (items c.args.entries.now c.args.chain))
