use Rattle.std.proofs.Common.{◌≡◌, ℕ, ◌+◌, drop, ap, ◌∙◌, arith}
use Rattle.std.specs.List.{find, position_or_len}
use Rattle.fl_arena.specs.Chains.{items}
use Rattle.fl_arena.specs.Cursors.{cursor_at}
use Rattle.fl_arena.specs.declared.cursors.Cursor.{Cursor}
use Rattle.fl_arena.proofs.chains.Arena.first_where.Goals as goal

none_before : (n : ℕ) → 0 + n ≡ n
none_before n = omega arith

pub returns-clause-first : goal.returns-clause-first
returns-clause-first g c p tests =
    c.next_where.ensures.first p tests
    ∙ ap (λ (k : Cursor). cursor_at c.args.self.now k.chain (k.index + position_or_len p (drop k.index (items c.args.self.now k.chain)))) c.cursor.ensures.first
    ∙ ap (cursor_at c.args.self.now c.args.chain) (none_before (position_or_len p (items c.args.self.now c.args.chain)))

pub returns-clause-found : goal.returns-clause-found
returns-clause-found g c p tests =
    c.next_where.ensures.found p tests
    ∙ ap (λ (k : Cursor). find p (drop k.index (items c.args.self.now k.chain))) c.cursor.ensures.first
