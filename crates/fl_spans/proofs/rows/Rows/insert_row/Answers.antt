use Rattle.std.proofs.Common.{◌≡◌, ◌∷◌, ℕ, MatchOption, Option, Some, None, set, slice_get, [], insert, sym, ap, ◌∙◌}
use Rattle.std.proofs.Common.{subst, refl, arith}
use Rattle.std.specs.Bool.{⊤}
use Rattle.fl_arena.specs.Chains.{items, slot_at}
use Rattle.fl_arena.specs.Cursors.{cursor_at, with_item, Shifts, IsInPlace}
use Rattle.fl_arena.specs.declared.cursors.Cursor.{Cursor}
use Rattle.fl_spans.specs.Rows.{limit_of, rows, row_lists, IsRow}
use Rattle.fl_spans.proofs.Reading.{free_told}
use Rattle.fl_spans.proofs.Calls.{spare_in_place, none_held_yet, named_well, index_still, row_kept_in, rows_kept_in}
use Rattle.fl_spans.proofs.Calls.{head_left, has_room, stands_inserted}
use Rattle.fl_spans.proofs.rows.Rows.insert_row.Goals as goal
use Rattle.fl_spans.proofs.rows.Rows.insert_row.Goals.{In-Some, After-self, After-set, After-insert}

pub returns-then-free-eq0-clause-full : goal.returns-then-free-eq0-clause-full
returns-then-free-eq0-clause-full g c =
    let told = free_told _ _ _ c.self.view_is _ _ c.self.invariant c.free.ensures.total in
    (λ _. omega (arith, told, c.if-free-eq0.true), λ _. refl)

pub returns-clause-full : goal.returns-clause-full
returns-clause-full g c =
    let told = free_told _ _ _ c.self.view_is _ _ c.self.invariant c.free.ensures.total in
    (λ clash. absurd (cc clash), λ all. absurd (c.if-free-eq0.false (omega (arith, told, all))))

pub unreachable-requires : goal.unreachable-requires
unreachable-requires g c =
    c.if-free-eq0.false (head_left _ _ _ c.self.invariant c.free.result
    (sym (c.get.ensures.at_index c.self.inside.unused 0 c.cursor-spare.ensures.first) ∙ c.in_default.is) c.free.ensures.total)

-- the first unused head
first : (g : _) (c : In-Some g) → slice_get (items c.self.inside.heads c.self.inside.unused) 0 ≡ Some c.in-Some.head
first g c = sym (c.get.ensures.at_index c.self.inside.unused 0 c.cursor-spare.ensures.first) ∙ c.in-Some.is

pub cursor-first-requires : goal.cursor-first-requires
cursor-first-requires g c =
    let well = named_well _ _ _ c.in-Some.head c.self.invariant (first g (goal.at.cursor-first-requires g c).In-Some) in
    rw c.from.ensures well

pub insert-requires-clause-chain : goal.insert-requires-clause-chain
insert-requires-clause-chain g c =
    let well = named_well _ _ _ c.in-Some.head c.self.invariant (first g (goal.at.insert-requires-clause-chain g c).In-Some) in
    rw c.cursor-first.ensures.first (rw c.from.ensures well)

-- its key is set
keyed : (g : _) (c : After-set g) → c.set.new.self
    ≡ with_item c.self.inside.heads (cursor_at c.self.inside.heads c.self.inside.unused 0) (record { key = c.args.key; runs = c.in-Some.head.runs })
keyed g c =
    c.set.ensures.chains
    ∙ ap (λ (x : Cursor). with_item c.self.inside.heads x (record { key = c.args.key; runs = c.in-Some.head.runs })) c.cursor-spare.ensures.first

-- the row's cursor, in what is kept
stands : (g : _) (c : After-self g) → IsRow (record { heads = c.self.inside.heads; runs = c.self.inside.runs }) c.args.row.now
stands g c = subst (λ w. IsRow w c.args.row.now) (sym c.self.view_is) c.requires

pub shift-requires-clause-from : goal.shift-requires-clause-from
shift-requires-clause-from g c =
    let at = goal.at.shift-requires-clause-from g c in
    let still = spare_in_place _ _ c.self.inside.runs _ c.args.row.now _ c.args.key c.self.invariant (first g at.In-Some) (keyed g at.After-set)
    (stands g at.After-self) in
    subst (λ (x : Cursor). IsInPlace c.set.new.self x) (sym c.cursor-spare.ensures.first) (each (slot_at c.self.inside.heads c.self.inside.unused 0) still)
  where
    each : (o : Option ℕ) {P : ℕ → Type 0} → ((slot : ℕ) → o ≡ Some slot → P slot) → MatchOption o ⊤ P
    each None named = tt
    each (Some slot) named = named slot refl

-- the chain of its runs has the one that was put in
chain : (g : _) (c : After-insert g) → c.cursor-first.result ≡ cursor_at c.self.inside.runs c.in-Some.head.runs 0
chain g c = c.cursor-first.ensures.first ∙ ap (λ k. cursor_at c.self.inside.runs k 0) c.from.ensures

pub invariant_of-self : goal.invariant_of-self
invariant_of-self g c =
    let at = goal.at.invariant_of-self g c in
    let here = chain g at.After-insert in
    let s = subst (λ (x : Cursor). Shifts c.set.new.self c.shift.new.self x c.args.row.now) c.cursor-spare.ensures.first c.shift.ensures.chains in
    let put = c.in-Ok.ensures.at_index c.in-Some.head.runs 0 here
    ∙ ap (λ xs. insert xs 0 c.args.run) (none_held_yet _ _ _ c.in-Some.head c.self.invariant (first g at.In-Some)) in
    row_kept_in _ _ c.self.inside.runs _ c.args.row.now _ c.args.key c.self.invariant (first g at.In-Some) (keyed g at.After-set)
    (stands g at.After-self) _ _ c.args.run s c.insert.ensures.size
    (λ d apart. c.insert.ensures.others d (λ e. apart (e ∙ ap (λ (x : Cursor). x.chain) here))) put

pub returns-clause-rows : goal.returns-clause-rows
returns-clause-rows g c =
    let at = goal.at.returns-clause-rows g c in
    let here = chain g at.After-insert in
    let s = subst (λ (x : Cursor). Shifts c.set.new.self c.shift.new.self x c.args.row.now) c.cursor-spare.ensures.first c.shift.ensures.chains in
    let put = c.in-Ok.ensures.at_index c.in-Some.head.runs 0 here
    ∙ ap (λ xs. insert xs 0 c.args.run) (none_held_yet _ _ _ c.in-Some.head c.self.invariant (first g at.In-Some)) in
    rows_kept_in _ _ c.self.inside.runs _ c.args.row.now _ c.args.key c.self.invariant (first g at.In-Some) (keyed g at.After-set)
    (stands g at.After-self) _ _ c.args.run s c.insert.ensures.size
    (λ d apart. c.insert.ensures.others d (λ e. apart (e ∙ ap (λ (x : Cursor). x.chain) here))) put
    ∙ ap (λ w. set (row_lists w) c.args.row.now.chain
    (insert (rows w c.args.row.now.chain) c.args.row.now.index (record { key = c.args.key; runs = c.args.run ∷ [] }))) c.self.view_is

pub returns-clause-cursor : goal.returns-clause-cursor
returns-clause-cursor g c =
    let at = goal.at.returns-clause-cursor g c in
    c.shift.ensures.to_cursor
    ∙ ap (cursor_at c.shift.new.self c.args.row.now.chain) (index_still _ _ c.self.inside.runs _ c.args.row.now _ c.args.key c.self.invariant
    (first g at.In-Some) (keyed g at.After-set) (stands g at.After-self))

pub returns-clause-size : goal.returns-clause-size
returns-clause-size g c = has_room _ _ _ _ (returns-clause-rows g c) (c.insert.ensures.size.slots ∙ ap limit_of c.self.view_is)

pub returns-clause-row : goal.returns-clause-row
returns-clause-row g c = stands_inserted _ _ c.args.row.now _ _ c.requires (returns-clause-rows g c) (returns-clause-cursor g c)
