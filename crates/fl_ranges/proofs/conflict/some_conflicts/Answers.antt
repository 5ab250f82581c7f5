use Rattle.std.proofs.Common.{◌≡◌, ◌+◌, ◌||◌, true, false, Some, None, is_some, drop, slice_get, sym, ap, ◌∙◌}
use Rattle.std.specs.List.{find, list_any}
use Rattle.fl_arena.specs.declared.cursors.Cursor.{Cursor}
use Rattle.fl_spans.specs.Rows.{chain_count, rows, keys, runs_at}
use Rattle.fl_ranges.specs.Placing.{home}
use Rattle.fl_ranges.specs.Inside.RunList.{run_conflicts}
use Rattle.fl_ranges.specs.Layout.{runs_in}
use Rattle.fl_ranges.specs.Inside.Contenders.{class_rows, kin_owner, span_conflicts}
use Rattle.fl_ranges.proofs.ContenderRows.{kin_spans}
use Rattle.fl_ranges.proofs.ContenderConflicts.{any_class, any_next, any_end}
use Rattle.fl_ranges.proofs.conflict.some_conflicts.Goals as goal

pub loop-owner-init : goal.loop-owner-init
loop-owner-init c =
    let key = c.args.key.now in
    let range = c.args.range.now in
    let first = c.first_of_class-row.ensures in
    record {
      row = first.row;
      chain = first.chain;
      rest = any_class key range.start range.end c.args.kind c.args.table.now c.requires.kept
          ∙ ap (λ rs. list_any (run_conflicts key range.start range.end c.args.kind) (runs_in (class_rows key rs))) (sym first.first);
    }

pub conflicting_span-requires-clause-spans : goal.conflicting_span-requires-clause-spans
conflicting_span-requires-clause-spans c =
    let rs = rows c.args.table.now c.loop-owner.row.chain in
    let are = c.requires.kept c.loop-owner.row.chain in
    kin_spans c.args.key.now rs c.loop-owner.row.index c.in-Some.owner (sym c.in-Some.ensures.owner) are.spans

pub returns-then-is_some : goal.returns-then-is_some
returns-then-is_some c =
    let v = c.args.table.now in
    let key = c.args.key.now in
    let range = c.args.range.now in
    let inv = c.loop-owner.invariant in
    let i = c.loop-owner.row.index in
    let found : kin_owner key (slice_get (keys (rows v (home (chain_count v) key.node))) i) ≡ Some c.in-Some.owner =
    ap (λ d. kin_owner key (slice_get (keys (rows v d)) i)) (sym inv.chain) ∙ sym c.in-Some.ensures.owner in
    let some : is_some (find (span_conflicts key c.in-Some.owner range.start range.end c.args.kind) (runs_at (rows v (home (chain_count v) key.node)) i)) ≡ true =
    ap (λ d. is_some (find (span_conflicts key c.in-Some.owner range.start range.end c.args.kind) (runs_at (rows v d) i))) (sym inv.chain)
    ∙ ap is_some (sym c.conflicting_span.ensures) ∙ sym c.is_some.ensures ∙ c.if-is_some.true in
    sym (inv.rest ∙ any_next key range.start range.end c.args.kind (rows v (home (chain_count v) key.node)) i c.in-Some.owner found
    ∙ ap (λ b. b || list_any (run_conflicts key range.start range.end c.args.kind) (runs_in (class_rows key (drop (i + 1) (rows v (home (chain_count v) key.node)))))) some)

pub loop-owner-preserved : goal.loop-owner-preserved
loop-owner-preserved c =
    let v = c.args.table.now in
    let key = c.args.key.now in
    let range = c.args.range.now in
    let inv = c.loop-owner.invariant in
    let i = c.loop-owner.row.index in
    let on = c.next_row.ensures.next in
    let found : kin_owner key (slice_get (keys (rows v (home (chain_count v) key.node))) i) ≡ Some c.in-Some.owner =
    ap (λ d. kin_owner key (slice_get (keys (rows v d)) i)) (sym inv.chain) ∙ sym c.in-Some.ensures.owner in
    let none : is_some (find (span_conflicts key c.in-Some.owner range.start range.end c.args.kind) (runs_at (rows v (home (chain_count v) key.node)) i)) ≡ false =
    ap (λ d. is_some (find (span_conflicts key c.in-Some.owner range.start range.end c.args.kind) (runs_at (rows v d) i))) (sym inv.chain)
    ∙ ap is_some (sym c.conflicting_span.ensures) ∙ sym c.is_some.ensures ∙ c.if-is_some.false in
    record {
      row = c.next_row.ensures.row;
      chain = ap (λ (k : Cursor). k.chain) on ∙ inv.chain;
      rest = rw (ap (λ (k : Cursor). k.index) on) (inv.rest
          ∙ any_next key range.start range.end c.args.kind (rows v (home (chain_count v) key.node)) i c.in-Some.owner found
          ∙ ap (λ b. b || list_any (run_conflicts key range.start range.end c.args.kind) (runs_in (class_rows key (drop (i + 1) (rows v
          (home (chain_count v) key.node)))))) none);
    }

pub returns : goal.returns
returns c =
    let v = c.args.table.now in
    let key = c.args.key.now in
    let range = c.args.range.now in
    let inv = c.loop-owner.invariant in
    let i = c.loop-owner.row.index in
    let none : kin_owner key (slice_get (keys (rows v (home (chain_count v) key.node))) i) ≡ None =
    ap (λ d. kin_owner key (slice_get (keys (rows v d)) i)) (sym inv.chain) ∙ sym c.owner_at.ensures.owner ∙ c.in_default.is in
    sym (inv.rest ∙ any_end key range.start range.end c.args.kind (rows v (home (chain_count v) key.node)) i none)
