use Rattle.std.proofs.Common.{◌≡◌, ◌+◌, true, false, Some, None, is_some, drop, slice_get, sym, ap, ◌∙◌}
use Rattle.std.specs.List.{find}
use Rattle.fl_arena.specs.declared.cursors.Cursor.{Cursor}
use Rattle.fl_spans.specs.Rows.{chain_count, rows, keys, runs_at}
use Rattle.fl_ranges.specs.Placing.{home}
use Rattle.fl_ranges.specs.Layout.{runs_in}
use Rattle.fl_ranges.specs.Inside.Owners.{least_from}
use Rattle.fl_ranges.specs.Inside.Contenders.{class_rows, kin_owner, span_conflicts}
use Rattle.fl_ranges.proofs.ContenderRows.{kin_spans}
use Rattle.fl_ranges.proofs.ContenderOwners.{least_class, least_before, least_next, least_here, least_none}
use Rattle.fl_ranges.proofs.owners.least_after.Goals as goal
use Rattle.fl_ranges.proofs.owners.least_after.Goals.{else-is_after-via-then-is_after+else-is_some}
use Rattle.fl_ranges.proofs.owners.least_after.Goals.{else-is_after-via-else-is_after}

pub loop-owner-init : goal.loop-owner-init
loop-owner-init c =
    let key = c.args.key.now in
    let range = c.args.range.now in
    let first = c.first_of_class-row.ensures in
    record {
      row = first.row;
      chain = first.chain;
      rest = least_class key range.start range.end c.args.kind c.args.after c.args.table.now c.requires.kept
          ∙ ap (λ rs. least_from key range.start range.end c.args.kind c.args.after None (runs_in (class_rows key rs))) (sym first.first);
    }

pub conflicting_span-requires-clause-spans : goal.conflicting_span-requires-clause-spans
conflicting_span-requires-clause-spans c =
    let rs = rows c.args.table.now c.loop-owner.row.chain in
    let are = c.requires.kept c.loop-owner.row.chain in
    kin_spans c.args.key.now rs c.loop-owner.row.index c.in-Some.owner (sym c.in-Some.ensures.owner) are.spans

pub returns-then-is_some : goal.returns-then-is_some
returns-then-is_some c =
    let v = c.args.table.now in
    let key = c.args.key.now in
    let range = c.args.range.now in
    let inv = c.loop-owner.invariant in
    let i = c.loop-owner.row.index in
    let found : kin_owner key (slice_get (keys (rows v (home (chain_count v) key.node))) i) ≡ Some c.in-Some.owner =
    ap (λ d. kin_owner key (slice_get (keys (rows v d)) i)) (sym inv.chain) ∙ sym c.in-Some.ensures.owner in
    let some : is_some (find (span_conflicts key c.in-Some.owner range.start range.end c.args.kind) (runs_at (rows v (home (chain_count v) key.node)) i)) ≡ true =
    ap (λ d. is_some (find (span_conflicts key c.in-Some.owner range.start range.end c.args.kind) (runs_at (rows v d) i))) (sym inv.chain)
    ∙ ap is_some (sym c.conflicting_span.ensures) ∙ sym c.is_some.ensures ∙ c.if-is_some.true in
    let are = c.requires.kept (home (chain_count v) key.node) in
    sym (inv.rest ∙ least_here key range.start range.end c.args.kind c.args.after (rows v (home (chain_count v) key.node)) i c.in-Some.owner found are.in_order
    (sym c.is_after.ensures ∙ c.if-is_after.true) some)

pub loop-owner-preserved : goal.loop-owner-preserved
loop-owner-preserved c =
    let v = c.args.table.now in
    let key = c.args.key.now in
    let range = c.args.range.now in
    let inv = c.loop-owner.invariant in
    let i = c.loop-owner.row.index in
    let on = c.next_row.ensures.next in
    let found : kin_owner key (slice_get (keys (rows v (home (chain_count v) key.node))) i) ≡ Some c.in-Some.owner =
    ap (λ d. kin_owner key (slice_get (keys (rows v d)) i)) (sym inv.chain) ∙ sym c.in-Some.ensures.owner in
    let next : least_from key range.start range.end c.args.kind c.args.after None (runs_in (class_rows key (drop i (rows v (home (chain_count v) key.node)))))
    ≡ least_from key range.start range.end c.args.kind c.args.after None (runs_in (class_rows key (drop (i + 1) (rows v (home (chain_count v) key.node))))) =
    elim c.else-is_after.branch [
      | else-is_after-via-then-is_after+else-is_some w ↦
          let none : is_some (find (span_conflicts key c.in-Some.owner range.start range.end c.args.kind) (runs_at (rows v (home (chain_count v) key.node)) i)) ≡ false =
          ap (λ d. is_some (find (span_conflicts key c.in-Some.owner range.start range.end c.args.kind) (runs_at (rows v d) i))) (sym inv.chain)
          ∙ ap is_some (sym w.conflicting_span.ensures) ∙ sym w.is_some.ensures ∙ w.if-is_some.false in
          least_next key range.start range.end c.args.kind c.args.after (rows v (home (chain_count v) key.node)) i c.in-Some.owner found none
      | else-is_after-via-else-is_after w ↦
          least_before key range.start range.end c.args.kind c.args.after (rows v (home (chain_count v) key.node)) i c.in-Some.owner found
          (sym c.is_after.ensures ∙ w.if-is_after.false)
    ] in
    record {
      row = c.next_row.ensures.row;
      chain = ap (λ (k : Cursor). k.chain) on ∙ inv.chain;
      rest = rw (ap (λ (k : Cursor). k.index) on) (inv.rest ∙ next);
    }

pub returns : goal.returns
returns c =
    let v = c.args.table.now in
    let key = c.args.key.now in
    let range = c.args.range.now in
    let inv = c.loop-owner.invariant in
    let i = c.loop-owner.row.index in
    let none : kin_owner key (slice_get (keys (rows v (home (chain_count v) key.node))) i) ≡ None =
    ap (λ d. kin_owner key (slice_get (keys (rows v d)) i)) (sym inv.chain) ∙ sym c.owner_at.ensures.owner ∙ c.in_default.is in
    sym (inv.rest ∙ least_none key range.start range.end c.args.kind c.args.after (rows v (home (chain_count v) key.node)) i none)
