use Rattle.std.proofs.Common.{◌≡◌, ◌≤◌, Some, None, slice_get, refl, sym, ap, ◌∙◌, arith}
use Rattle.std.specs.List.{find}
use Rattle.fl_arena.specs.declared.cursors.Cursor.{Cursor}
use Rattle.fl_spans.specs.Rows.{chain_count, rows, keys, runs_at}
use Rattle.fl_ranges.specs.Placing.{home}
use Rattle.fl_ranges.specs.Layout.{runs_in}
use Rattle.fl_ranges.specs.Inside.Nearest.{nearest_from}
use Rattle.fl_ranges.specs.Inside.Contenders.{class_rows, kin_owner, span_conflicts}
use Rattle.fl_ranges.proofs.ContenderRows.{kin_spans}
use Rattle.fl_ranges.proofs.ContenderNearest.{nearest_class, GoesOn, nearest_next, nearest_more, nearest_stop}
use Rattle.fl_ranges.proofs.ContenderNearest.{nearest_none}
use Rattle.fl_ranges.proofs.blocker.nearest.Goals as goal
use Rattle.fl_ranges.proofs.blocker.nearest.Goals.{in-Some-conflicting_span+else-span-range}
use Rattle.fl_ranges.proofs.blocker.nearest.Goals.{in_default-conflicting_span}

pub loop-owner-init : goal.loop-owner-init
loop-owner-init c =
    let key = c.args.key.now in
    let range = c.args.range.now in
    let first = c.first_of_class-row.ensures in
    record {
      row = first.row;
      chain = first.chain;
      some = range.ordered;
      best = refl;
      rest = nearest_class key range.start range.end c.args.kind c.args.table.now c.requires.kept
          ∙ ap (λ rs. nearest_from key range.start range.end c.args.kind None (runs_in (class_rows key rs))) (sym first.first);
    }

pub conflicting_span-requires-clause-spans : goal.conflicting_span-requires-clause-spans
conflicting_span-requires-clause-spans c =
    let rs = rows c.args.table.now c.loop-owner.row.chain in
    let are = c.requires.kept c.loop-owner.row.chain in
    kin_spans c.args.key.now rs c.loop-owner.row.index c.in-Some.owner (sym c.in-Some.ensures.owner) are.spans

pub loop-owner-preserved : goal.loop-owner-preserved
loop-owner-preserved c =
    let v = c.args.table.now in
    let key = c.args.key.now in
    let range = c.args.range.now in
    let inv = c.loop-owner.invariant in
    let i = c.loop-owner.row.index in
    let rs = rows v (home (chain_count v) key.node) in
    let on = c.next_row.ensures.next in
    let are = c.requires.kept (home (chain_count v) key.node) in
    let found : kin_owner key (slice_get (keys rs) i) ≡ Some c.in-Some.owner =
    ap (λ d. kin_owner key (slice_get (keys (rows v d)) i)) (sym inv.chain) ∙ sym c.in-Some.ensures.owner in
    let seen : find (span_conflicts key c.in-Some.owner range.start c.loop-owner.last c.args.kind) (runs_at rs i) ≡ c.conflicting_span.result =
    ap (λ d. find (span_conflicts key c.in-Some.owner range.start c.loop-owner.last c.args.kind) (runs_at (rows v d) i)) (sym inv.chain)
    ∙ sym c.conflicting_span.ensures in
    let goes : (range.start ≤ c.match-conflicting_span.last)
    × GoesOn key range.start range.end c.args.kind rs i c.in-Some.owner found c.loop-owner.last inv.some c.loop-owner.best inv.best
    c.match-conflicting_span.last c.match-conflicting_span.best =
    elim c.match-conflicting_span.branch [
      | in-Some-conflicting_span+else-span-range w ↦ (
        omega (arith, w.last-is, w.if-span-range.false),
        rw w.last-is (rw w.best-is (nearest_more key range.start range.end c.args.kind rs i c.in-Some.owner found c.loop-owner.last inv.some
            c.loop-owner.best inv.best are.in_order (kin_spans key rs i c.in-Some.owner found are.spans) w.in-Some-conflicting_span.span
            (seen ∙ w.in-Some-conflicting_span.is) w.if-span-range.false)),
      )
      | in_default-conflicting_span w ↦ (
        omega (arith, w.last-is, inv.some),
        rw w.last-is (rw w.best-is (nearest_next key range.start range.end c.args.kind rs i c.in-Some.owner found c.loop-owner.last inv.some
            c.loop-owner.best inv.best (seen ∙ w.in_default-conflicting_span.is))),
      )
    ] in
    let next = goes.1 in
    record {
      row = c.next_row.ensures.row;
      chain = ap (λ (k : Cursor). k.chain) on ∙ inv.chain;
      some = goes.0;
      best = rw (ap (λ (k : Cursor). k.index) on) next.later;
      rest = rw (ap (λ (k : Cursor). k.index) on) (inv.rest ∙ next.rest);
    }

pub returns-then-span-range : goal.returns-then-span-range
returns-then-span-range c =
    let v = c.args.table.now in
    let key = c.args.key.now in
    let range = c.args.range.now in
    let inv = c.loop-owner.invariant in
    let i = c.loop-owner.row.index in
    let rs = rows v (home (chain_count v) key.node) in
    let are = c.requires.kept (home (chain_count v) key.node) in
    let found : kin_owner key (slice_get (keys rs) i) ≡ Some c.in-Some.owner =
    ap (λ d. kin_owner key (slice_get (keys (rows v d)) i)) (sym inv.chain) ∙ sym c.in-Some.ensures.owner in
    let seen : find (span_conflicts key c.in-Some.owner range.start c.loop-owner.last c.args.kind) (runs_at rs i) ≡ Some c.in-Some-conflicting_span.span =
    ap (λ d. find (span_conflicts key c.in-Some.owner range.start c.loop-owner.last c.args.kind) (runs_at (rows v d) i)) (sym inv.chain)
    ∙ sym c.conflicting_span.ensures ∙ c.in-Some-conflicting_span.is in
    sym (inv.rest ∙ nearest_stop key range.start range.end c.args.kind rs i c.in-Some.owner found c.loop-owner.last inv.some c.loop-owner.best inv.best
    are.in_order (kin_spans key rs i c.in-Some.owner found are.spans) c.in-Some-conflicting_span.span seen c.if-span-range.true)

pub returns-in_default : goal.returns-in_default
returns-in_default c =
    let v = c.args.table.now in
    let key = c.args.key.now in
    let range = c.args.range.now in
    let inv = c.loop-owner.invariant in
    let i = c.loop-owner.row.index in
    let none : kin_owner key (slice_get (keys (rows v (home (chain_count v) key.node))) i) ≡ None =
    ap (λ d. kin_owner key (slice_get (keys (rows v d)) i)) (sym inv.chain) ∙ sym c.owner_at.ensures.owner ∙ c.in_default.is in
    sym (inv.rest ∙ nearest_none key range.start range.end c.args.kind (rows v (home (chain_count v) key.node)) i c.loop-owner.best none)
