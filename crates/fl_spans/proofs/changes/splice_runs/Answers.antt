use Rattle.std.proofs.Common.{◌≡◌, ◌≤◌, ◌+◌, ◌++◌, length, take, drop, append_assoc, sym, ap, ◌∙◌, subst, arith}
use Rattle.std.proofs.lemmas.List.{length-append}
use Rattle.fl_arena.specs.Chains.{items}
use Rattle.fl_arena.specs.Cursors.{cursor_at}
use Rattle.fl_arena.specs.declared.cursors.Cursor.{Cursor}
use Rattle.fl_spans.specs.Rows.{listed}
use Rattle.fl_spans.proofs.Loops.{past_front, put_behind}
use Rattle.fl_spans.proofs.changes.splice_runs.Goals as goal

pub put_in-requires-clause-within : goal.put_in-requires-clause-within
put_in-requires-clause-within g c =
    let ys = drop (c.args.at.index + c.args.taken) (items c.args.runs.now c.args.at.chain) in
    let there = past_front (items c.args.runs.now c.args.at.chain) ys c.args.at.index (omega (arith, c.requires.there)) in
    subst (λ (x : Cursor). x.index ≤ length (items c.take_out.new.runs x.chain)) (sym c.take_out.ensures.cursor)
    (subst (λ xs. c.args.at.index ≤ length xs) (sym c.take_out.ensures.items) there)

pub put_in-requires-clause-room : goal.put_in-requires-clause-room
put_in-requires-clause-room g c =
    let p = c.args.pieces in
    omega (
      arith,
      c.requires.room,
      c.take_out.ensures.fewer,
      c.take_out.ensures.size.slots,
      length-append (listed p.before) (listed p.new ++ listed p.after),
      length-append (listed p.new) (listed p.after),
    )

pub put_in-requires-2-clause-room : goal.put_in-requires-2-clause-room
put_in-requires-2-clause-room g c =
    let p = c.args.pieces in
    omega (
      arith,
      c.requires.room,
      c.take_out.ensures.fewer,
      c.take_out.ensures.size.slots,
      c.put_in.ensures.more,
      c.put_in.ensures.size.slots,
      length-append (listed p.before) (listed p.new ++ listed p.after),
      length-append (listed p.new) (listed p.after),
    )

pub put_in-requires-3-clause-room : goal.put_in-requires-3-clause-room
put_in-requires-3-clause-room g c =
    let p = c.args.pieces in
    omega (
      arith,
      c.requires.room,
      c.take_out.ensures.fewer,
      c.take_out.ensures.size.slots,
      c.put_in.ensures.more,
      c.put_in.ensures.size.slots,
      c.put_in-2.ensures.more,
      c.put_in-2.ensures.size.slots,
      length-append (listed p.before) (listed p.new ++ listed p.after),
      length-append (listed p.new) (listed p.after),
    )

pub returns-clause-items : goal.returns-clause-items
returns-clause-items g c =
    let p = c.args.pieces in
    let i = c.args.at.index in
    let xs = items c.args.runs.now c.args.at.chain in
    let ys = drop (i + c.args.taken) xs in
    let less : i ≤ length xs = omega (arith, c.requires.there) in
    let at_2 = c.put_in.ensures.cursor ∙ ap (λ (x : Cursor). cursor_at c.put_in.new.runs x.chain x.index) c.take_out.ensures.cursor in
    let at_3 = c.put_in-2.ensures.cursor ∙ ap (λ (x : Cursor). cursor_at c.put_in-2.new.runs x.chain x.index) at_2 in
    let one = subst (λ (x : Cursor). items c.put_in.new.runs x.chain ≡ take x.index (items c.take_out.new.runs x.chain)
    ++ (listed p.after ++ drop x.index (items c.take_out.new.runs x.chain))) c.take_out.ensures.cursor c.put_in.ensures.items in
    let two = subst (λ (x : Cursor). items c.put_in-2.new.runs x.chain ≡ take x.index (items c.put_in.new.runs x.chain)
    ++ (listed p.new ++ drop x.index (items c.put_in.new.runs x.chain))) at_2 c.put_in-2.ensures.items in
    let three = subst (λ (x : Cursor). items c.put_in-3.new.runs x.chain ≡ take x.index (items c.put_in-2.new.runs x.chain)
    ++ (listed p.before ++ drop x.index (items c.put_in-2.new.runs x.chain))) at_3 c.put_in-3.ensures.items in
    let last = put_behind xs (listed p.after ++ ys) (listed p.new) _ _ i less
    (put_behind xs ys (listed p.after) _ _ i less c.take_out.ensures.items one) two in
    put_behind xs (listed p.new ++ (listed p.after ++ ys)) (listed p.before) _ _ i less last three
    ∙ ap (λ l. take i xs ++ l) (sym (append_assoc (listed p.before) (listed p.new ++ listed p.after) ys
    ∙ ap (λ l. listed p.before ++ l) (append_assoc (listed p.new) (listed p.after) ys)))
