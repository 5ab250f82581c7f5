use Rattle.std.proofs.Common.{◌≡◌, ◌+◌, ◌<◌, ◌∙◌, ◌++◌, ◌∷◌, [], length, drop, get_or, sym, ap, arith, length-set}
use Rattle.std.proofs.lemmas.List.{take_more, take_more_set, get_or-drop, length-drop}
use Rattle.std.proofs.lemmas.Option.{get_or_from_slice_get}
use Rattle.fl_history.proofs.Packing.{packed_length}
use Rattle.fl_history.proofs.chunks.ChunkedVec.copy_from.Goals as goal

pub overflow_add-start : goal.overflow_add-start
overflow_add-start g c =
    let s = c.self.inside in
    omega (
      arith,
      c.requires,
      c.loop-i-test.true,
      c.loop-i.invariant.long,
      packed_length 4096 s.len s.chunks.items c.self.invariant.packed,
      ap (λ v. length v.items) c.self.view_is,
      c.self.invariant.within,
      c.self.invariant.few,
    )

pub loop-i-preserved : goal.loop-i-preserved
loop-i-preserved g c =
    let i = c.loop-i.i in
    let all = c.args.self.now.items in
    let out = c.loop-i.out in
    let x = c.get.result in
    let rest = drop c.args.start all in
    let there : get_or rest i x ≡ x = get_or-drop c.args.start all i x ∙ get_or_from_slice_get all (c.args.start + i) x x c.get.ensures in
    let inside : i < length rest = omega (arith, length-drop c.args.start all, c.requires, c.loop-i-test.true, c.loop-i.invariant.long) in
    record {
      long = length-set out i x ∙ c.loop-i.invariant.long;
      copied = take_more_set out i x (omega (arith, c.loop-i-test.true, c.loop-i.invariant.long))
          ∙ (λ k. c.loop-i.invariant.copied k ++ sym there k ∷ []) ∙ sym (take_more rest i x inside);
    }
