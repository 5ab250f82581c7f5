use Rattle.std.proofs.Common.{◌<◌, ◌+◌, ◌++◌, ◌∷◌, [], ◌/◌, sym, ◌∙◌, ap, arith, subst, length-set, slice_set}
use Rattle.std.proofs.lemmas.Nat.{mod_below}
use Rattle.fl_history.specs.Inside.Chunks.{IsStocked, joined}
use Rattle.fl_history.proofs.Packing.{chunk_with_room, takes_one}
use Rattle.fl_history.proofs.chunks.ChunkedVec.push.Goals as goal

pub index_mut-requires : goal.index_mut-requires
index_mut-requires g c =
    let s = c.self.inside in
    omega (
      arith,
      s.chunks.ok.0,
      chunk_with_room 4096 s.len s.capacity s.chunks.items c.self.invariant
          (omega (arith, c.requires, ap (λ v. v.room) c.self.view_is)),
    )

pub push-requires : goal.push-requires
push-requires g c =
    let s = c.self.inside in
    let l : s.len < s.capacity = omega (arith, c.requires, ap (λ v. v.room) c.self.view_is) in
    let w = takes_one 4096 s.len s.capacity s.chunks.items c.index_mut.result.now c.args.item (omega arith) c.self.invariant l c.index_mut.ensures.value in
    omega (arith, w.long, mod_below s.len 4096 (omega arith))

pub invariant_of-self : goal.invariant_of-self
invariant_of-self g c =
    let s = c.self.inside in
    let l : s.len < s.capacity = omega (arith, c.requires, ap (λ v. v.room) c.self.view_is) in
    let w = takes_one 4096 s.len s.capacity s.chunks.items c.index_mut.result.now c.args.item (omega arith) c.self.invariant l c.index_mut.ensures.value in
    subst (λ x. IsStocked 4096 (slice_set s.chunks.items (s.len / 4096) x) (s.len + 1) s.capacity) (sym c.push.ensures)
    (record {
      made = omega (arith, c.self.invariant.made, length-set s.chunks.items (s.len / 4096) (c.index_mut.result.now ++ c.args.item ∷ []));
      within = omega arith;
      few = c.self.invariant.few;
      packed = w.packed;
    })

pub returns-clause-items : goal.returns-clause-items
returns-clause-items g c =
    let s = c.self.inside in
    let l : s.len < s.capacity = omega (arith, c.requires, ap (λ v. v.room) c.self.view_is) in
    let w = takes_one 4096 s.len s.capacity s.chunks.items c.index_mut.result.now c.args.item (omega arith) c.self.invariant l c.index_mut.ensures.value in
    ap (λ x. joined (slice_set s.chunks.items (s.len / 4096) x)) c.push.ensures ∙ w.joined_is ∙ ap (λ v. v.items ++ c.args.item ∷ []) c.self.view_is
