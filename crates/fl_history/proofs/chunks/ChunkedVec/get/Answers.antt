use Rattle.std.proofs.Common.{◌<◌, length, sym, ◌∙◌, ap, arith}
use Rattle.std.specs.List.{slice_get}
use Rattle.fl_history.proofs.Packing.{packed_length, chunk_is_there, item_is_there}
use Rattle.fl_history.proofs.chunks.ChunkedVec.get.Goals as goal

pub index-requires : goal.index-requires
index-requires g c =
    let s = c.self.inside in
    let l : c.args.at < s.len = omega (
      arith,
      c.requires,
      packed_length 4096 s.len s.chunks.items c.self.invariant.packed,
      ap (λ v. length v.items) c.self.view_is,
    ) in
    omega (arith, s.chunks.ok.0, chunk_is_there 4096 s.len s.capacity c.args.at s.chunks.items c.self.invariant l)

pub get-requires : goal.get-requires
get-requires g c =
    let s = c.self.inside in
    let l : c.args.at < s.len = omega (
      arith,
      c.requires,
      packed_length 4096 s.len s.chunks.items c.self.invariant.packed,
      ap (λ v. length v.items) c.self.view_is,
    ) in
    (item_is_there 4096 s.len s.capacity c.args.at s.chunks.items c.index.result.now (omega arith) c.self.invariant l c.index.ensures).0

pub returns : goal.returns
returns g c =
    let s = c.self.inside in
    let l : c.args.at < s.len = omega (
      arith,
      c.requires,
      packed_length 4096 s.len s.chunks.items c.self.invariant.packed,
      ap (λ v. length v.items) c.self.view_is,
    ) in
    ap (λ v. slice_get v.items c.args.at) (sym c.self.view_is)
    ∙ (item_is_there 4096 s.len s.capacity c.args.at s.chunks.items c.index.result.now (omega arith) c.self.invariant l c.index.ensures).1 ∙ c.get.ensures
