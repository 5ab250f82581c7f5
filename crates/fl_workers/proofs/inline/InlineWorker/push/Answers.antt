use Rattle.std.proofs.Common.{◌≡◌, ◌∙◌, ◌++◌, ◌∷◌, [], ap, slice_set}
use Rattle.std.proofs.Math.Seq.{set-append_seam}
use Rattle.std.specs.Vec.{vec_capacity}
use Rattle.fl_workers.specs.Dispatched.{Inline}
use Rattle.fl_workers.proofs.inline.InlineWorker.push.Goals as goal

pub returns : goal.returns
returns g c =
    let batch = c.self.inside.room.batch in
    let said = g.O.Readable.said c.args.order.now in
    let placed : slice_set c.push_reserved.new.self.items c.len-last.result c.read.new.place ≡ batch.items ++ said ∷ [] =
    ap (λ xs. slice_set xs c.len-last.result c.read.new.place) c.push_reserved.ensures.items
    ∙ ap (λ n. slice_set (batch.items ++ _ ∷ []) n c.read.new.place) (c.len-last.ensures ∙ batch.ok.0)
    ∙ set-append_seam batch.items _ [] c.read.new.place ∙ ap (λ o. batch.items ++ o ∷ []) c.read.ensures in
    let waiting = placed ∙ ap (λ (v : Inline). v.waiting ++ said ∷ []) c.self.view_is in
    let places : vec_capacity c.push_reserved.new.self ≡ c.args.self.now.places =
    c.push_reserved.ensures.capacity ∙ ap (λ (v : Inline). v.places) c.self.view_is in
    λ i. record (c.self.view_is i) { waiting = waiting i; places = places i }
