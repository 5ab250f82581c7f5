use Rattle.std.proofs.Common.{◌<◌, ◌∙◌, Some, ap, arith, length, slice_get, subst, sym}
use Rattle.fl_order.specs.declared.order.Op.TheVariants.{Forget}
use Rattle.fl_wire.proofs.Batches.{forgets_at, forgets_count}
use Rattle.fl_wire.specs.Batch.{forgets_in, pairs_said}
use Rattle.fl_wire.proofs.batch.Batch.order.Goals as goal

pub u64_at-requires-2 : goal.u64_at-requires-2
u64_at-requires-2 c =
    let bytes = c.self.inside.bytes.now in
    let within : c.args.i < pairs_said bytes =
    subst (λ n. c.args.i < n) (ap length (sym c.self.view_is) ∙ forgets_count bytes) c.requires in
    omega (arith, within, c.self.invariant.0)

pub u64_at-requires-3 : goal.u64_at-requires-3
u64_at-requires-3 c =
    let bytes = c.self.inside.bytes.now in
    let within : c.args.i < pairs_said bytes =
    subst (λ n. c.args.i < n) (ap length (sym c.self.view_is) ∙ forgets_count bytes) c.requires in
    omega (arith, within, c.self.invariant.0)

pub returns : goal.returns
returns c =
    let bytes = c.self.inside.bytes.now in
    let below : c.args.i < length (forgets_in bytes) = subst (λ orders. c.args.i < length orders) (sym c.self.view_is) c.requires in
    ap (λ orders. slice_get orders c.args.i) (sym c.self.view_is) ∙ forgets_at bytes c.args.i below
    ∙ (λ k. Some (record {
      unique = sym c.u64_at.ensures k;
      node = sym c.u64_at-2.ensures k;
      uid = sym c.u32_at.ensures k;
      gid = sym c.u32_at-2.ensures k;
      pid = sym c.u32_at-3.ensures k;
      op = Forget (sym c.u64_at-3.ensures k);
    }))
