-- Messages that are several FORGETs.
use Rattle.std.proofs.Common.{◌≡◌, ◌↔◌, ℕ, ◌<◌, Bool, true, false, true≢false, if◌then◌else◌, List, length, Option}
use Rattle.std.proofs.Common.{None, Some, Result, Ok, Err, refl, sym, ap, subst, ◌∙◌, arith}
use Rattle.std.specs.Prelude.{IsSome, slice_get}
use Rattle.std.specs.Option.{ok_or}
use Rattle.std.proofs.lemmas.List.FromFn.{length-map-range_with_len, get_or-map-range_with_len}
use Rattle.std.proofs.lemmas.Option.{slice_get-get_or}
use Rattle.fl_order.specs.OpKind.{is_silent, kind_of_opcode, shape_for}
use Rattle.fl_order.specs.Order.{op_of}
use Rattle.fl_order.specs.declared.body.Body.{Body}
use Rattle.fl_order.specs.declared.body.Shape.{Shape}
use Rattle.fl_order.specs.declared.errno.Errno.{Errno}
use Rattle.fl_order.specs.declared.kind.OpKind.{OpKind}
use Rattle.fl_order.specs.declared.order.Op.{Op}
use Rattle.fl_order.specs.declared.order.Order.{Order}
use Rattle.fl_order.specs.declared.refusal.Refusal.{Refusal}
use Rattle.fl_order.specs.declared.refusal.Refusal.TheVariants.{Answer, Silent, Batch, Destroy}
use Rattle.fl_wire.specs.Batch.{pairs_said, is_batch, forget_at, forgets_in, batch_in}
use Rattle.fl_wire.specs.Layout.{opcode_of}
use Rattle.fl_wire.specs.Says.{said, asked, asked_by, asked_with, body_in, order_of}

-- how many FORGETs there are
pub forgets_count : (bytes : List ℕ) → length (forgets_in bytes) ≡ pairs_said bytes
forgets_count bytes = length-map-range_with_len (forget_at bytes) 0 (pairs_said bytes)

-- the FORGET at a place
pub forgets_at : (bytes : List ℕ) (i : ℕ) → i < length (forgets_in bytes)
    → slice_get (forgets_in bytes) i ≡ Some (forget_at bytes i)
forgets_at bytes i below =
    let within : i < pairs_said bytes = subst (λ n. i < n) (forgets_count bytes) below in
    slice_get-get_or (forgets_in bytes) i (forget_at bytes i) below
    ∙ ap Some (get_or-map-range_with_len (forget_at bytes) 0 (pairs_said bytes) i i (forget_at bytes i) within (omega arith))

-- ---- a message that is no batch is refused otherwise

-- it is an order, or refused otherwise than as a batch
abbrev IsNoBatch : {X : Type 0} → Result X Refusal → Type 0
IsNoBatch (Ok x) = Unit {0}
IsNoBatch (Err (Answer e)) = Unit {0}
IsNoBatch (Err Silent) = Unit {0}
IsNoBatch (Err Batch) = ⊥
IsNoBatch (Err Destroy) = Unit {0}

made_no_batch : (op : Option Op) (e : Errno) → IsNoBatch (ok_or op (Answer e))
made_no_batch None e = tt
made_no_batch (Some op) e = tt

fault_no_batch : (silent : Bool) (e : Errno) → IsNoBatch {X = Op} (Err (if silent then Silent else Answer e))
fault_no_batch true e = tt
fault_no_batch false e = tt

with_no_batch : (kind : OpKind) (body : Result Body Errno) → IsNoBatch (asked_with kind body)
with_no_batch kind (Ok said) = made_no_batch (op_of kind said) _
with_no_batch kind (Err e) = fault_no_batch (is_silent kind) e

by_no_batch : (kind : OpKind) (bytes : List ℕ) (shape : Result Shape Refusal) → IsNoBatch shape
    → IsNoBatch (asked_by kind shape bytes)
by_no_batch kind bytes (Ok shape) is = with_no_batch kind (body_in shape bytes)
by_no_batch kind bytes (Err (Answer e)) is = tt
by_no_batch kind bytes (Err Silent) is = tt
by_no_batch kind bytes (Err Batch) is = is
by_no_batch kind bytes (Err Destroy) is = tt

shape_no_batch : (kind : OpKind) → IsNoBatch (shape_for kind)
shape_no_batch kind = grind arith

asked_no_batch : (bytes : List ℕ) (kind : Option OpKind) → IsNoBatch (asked kind bytes)
asked_no_batch bytes None = tt
asked_no_batch bytes (Some kind) = by_no_batch kind bytes (shape_for kind) (shape_no_batch kind)

order_no_batch : (bytes : List ℕ) (op : Result Op Refusal) → IsNoBatch op → order_of bytes op ≡ Err Batch → ⊥
order_no_batch bytes (Ok op) is e = cc e
order_no_batch bytes (Err (Answer f)) is e = cc e
order_no_batch bytes (Err Silent) is e = cc e
order_no_batch bytes (Err Batch) is e = is
order_no_batch bytes (Err Destroy) is e = cc e

-- it is a batch exactly if it says that it is
pub batch_is_said : (bytes : List ℕ) → IsSome (batch_in bytes) ↔ (said bytes ≡ Err Batch)
batch_is_said bytes = go (is_batch bytes)
  where
    otherwise : Result Order Refusal
    otherwise = order_of bytes (asked (kind_of_opcode (opcode_of bytes)) bytes)

    go : (is : Bool) → IsSome (if is then Some (forgets_in bytes) else None)
        ↔ ((if is then Err Batch else otherwise) ≡ Err Batch)
    go true = (λ some. refl, λ said. refl)
    go false = (
      λ some. absurd (true≢false (sym some)),
      λ said. absurd (order_no_batch bytes (asked (kind_of_opcode (opcode_of bytes)) bytes)
          (asked_no_batch bytes (kind_of_opcode (opcode_of bytes))) said),
    )
