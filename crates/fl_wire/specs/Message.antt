-- The message that a kernel sends for an order, or for a batch of them. Fields that aren't read are zeros here.
use Rattle.std.specs.Prelude.{◌≡◌, ℕ, ◌+◌, ◌<◌, ◌^◌, ◌==◌, Bool, if◌then◌else◌, List, [], ◌∷◌, ◌++◌, length, map, All}
use Rattle.std.specs.Prelude.{Option, Some, Result, Ok}
use Rattle.fl_order.specs.OpKind.{opcode_for}
use Rattle.fl_order.specs.Order.{body_of, kind_of}
use Rattle.fl_order.specs.Sayable.{IsSayable}
use Rattle.fl_order.specs.declared.body.Body.{Body}
use Rattle.fl_order.specs.declared.body.Body.TheVariants as body
use Rattle.fl_order.specs.declared.kind.OpKind.TheVariants.{BatchForget}
use Rattle.fl_order.specs.declared.order.Op.TheVariants.{Forget}
use Rattle.fl_order.specs.declared.order.Order.{Order}
use Rattle.fl_order.specs.declared.order.LockAsk.{LockAsk}
use Rattle.fl_order.specs.declared.refusal.Refusal.{Refusal}
use Rattle.fl_wire.specs.Body.{name_bytes}
use Rattle.fl_wire.specs.Layout.{laid_out, in_header, create_in, flush_in, forget_in, getattr_in, lk_in, make_in}
use Rattle.fl_wire.specs.Layout.{open_in, release_in}
use Rattle.fl_wire.specs.Layout.{batch_forget_in, forget_one}

-- the values of a lock request's fields
abbrev pub lock_values : LockAsk → List ℕ
lock_values ask = ask.fh ∷ ask.owner ∷ ask.start ∷ ask.end ∷ ask.kind ∷ ask.pid ∷ ask.flags ∷ 0 ∷ []

-- the values of a CREATE's fields: `O_EXCL` is octal 200 of the flags
abbrev pub create_values : Bool → ℕ → List ℕ
create_values excl mode = (if excl then 128 else 0) ∷ mode ∷ 0 ∷ 0 ∷ []

-- the values of the fields of a MKDIR (opcode 9), or else of a MKNOD
abbrev pub make_values : ℕ → ℕ → List ℕ
make_values opcode mode = if opcode == 9 then mode ∷ 0 ∷ [] else mode ∷ 0 ∷ 0 ∷ 0 ∷ []

-- the values of a RELEASE's fields: bit 1 of its release flags drops the whole-file lock
abbrev pub release_values : ℕ → Bool → ℕ → List ℕ
release_values fh unlocks owner = fh ∷ 0 ∷ (if unlocks then 2 else 0) ∷ owner ∷ []

-- what stands behind the header of a message with this opcode
abbrev pub body_bytes : ℕ → Body → List ℕ
body_bytes opcode (body.Lock ask) = laid_out lk_in (lock_values ask)
body_bytes opcode (body.Create excl mode name) = laid_out create_in (create_values excl mode) ++ name_bytes name
body_bytes opcode (body.Make mode name) = laid_out (make_in opcode) (make_values opcode mode) ++ name_bytes name
body_bytes opcode (body.Name name) = name_bytes name
body_bytes opcode (body.Number n) = laid_out forget_in (n ∷ [])
body_bytes opcode (body.Flush fh owner) = laid_out flush_in (fh ∷ 0 ∷ 0 ∷ owner ∷ [])
body_bytes opcode (body.Release fh unlocks owner) = laid_out release_in (release_values fh unlocks owner)
body_bytes opcode body.Getattr = laid_out getattr_in (0 ∷ 0 ∷ 0 ∷ [])
body_bytes opcode body.Open = laid_out open_in (0 ∷ 0 ∷ [])

-- a header, and the body behind it
unfoldable pub request : ℕ → ℕ → ℕ → ℕ → ℕ → ℕ → List ℕ → List ℕ
request opcode unique node uid gid pid body =
    laid_out in_header ((40 + length body) ∷ opcode ∷ unique ∷ node ∷ uid ∷ gid ∷ pid ∷ 0 ∷ []) ++ body

-- the message of an order
abbrev pub message_of : Order → List ℕ
message_of order =
    let opcode = opcode_for (kind_of order.op) in
    let body = body_bytes opcode (body_of order.op) in
    request opcode order.unique order.node order.uid order.gid order.pid body

-- what is read in these bytes is the order whose message they are, if there is one
abbrev pub ReadsBack : List ℕ → Result Order Refusal → Type 0
ReadsBack bytes result = (order : Order) → IsSayable order → bytes ≡ message_of order → result ≡ Ok order

-- pairs of a node and how many lookups of it are forgotten
abbrev pub pair_bytes : List (ℕ × ℕ) → List ℕ
pair_bytes [] = []
pair_bytes (pair ∷ pairs) = laid_out forget_one (pair.0 ∷ pair.1 ∷ []) ++ pair_bytes pairs

-- the message of a batch of these pairs, whose header is that of this order
abbrev pub batch_message : Order → List (ℕ × ℕ) → List ℕ
batch_message head pairs =
    let body = laid_out batch_forget_in (length pairs ∷ 0 ∷ []) ++ pair_bytes pairs in
    request (opcode_for BatchForget) head.unique head.node head.uid head.gid head.pid body

-- the FORGETs of these pairs, with this header but for the node
abbrev pub forgets_of : Order → List (ℕ × ℕ) → List Order
forgets_of head pairs = map (λ pair. record head { node = pair.0; op = Forget pair.1 }) pairs

-- the numbers of a pair fit their fields
abbrev pub FitsPair : ℕ × ℕ → Type 0
FitsPair pair = (pair.0 < 2 ^ 64) × (pair.1 < 2 ^ 64)

-- what is read in these bytes is the FORGETs whose message they are, if they are the message of a batch
abbrev pub BatchReadsBack : List ℕ → Option (List Order) → Type 0
BatchReadsBack bytes result = (head : Order) (pairs : List (ℕ × ℕ)) → IsSayable head → All FitsPair pairs
    → length pairs < 2 ^ 32 → bytes ≡ batch_message head pairs → result ≡ Some (forgets_of head pairs)
