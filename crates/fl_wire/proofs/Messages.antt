-- The message of an order says that order.
use Rattle.std.proofs.Common.{◌≡◌, ◌<◌, ◌^◌, ◌+◌, ◌-◌, ℕ, zero, suc, ◌==◌, ◌*◌, ◌||◌, ◌&&◌, Bool, true, false, not}
use Rattle.std.proofs.Common.{nat_lt, if◌then◌else◌, List, [], ◌∷◌, ◌++◌, length, sum, take, drop, slice_index}
use Rattle.std.proofs.Common.{slice_index_or, Contains, Some, Result, Ok, Err, refl, sym, ap, ◌∙◌, arith, lit<, bit_and}
use Rattle.std.proofs.Common.{append_assoc, append-nil, length-append}
use Rattle.std.proofs.Math.Dec.{eqb-suc-zero}
use Rattle.std.proofs.Math.Nat.{mod-eq_of_lt}
use Rattle.std.proofs.Math.Seq.{drop-append_seam, get_or-append_seam, take-append_seam}
use Rattle.std.proofs.lemmas.Bool.{le-ltb}
use Rattle.std.proofs.lemmas.Bool.Decides.{Decides-eqb}
use Rattle.std.proofs.lemmas.List.Sums.{sum_by-cons}
use Rattle.std.proofs.lemmas.Nat.{and_mask}
use Rattle.std.specs.Option.{ok_or}
use Rattle.std.specs.List.{list_any}
use Rattle.byteorder.specs.Endian.{little_bytes, little_number}
use Rattle.byteorder.specs.Numbers.{length-bytes_low_first, little_number-reads_back}
use Rattle.fl_order.specs.Body.{body_shape}
use Rattle.fl_order.specs.OpKind.{kind_of_opcode, opcode_for, shape_for}
use Rattle.fl_order.specs.Name.{IsName}
use Rattle.fl_order.specs.Order.{body_of, kind_of, op_of}
use Rattle.fl_order.specs.Sayable.{FitsLock, FitsBody, IsSayable}
use Rattle.fl_order.specs.declared.body.Body.{Body}
use Rattle.fl_order.specs.declared.body.Body.TheVariants as body
use Rattle.fl_order.specs.declared.errno.Errno.TheVariants.{ENOSYS}
use Rattle.fl_order.specs.declared.kind.OpKind.{OpKind}
use Rattle.fl_order.specs.declared.kind.OpKind.TheVariants.{BatchForget}
use Rattle.fl_order.specs.declared.order.Order.{Order}
use Rattle.fl_order.specs.declared.order.LockAsk.{LockAsk}
use Rattle.fl_order.specs.declared.order.Op.{Op}
use Rattle.fl_order.specs.declared.refusal.Refusal.{Refusal}
use Rattle.fl_order.specs.declared.refusal.Refusal.TheVariants.{Answer, Batch}
use Rattle.fl_wire.specs.Batch.{is_batch, pairs_said}
use Rattle.fl_wire.specs.Body.{name_bytes, name_in, by_fields, by_fields_and_name}
use Rattle.fl_wire.specs.Layout.{number_at, values_at, field, laid_out, in_header, create_in, flush_in, forget_in}
use Rattle.fl_wire.specs.Layout.{getattr_in, lk_in, make_in, open_in, release_in, opcode_of, unique_of}
use Rattle.fl_wire.specs.Message.{lock_values, create_values, make_values, release_values, body_bytes, request}
use Rattle.fl_wire.specs.Message.{message_of, ReadsBack}
use Rattle.fl_wire.specs.Says.{said, asked, asked_by, asked_with, body_in, order_of, lock_of, create_of, release_of}

-- what stands in the fields of a header
pub record Heads (bytes : List ℕ) (opcode unique node uid gid pid : ℕ) : Type 0 where
  pub opcode_is : opcode_of bytes ≡ opcode
  pub unique_is : unique_of bytes ≡ unique
  pub node_is : field in_header 3 0 bytes ≡ node
  pub uid_is : field in_header 4 0 bytes ≡ uid
  pub gid_is : field in_header 5 0 bytes ≡ gid
  pub pid_is : field in_header 6 0 bytes ≡ pid

opcode_again : (o u n i g p : ℕ) (body : List ℕ) → o < 2 ^ 32 → opcode_of (request o u n i g p body) ≡ o
unfolding number_at request
opcode_again o u n i g p body ho = little_number-reads_back 4 o (drop 8 (request o u n i g p body)) ho

pub heads : (o u n i g p : ℕ) (body : List ℕ) → o < 2 ^ 32 → u < 2 ^ 64 → n < 2 ^ 64 → i < 2 ^ 32 → g < 2 ^ 32 → p < 2 ^ 32 →
    Heads (request o u n i g p body) o u n i g p
unfolding number_at request
heads o u n i g p body ho hu hn hi hg hp =
    let bytes : List ℕ = request o u n i g p body in
    record {
      opcode_is = opcode_again o u n i g p body ho;
      unique_is = little_number-reads_back 8 u (drop 16 bytes) hu;
      node_is = little_number-reads_back 8 n (drop 24 bytes) hn;
      uid_is = little_number-reads_back 4 i (drop 28 bytes) hi;
      gid_is = little_number-reads_back 4 g (drop 32 bytes) hg;
      pid_is = little_number-reads_back 4 p (drop 36 bytes) hp;
    }

-- values that fit their fields
abbrev pub FitAll : List ℕ → List ℕ → Type 0
FitAll [] [] = Unit {0}
FitAll [] (value ∷ values) = ⊥
FitAll (width ∷ widths) [] = ⊥
FitAll (width ∷ widths) (value ∷ values) = (value < 256 ^ width) × FitAll widths values

-- they have as many bytes as their fields
pub length-laid_out : (widths values : List ℕ) → FitAll widths values → length (laid_out widths values) ≡ sum widths
length-laid_out [] values fit = refl
length-laid_out (w ∷ ws) [] fit = absurd fit
length-laid_out (w ∷ ws) (v ∷ vs) fit =
    length-append (little_bytes w v) (laid_out ws vs) ∙ ap (λ n. n + length (laid_out ws vs)) (length-bytes_low_first 0 w v)
    ∙ ap (λ n. w + n) (length-laid_out ws vs fit.1) ∙ sym (sum_by-cons (λ x. x) w ws)

-- values that were laid out behind other bytes are read back
pub values_again : (widths values before rest : List ℕ) → FitAll widths values →
    values_at widths (length before) (before ++ (laid_out widths values ++ rest)) ≡ values
unfolding number_at
values_again [] [] before rest fit = refl
values_again [] (v ∷ vs) before rest fit = absurd fit
values_again (w ∷ ws) [] before rest fit = absurd fit
values_again (w ∷ ws) (v ∷ vs) before rest fit =
    let bytes : List ℕ = before ++ ((little_bytes w v ++ laid_out ws vs) ++ rest) in
    let behind : drop (length before) bytes ≡ little_bytes w v ++ (laid_out ws vs ++ rest) =
    drop-append_seam before ((little_bytes w v ++ laid_out ws vs) ++ rest) ∙ append_assoc (little_bytes w v) (laid_out ws vs) rest in
    let first : little_number w (drop (length before) bytes) ≡ v = ap (little_number w) behind ∙ little_number-reads_back w v (laid_out ws vs ++ rest) fit.0 in
    let place : length before + w ≡ length (before ++ little_bytes w v) =
    sym (length-append before (little_bytes w v) ∙ ap (λ n. length before + n) (length-bytes_low_first 0 w v)) in
    let same : bytes ≡ (before ++ little_bytes w v) ++ (laid_out ws vs ++ rest) =
    ap (λ xs. before ++ xs) (append_assoc (little_bytes w v) (laid_out ws vs) rest) ∙ sym (append_assoc before (little_bytes w v) (laid_out ws vs ++ rest)) in
    let later : values_at ws (length before + w) bytes ≡ vs =
    ap (λ n. values_at ws n bytes) place ∙ ap (values_at ws (length (before ++ little_bytes w v))) same
    ∙ values_again ws vs (before ++ little_bytes w v) rest fit.1 in
    λ k. first k ∷ later k

-- an order whose parts are read back is read back
order_again : (bytes : List ℕ) (opcode u n i g p : ℕ) (op : Op) → Heads bytes opcode u n i g p
    → (opcode == opcode_for BatchForget) ≡ false → asked (kind_of_opcode opcode) bytes ≡ Ok op
    → said bytes ≡ Ok (record { unique = u; node = n; uid = i; gid = g; pid = p; op = op })
order_again bytes opcode u n i g p op h other e =
    let full : Bool = length bytes == 48 + 16 * pairs_said bytes in
    let single : is_batch bytes ≡ false =
    ap (λ o. (o == opcode_for BatchForget) && full) h.opcode_is ∙ ap (λ b. b && full) other in
    let alone : said bytes ≡ order_of bytes (asked (kind_of_opcode (opcode_of bytes)) bytes) =
    ap (λ b. if b then Err Batch else order_of bytes (asked (kind_of_opcode (opcode_of bytes)) bytes)) single in
    let parts : order_of bytes (Ok op) ≡ Ok (record { unique = u; node = n; uid = i; gid = g; pid = p; op = op }) =
    λ k. Ok (record { unique = h.unique_is k; node = h.node_is k; uid = h.uid_is k; gid = h.gid_is k; pid = h.pid_is k; op = op }) in
    alone ∙ ap (λ o. order_of bytes (asked (kind_of_opcode o) bytes)) h.opcode_is ∙ ap (order_of bytes) e ∙ parts

-- what fields alone ask for is read back
fields_again : (o u n i g p : ℕ) (widths values : List ℕ) (asks : List ℕ → Body) → FitAll widths values →
    by_fields widths asks (request o u n i g p (laid_out widths values)) ≡ Ok (asks values)
unfolding request
fields_again o u n i g p widths values asks fit =
    let body : List ℕ = laid_out widths values in
    let before : List ℕ = laid_out in_header ((40 + length body) ∷ o ∷ u ∷ n ∷ i ∷ g ∷ p ∷ 0 ∷ []) in
    let long : length (before ++ body) ≡ 40 + sum widths = length-append before body ∙ ap (λ n. 40 + n) (length-laid_out widths values fit) in
    let same : values_at widths 40 (before ++ body) ≡ values =
    ap (λ xs. values_at widths 40 (before ++ xs)) (sym (append-nil body)) ∙ values_again widths values before [] fit in
    rw (long, (Decides-eqb (40 + sum widths) (40 + sum widths)).1 refl) (ap (λ vs. Ok (asks vs)) same)

-- a name without zero bytes has none
none_is_zero : (xs : List ℕ) → (Contains xs 0 → ⊥) → list_any (λ b. b == 0) xs ≡ false
none_is_zero [] h = refl
none_is_zero (zero ∷ xs) h = absurd (h (0, omega arith, refl))
none_is_zero ((suc x) ∷ xs) h = ap (λ b. b || list_any (λ c. c == 0) xs) (eqb-suc-zero x) ∙ none_is_zero xs (λ w. h (suc w.0, omega (arith, w.1), w.2))

-- a name and its zero byte are read back
name_again : (name : List ℕ) → IsName name → name_in (name ++ 0 ∷ []) ≡ Ok name
unfolding name_in
name_again name h =
    let long : length (name ++ 0 ∷ []) - 1 ≡ length name = omega (arith, length-append name (0 ∷ [])) in
    let last : slice_index_or (name ++ 0 ∷ []) (length name) 0 ≡ 0 = get_or-append_seam name 0 [] 0 in
    let text : take (length name) (name ++ 0 ∷ []) ≡ name = take-append_seam name (0 ∷ []) in
    let clean : list_any (λ b. b == 0) name ≡ false = none_is_zero name h.no_zero in
    let short : nat_lt 255 (length name) ≡ false = le-ltb 255 (length name) h.short in
    rw (long, last, text, clean, short) refl

-- what fields and a name ask for is read back
named_again : (o u n i g p : ℕ) (widths values name : List ℕ) (asks : List ℕ → List ℕ → Body) → FitAll widths values → IsName name →
    by_fields_and_name widths asks (request o u n i g p (laid_out widths values ++ name_bytes name)) ≡ Ok (asks values name)
unfolding request
named_again o u n i g p widths values name asks fit is =
    let fields : List ℕ = laid_out widths values in
    let body : List ℕ = fields ++ name_bytes name in
    let before : List ℕ = laid_out in_header ((40 + length body) ∷ o ∷ u ∷ n ∷ i ∷ g ∷ p ∷ 0 ∷ []) in
    let wide : length (before ++ fields) ≡ 40 + sum widths = length-append before fields ∙ ap (λ n. 40 + n) (length-laid_out widths values fit) in
    let split : before ++ body ≡ (before ++ fields) ++ name_bytes name = sym (append_assoc before fields (name_bytes name)) in
    let behind : drop (40 + sum widths) (before ++ body) ≡ name_bytes name =
    ap (λ n. drop n (before ++ body)) (sym wide) ∙ ap (drop (length (before ++ fields))) split ∙ drop-append_seam (before ++ fields) (name_bytes name) in
    let same : values_at widths 40 (before ++ body) ≡ values = values_again widths values before (name_bytes name) fit in
    let there : (length (name_bytes name) == 0) ≡ false = ap (λ n. n == 0) (length-append name (0 ∷ []) ∙ omega arith) ∙ eqb-suc-zero (length name) in
    rw (behind, there, name_again name is) (ap (λ vs. Ok (asks vs name)) same)

-- the flags and the mode of a CREATE are read back
flags_again : (excl : Bool) → not (bit_and (if excl then 128 else 0) 128 == 0) ≡ excl
flags_again true = refl
flags_again false = refl

flags_fit : (excl : Bool) → (if excl then 128 else 0) < 2 ^ 32
flags_fit true = lit< tt
flags_fit false = lit< tt

mode_again : (mode : ℕ) → mode < 512 → bit_and mode 511 ≡ mode
mode_again mode small = and_mask mode 9 ∙ mod-eq_of_lt small

-- the mode of a MKDIR or a MKNOD is read back
made_mode_again : (opcode mode : ℕ) → slice_index (make_values opcode mode) 0 ≡ mode
made_mode_again opcode mode = go (opcode == 9)
  where
    go : (short : Bool) → slice_index (if short then mode ∷ 0 ∷ [] else mode ∷ 0 ∷ 0 ∷ 0 ∷ []) 0 ≡ mode
    go true = refl
    go false = refl

make_fits : (opcode mode : ℕ) → mode < 2 ^ 32 → FitAll (make_in opcode) (make_values opcode mode)
make_fits opcode mode small = go (opcode == 9)
  where
    go : (short : Bool)
        → FitAll (if short then 4 ∷ 4 ∷ [] else 4 ∷ 4 ∷ 4 ∷ 4 ∷ []) (if short then mode ∷ 0 ∷ [] else mode ∷ 0 ∷ 0 ∷ 0 ∷ [])
    go true = (small, (lit< tt, tt))
    go false = (small, (lit< tt, (lit< tt, (lit< tt, tt))))

lock_fits : (a : LockAsk) → FitsLock a → FitAll lk_in (lock_values a)
lock_fits a h = (h.fh, (h.owner, (h.start, (h.end, (h.kind, (h.pid, (h.flags, (lit< tt, tt))))))))

release_flags_again : (unlocks : Bool) → not (bit_and (if unlocks then 2 else 0) 2 == 0) ≡ unlocks
release_flags_again true = refl
release_flags_again false = refl

release_flags_fit : (unlocks : Bool) → (if unlocks then 2 else 0) < 2 ^ 32
release_flags_fit true = lit< tt
release_flags_fit false = lit< tt

-- a body is read back where it was laid out
body_again : (o u n i g p : ℕ) (body : Body) → o < 2 ^ 32 → FitsBody body
    → body_in (body_shape body) (request o u n i g p (body_bytes o body)) ≡ Ok body
body_again o u n i g p (body.Lock a) ho h =
    fields_again o u n i g p lk_in (lock_values a) (λ values. body.Lock (lock_of values)) (lock_fits a h)
body_again o u n i g p (body.Create excl mode name) ho h =
    let fit : FitAll create_in (create_values excl mode) = (flags_fit excl, (omega (arith, h.0), (lit< tt, (lit< tt, tt)))) in
    let flags = flags_again excl in
    let permissions = mode_again mode h.0 in
    named_again o u n i g p create_in (create_values excl mode) name create_of fit h.1 ∙ (λ k. Ok (body.Create (flags k) (permissions k) name))
body_again o u n i g p (body.Make mode name) ho h =
    let bytes : List ℕ = request o u n i g p (body_bytes o (body.Make mode name)) in
    let asks : List ℕ → List ℕ → Body = λ values name. body.Make (slice_index values 0) name in
    let named = named_again o u n i g p (make_in o) (make_values o mode) name asks (make_fits o mode h.0) h.1 in
    ap (λ opcode. by_fields_and_name (make_in opcode) asks bytes) (opcode_again o u n i g p (body_bytes o (body.Make mode name)) ho)
    ∙ named ∙ ap (λ n. Ok (body.Make n name)) (made_mode_again o mode)
body_again o u n i g p (body.Name name) ho h = named_again o u n i g p [] [] name (λ values name. body.Name name) tt h
body_again o u n i g p (body.Number x) ho h = fields_again o u n i g p forget_in (x ∷ []) (λ values. body.Number (slice_index values 0)) (h, tt)
body_again o u n i g p (body.Flush fh owner) ho h =
    fields_again o u n i g p flush_in (fh ∷ 0 ∷ 0 ∷ owner ∷ []) (λ values. body.Flush (slice_index values 0) (slice_index values 3))
    (h.0, (lit< tt, (lit< tt, (h.1, tt))))
body_again o u n i g p (body.Release fh unlocks owner) ho h =
    let flags = release_flags_again unlocks in
    fields_again o u n i g p release_in (release_values fh unlocks owner) release_of (h.0, (lit< tt, (release_flags_fit unlocks, (h.1, tt))))
    ∙ (λ k. Ok (body.Release fh (flags k) owner))
body_again o u n i g p body.Getattr ho h = fields_again o u n i g p getattr_in (0 ∷ 0 ∷ 0 ∷ []) (λ values. body.Getattr) (lit< tt, (lit< tt, (lit< tt, tt)))
body_again o u n i g p body.Open ho h = fields_again o u n i g p open_in (0 ∷ 0 ∷ []) (λ values. body.Open) (lit< tt, (lit< tt, tt))

-- an order is made of its parts
parts_made : (op : Op) → op_of (kind_of op) (body_of op) ≡ Some op
parts_made op = grind arith

-- its kind has the shape of its body
shape_made : (op : Op) → shape_for (kind_of op) ≡ Ok (body_shape (body_of op))
shape_made op = grind arith

opcode_fits : (kind : OpKind) → opcode_for kind < 2 ^ 32
opcode_fits kind = grind arith

opcode_finds : (kind : OpKind) → kind_of_opcode (opcode_for kind) ≡ Some kind
opcode_finds kind = grind arith

no_batch : (op : Op) → (opcode_for (kind_of op) == opcode_for BatchForget) ≡ false
no_batch op = grind arith

-- the message of an order says that order
pub said_again : (order : Order) → IsSayable order → said (message_of order) ≡ Ok order
said_again order h =
    let kind = kind_of order.op in
    let o = opcode_for kind in
    let bytes : List ℕ = message_of order in
    order_again bytes o order.unique order.node order.uid order.gid order.pid order.op
    (heads o order.unique order.node order.uid order.gid order.pid (body_bytes o (body_of order.op)) (opcode_fits kind) h.unique h.node h.uid h.gid h.pid)
    (no_batch order.op)
    (ap (λ k. asked k bytes) (opcode_finds kind)
    ∙ ap (λ s. asked_by kind s bytes) (shape_made order.op)
    ∙ ap (asked_with kind) (body_again o order.unique order.node order.uid order.gid order.pid (body_of order.op) (opcode_fits kind) h.op)
    ∙ ap (λ made. ok_or made (Answer ENOSYS)) (parts_made order.op))

pub reads_back : (bytes : List ℕ) (result : Result Order Refusal) → result ≡ said bytes → ReadsBack bytes result
reads_back bytes result e order fits same = e ∙ ap said same ∙ said_again order fits
