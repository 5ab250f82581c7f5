-- The message of a batch says its FORGETs.
use Rattle.std.proofs.Common.{◌≡◌, ℕ, ◌+◌, ◌*◌, ◌<◌, ◌^◌, ◌==◌, ◌&&◌, true, if◌then◌else◌, List, [], ◌∷◌, ◌++◌, length}
use Rattle.std.proofs.Common.{map, slice_index, Option, None, Some, refl, sym, ap, ◌∙◌, arith, lit<, append_assoc}
use Rattle.std.proofs.Common.{length-append}
use Rattle.std.specs.Prelude.{All}
use Rattle.std.specs.List.{range_with_len}
use Rattle.std.proofs.lemmas.Bool.Decides.{Decides-eqb}
use Rattle.std.proofs.lemmas.List.Elements.{All-head, All-tail}
use Rattle.fl_order.specs.OpKind.{opcode_for}
use Rattle.fl_order.specs.Sayable.{IsSayable}
use Rattle.fl_order.specs.declared.kind.OpKind.TheVariants.{BatchForget}
use Rattle.fl_order.specs.declared.order.Op.TheVariants.{Forget}
use Rattle.fl_order.specs.declared.order.Order.{Order}
use Rattle.fl_wire.proofs.Messages.{Heads, heads, FitAll, length-laid_out, values_again}
use Rattle.fl_wire.specs.Batch.{pairs_said, is_batch, forget_at, forgets_in, batch_in}
use Rattle.fl_wire.specs.Layout.{laid_out, values_at, in_header, batch_forget_in, forget_one}
use Rattle.fl_wire.specs.Message.{request, pair_bytes, batch_message, forgets_of, FitsPair, BatchReadsBack}

-- the numbers of a pair
abbrev numbers : ℕ × ℕ → List ℕ
numbers pair = pair.0 ∷ pair.1 ∷ []

pair_fits : (pair : ℕ × ℕ) → FitsPair pair → FitAll forget_one (numbers pair)
pair_fits pair fits = (fits.0, (fits.1, tt))

-- 16 bytes a pair
length-pair_bytes : (pairs : List (ℕ × ℕ)) → All FitsPair pairs → length (pair_bytes pairs) ≡ 16 * length pairs
length-pair_bytes [] fit = refl
length-pair_bytes (pair ∷ pairs) fit =
    let first : length (laid_out forget_one (numbers pair)) ≡ 16 =
    length-laid_out forget_one (numbers pair) (pair_fits pair (All-head FitsPair pair pairs fit)) in
    let rest : length (pair_bytes pairs) ≡ 16 * length pairs = length-pair_bytes pairs (All-tail FitsPair pair pairs fit) in
    let both = length-append (laid_out forget_one (numbers pair)) (pair_bytes pairs) in
    omega (arith, first, rest, both)

-- the pairs that were laid out behind other bytes are read back, from pair `k` on
pairs_again : (bytes before : List ℕ) (opcode : ℕ) (head : Order) (pairs : List (ℕ × ℕ)) (k : ℕ)
    → Heads bytes opcode head.unique head.node head.uid head.gid head.pid → All FitsPair pairs
    → bytes ≡ before ++ pair_bytes pairs → length before ≡ 48 + 16 * k
    → map (forget_at bytes) (range_with_len k (length pairs)) ≡ forgets_of head pairs
pairs_again bytes before opcode head [] k h fit is long = refl
pairs_again bytes before opcode head (pair ∷ pairs) k h fit is long =
    let one : List ℕ = laid_out forget_one (numbers pair) in
    let fits = pair_fits pair (All-head FitsPair pair pairs fit) in
    let values : values_at forget_one (48 + 16 * k) bytes ≡ numbers pair =
    ap (λ n. values_at forget_one n bytes) (sym long) ∙ ap (values_at forget_one (length before)) is
    ∙ values_again forget_one (numbers pair) before (pair_bytes pairs) fits in
    let first : forget_at bytes k ≡ record head { node = pair.0; op = Forget pair.1 } = λ i. record {
      unique = h.unique_is i;
      node = slice_index (values i) 0;
      uid = h.uid_is i;
      gid = h.gid_is i;
      pid = h.pid_is i;
      op = Forget (slice_index (values i) 1);
    } in
    let wide : length one ≡ 16 = length-laid_out forget_one (numbers pair) fits in
    let longer : length (before ++ one) ≡ 48 + 16 * (k + 1) = omega (arith, length-append before one, wide, long) in
    let rest = pairs_again bytes (before ++ one) opcode head pairs (k + 1) h (All-tail FitsPair pair pairs fit)
    (is ∙ sym (append_assoc before one (pair_bytes pairs))) longer in
    λ i. first i ∷ rest i

-- the message of a batch is its FORGETs
said_as_batch : (head : Order) (pairs : List (ℕ × ℕ)) → IsSayable head → All FitsPair pairs → length pairs < 2 ^ 32
    → batch_in (batch_message head pairs) ≡ Some (forgets_of head pairs)
unfolding request
said_as_batch head pairs say fit few =
    let count : List ℕ = laid_out batch_forget_in (length pairs ∷ 0 ∷ []) in
    let body : List ℕ = count ++ pair_bytes pairs in
    let code = opcode_for BatchForget in
    let front : List ℕ =
    laid_out in_header ((40 + length body) ∷ code ∷ head.unique ∷ head.node ∷ head.uid ∷ head.gid ∷ head.pid ∷ 0 ∷ []) in
    let bytes : List ℕ = front ++ body in
    let h = heads code head.unique head.node head.uid head.gid head.pid body (lit< tt) say.unique say.node say.uid say.gid say.pid in
    let said : pairs_said bytes ≡ length pairs =
    ap (λ values. slice_index values 0)
    (values_again batch_forget_in (length pairs ∷ 0 ∷ []) front (pair_bytes pairs) (few, (lit< tt, tt))) in
    let wide : length count ≡ 8 = length-laid_out batch_forget_in (length pairs ∷ 0 ∷ []) (few, (lit< tt, tt)) in
    let before : length (front ++ count) ≡ 48 + 16 * 0 = length-append front count ∙ omega (arith, wide) in
    let split : bytes ≡ (front ++ count) ++ pair_bytes pairs = sym (append_assoc front count (pair_bytes pairs)) in
    let long : length bytes ≡ 48 + 16 * pairs_said bytes = omega (
      arith,
      said,
      wide,
      length-append front body,
      length-append count (pair_bytes pairs),
      length-pair_bytes pairs fit,
    ) in
    let full : is_batch bytes ≡ true =
    ap (λ o. (o == code) && (length bytes == 48 + 16 * pairs_said bytes)) h.opcode_is
    ∙ (Decides-eqb (length bytes) (48 + 16 * pairs_said bytes)).1 long in
    ap (λ is. if is then Some (forgets_in bytes) else None) full
    ∙ ap (λ n. Some (map (forget_at bytes) (range_with_len 0 n))) said
    ∙ ap Some (pairs_again bytes (front ++ count) code head pairs 0 h fit split before)

pub batch_reads_back : (bytes : List ℕ) (result : Option (List Order)) → result ≡ batch_in bytes
    → BatchReadsBack bytes result
batch_reads_back bytes result e head pairs say fit few same = e ∙ ap batch_in same ∙ said_as_batch head pairs say fit few
