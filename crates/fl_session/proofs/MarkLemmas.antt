-- A message with a mark says what it says without it.
use Rattle.std.proofs.Common.{◌≡◌, ℕ, ◌+◌, ◌*◌, ◌-◌, ◌≤◌, Bool, true, false, List, [], ◌∷◌, length, drop, map, Option, None, Some}
use Rattle.std.proofs.Common.{refl, sym, ap, ◌∙◌, arith}
use Rattle.std.specs.Prelude.{◌^◌, ◌&&◌, ◌==◌, not, if◌then◌else◌, nat_le, slice_index, Result, Ok, Err}
use Rattle.std.proofs.Math.Seq.{drop-append-add}
use Rattle.std.proofs.lemmas.Bool.{le-leb}
use Rattle.fl_order.specs.OpKind.{kind_of_opcode, shape_for}
use Rattle.fl_order.specs.declared.body.Body.TheVariants as body
use Rattle.fl_order.specs.declared.body.Shape.{Shape}
use Rattle.fl_order.specs.declared.body.Shape.TheVariants as shape
use Rattle.fl_order.specs.declared.errno.Errno.{Errno}
use Rattle.fl_order.specs.declared.errno.Errno.TheVariants.{ENOSYS}
use Rattle.fl_order.specs.declared.kind.OpKind.{OpKind}
use Rattle.fl_order.specs.declared.order.Op.{Op}
use Rattle.fl_order.specs.declared.order.Op.TheVariants.{Forget}
use Rattle.fl_order.specs.declared.refusal.Refusal.{Refusal}
use Rattle.fl_order.specs.declared.refusal.Refusal.TheVariants.{Answer, Silent, Batch, Destroy}
use Rattle.fl_session.specs.Again.{incoming_under, order_under, response_under, unmarked}
use Rattle.fl_session.specs.Known.{with_mark}
use Rattle.fl_session.specs.Once.{SaysTheSame}
use Rattle.fl_transport.specs.Handshake.{incoming_by, refused, says_destroy}
use Rattle.fl_transport.specs.declared.handshake.Incoming.TheVariants as incoming
use Rattle.fl_wire.specs.Batch.{forget_at, is_batch}
use Rattle.fl_wire.specs.Body.{by_fields_and_name}
use Rattle.fl_wire.specs.Layout.{mkdir_in, mknod_in, number_at, opcode_of, unique_of}
use Rattle.fl_wire.specs.Says.{asked, asked_by, asked_with, body_in, order_of, said}
use Rattle.fl_wire.specs.Whole.{is_for_whole, whole_ask}
use Rattle.fl_wire.specs.declared.whole.WholeAsk.{WholeAsk}

-- the first bytes of a header, up to the last of its unique
record Front : Type 0 where
  a : ℕ
  b : ℕ
  c : ℕ
  d : ℕ
  e : ℕ
  f : ℕ
  g : ℕ
  h : ℕ
  i : ℕ
  j : ℕ
  k : ℕ
  l : ℕ
  m : ℕ
  n : ℕ
  o : ℕ
  p : ℕ

abbrev plain : Front → List ℕ → List ℕ
plain x rest =
    x.a ∷ x.b ∷ x.c ∷ x.d ∷ x.e ∷ x.f ∷ x.g ∷ x.h ∷ x.i ∷ x.j ∷ x.k ∷ x.l ∷ x.m ∷ x.n ∷ x.o ∷ x.p ∷ rest

-- with bit 7 of the last of these set
abbrev raised : Front → Front
raised x = record x { p = x.p + 128 }

abbrev marked : Front → List ℕ → List ℕ
marked x rest = plain (raised x) rest

-- ---- the unique

higher : (x : Front) (rest : List ℕ) → unique_of (marked x rest) ≡ unique_of (plain x rest) + 2 ^ 63
unfolding number_at
higher x rest = omega arith

mark_of : (u v : ℕ) → u ≡ v + 2 ^ 63 → unmarked true u ≡ Some v
mark_of u v e =
    let over : nat_le (2 ^ 63) u ≡ true = le-leb (2 ^ 63) u (omega (arith, e)) in
    let less : u - 2 ^ 63 ≡ v = omega (arith, e) in
    rw (over, less) refl

-- ---- what stands behind it

behind_front : (x : Front) (rest : List ℕ) (width n : ℕ)
    → number_at width (16 + n) (plain x rest) ≡ number_at width 0 (drop n rest)
unfolding number_at
behind_front x rest width n = ap (number_at width 0) (drop-append-add (plain x []) rest n)

same_behind : (x : Front) (rest : List ℕ) (width n at : ℕ) → at ≡ 16 + n
    → number_at width at (marked x rest) ≡ number_at width at (plain x rest)
same_behind x rest width n at e =
    ap (λ k. number_at width k (marked x rest)) e ∙ behind_front (raised x) rest width n ∙ sym (behind_front x rest width n)
    ∙ ap (λ k. number_at width k (plain x rest)) (sym e)

forget_same : (x : Front) (rest : List ℕ) (place : ℕ)
    → order_under (unique_of (plain x rest)) (forget_at (marked x rest) place) ≡ forget_at (plain x rest) place
unfolding number_at
forget_same x rest place = λ t. record (forget_at (plain x rest) place) {
  node = same_behind x rest 8 (32 + 16 * place) (48 + 16 * place) (omega arith) t;
  op = Forget (same_behind x rest 8 (40 + 16 * place) (48 + 16 * place + 8) (omega arith) t);
}

forgets_same : (x : Front) (rest : List ℕ) (places : List ℕ)
    → map (order_under (unique_of (plain x rest))) (map (forget_at (marked x rest)) places)
    ≡ map (forget_at (plain x rest)) places
forgets_same x rest [] = refl
forgets_same x rest (place ∷ places) = λ t. forget_same x rest place t ∷ forgets_same x rest places t

-- the same of the body of a MKDIR or a MKNOD
make_same : (x : Front) (rest : List ℕ) (short : Bool)
    → by_fields_and_name (if short then mkdir_in else mknod_in) (λ values name. body.Make (slice_index values 0) name) (marked x rest)
    ≡ by_fields_and_name (if short then mkdir_in else mknod_in) (λ values name. body.Make (slice_index values 0) name) (plain x rest)
unfolding number_at
make_same x rest true = refl
make_same x rest false = refl

body_same : (x : Front) (rest : List ℕ) (s : Shape) → body_in s (marked x rest) ≡ body_in s (plain x rest)
unfolding number_at
body_same x rest shape.Lock = refl
body_same x rest shape.Create = refl
body_same x rest shape.Make = make_same x rest (opcode_of (plain x rest) == 9)
body_same x rest shape.Name = refl
body_same x rest shape.Number = refl
body_same x rest shape.Flush = refl
body_same x rest shape.Release = refl
body_same x rest shape.Getattr = refl
body_same x rest shape.Open = refl

by_same : (x : Front) (rest : List ℕ) (kind : OpKind) (s : Result Shape Refusal)
    → asked_by kind s (marked x rest) ≡ asked_by kind s (plain x rest)
by_same x rest kind (Ok s) = ap (asked_with kind) (body_same x rest s)
by_same x rest kind (Err refusal) = refl

asked_same : (x : Front) (rest : List ℕ) (kind : Option OpKind) → asked kind (marked x rest) ≡ asked kind (plain x rest)
asked_same x rest None = refl
asked_same x rest (Some kind) = by_same x rest kind (shape_for kind)

opcode_same : (x : Front) (rest : List ℕ) → opcode_of (marked x rest) ≡ opcode_of (plain x rest)
unfolding number_at
opcode_same x rest = refl

batch_same : (x : Front) (rest : List ℕ) → is_batch (marked x rest) ≡ is_batch (plain x rest)
unfolding number_at
batch_same x rest = refl

-- ---- what it asks of a whole session

ask_same : (x : Front) (rest : List ℕ) → whole_ask (marked x rest) ≡ whole_ask (plain x rest)
unfolding number_at
ask_same x rest = refl

refused_same : (m n : List ℕ) (e : Errno) (asked : Option WholeAsk)
    → response_under (unique_of n) (refused m e asked) ≡ refused n e asked
refused_same m n e None = refl
refused_same m n e (Some asked) = refl

for_same : (x : Front) (rest : List ℕ) → is_for_whole (marked x rest) ≡ is_for_whole (plain x rest)
unfolding number_at
for_same x rest = refl

-- ---- what it says

abbrev op_in : Front → List ℕ → Result Op Refusal
op_in x rest = asked (kind_of_opcode (opcode_of (plain x rest))) (plain x rest)

said_as : (x : Front) (rest : List ℕ)
    → said (marked x rest) ≡ (if is_batch (plain x rest) then Err Batch else order_of (marked x rest) (op_in x rest))
said_as x rest =
    (λ t. if batch_same x rest t then Err Batch
    else order_of (marked x rest) (asked (kind_of_opcode (opcode_same x rest t)) (marked x rest)))
    ∙ ap (λ op. if is_batch (plain x rest) then Err Batch else order_of (marked x rest) op)
    (asked_same x rest (kind_of_opcode (opcode_of (plain x rest))))

says_by : (x : Front) (rest : List ℕ) (batch : Bool) (op : Result Op Refusal)
    → incoming_under (unique_of (plain x rest)) (incoming_by (marked x rest) (if batch then Err Batch else order_of (marked x rest) op))
    ≡ incoming_by (plain x rest) (if batch then Err Batch else order_of (plain x rest) op)
unfolding number_at
says_by x rest true op = ap incoming.Batch (forgets_same x rest _)
says_by x rest false (Ok op) = refl
says_by x rest false (Err (Answer e)) =
    ap (λ asked. incoming.Response (response_under (unique_of (plain x rest)) (refused (marked x rest) e asked))) (ask_same x rest)
    ∙ ap incoming.Response (refused_same (marked x rest) (plain x rest) e (whole_ask (plain x rest)))
says_by x rest false (Err Silent) = refl
says_by x rest false (Err Batch) = ap incoming.Batch (forgets_same x rest _)
says_by x rest false (Err Destroy) = refl

-- what it says to a session to which the message is none that it knows, or says this
says_to : (x : Front) (rest : List ℕ) (unknown : Bool)
    → incoming_under (unique_of (plain x rest))
    (incoming_by (marked x rest) (if unknown then Err (Answer ENOSYS) else said (marked x rest)))
    ≡ incoming_by (plain x rest) (if unknown then Err (Answer ENOSYS) else said (plain x rest))
says_to x rest true = says_by x rest false (Err (Answer ENOSYS))
says_to x rest false =
    ap (λ says. incoming_under (unique_of (plain x rest)) (incoming_by (marked x rest) says)) (said_as x rest)
    ∙ says_by x rest (is_batch (plain x rest)) (op_in x rest)

ends_by : (x : Front) (rest : List ℕ) (batch : Bool) (op : Result Op Refusal)
    → says_destroy (if batch then Err Batch else order_of (marked x rest) op)
    ≡ says_destroy (if batch then Err Batch else order_of (plain x rest) op)
ends_by x rest true op = refl
ends_by x rest false (Ok op) = refl
ends_by x rest false (Err refusal) = refl

front_same : (x : Front) (rest : List ℕ) → SaysTheSame (plain x rest) (marked x rest)
front_same x rest = record {
  mark = mark_of (unique_of (marked x rest)) (unique_of (plain x rest)) (higher x rest);
  says = λ whole.
      ap (λ is. incoming_under (unique_of (plain x rest))
      (incoming_by (marked x rest) (if not whole && is then Err (Answer ENOSYS) else said (marked x rest)))) (for_same x rest)
      ∙ says_to x rest (not whole && is_for_whole (plain x rest));
  ends = ap says_destroy (said_as x rest) ∙ ends_by x rest (is_batch (plain x rest)) (op_in x rest);
}

pub marked_same : (message : List ℕ) → 16 ≤ length message → SaysTheSame message (with_mark message)
marked_same (a ∷ b ∷ c ∷ d ∷ e ∷ f ∷ g ∷ h ∷ i ∷ j ∷ k ∷ l ∷ m ∷ n ∷ o ∷ p ∷ rest) long = front_same (record {
  a = a;
  b = b;
  c = c;
  d = d;
  e = e;
  f = f;
  g = g;
  h = h;
  i = i;
  j = j;
  k = k;
  l = l;
  m = m;
  n = n;
  o = o;
  p = p;
}) rest
marked_same message long = absurd (omega (arith, long))
