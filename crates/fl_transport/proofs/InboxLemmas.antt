-- A stream that is cut into messages: what is read, and what is taken of it.
use Rattle.std.proofs.Common.{◌≡◌, ℕ, ◌+◌, ◌-◌, ◌≤◌, Bool, true, false, nat_lt, if◌then◌else◌, List, [], ◌∷◌, ◌++◌}
use Rattle.std.proofs.Common.{length, take, drop, Option, refl, sym, zero, suc, ap, subst, ◌∙◌, arith}
use Rattle.std.proofs.Common.{append_assoc, append-nil, length-append, length-drop, length-take, take-add, drop-drop}
use Rattle.std.specs.List.{concat}
use Rattle.std.proofs.lemmas.List.{drop-take, same_from_push}
use Rattle.std.proofs.lemmas.List.Elements.{All-nil, All-push}
use Rattle.std.proofs.lemmas.List.Folds.{concat-append}
use Rattle.std.proofs.KnownBytes.{Consumes-nil, Consumes-trans, Consumes-kept, Keeps-refl}
use Rattle.std.specs.Io.KnownBytes.{Consumes, Keeps}
use Rattle.fl_wire.specs.Cut.{first_step}
use Rattle.fl_wire.specs.Frame.{IsMessage}
use Rattle.fl_wire.specs.Layout.{len_of}
use Rattle.fl_wire.specs.Stream.{IsCut}
use Rattle.fl_wire.specs.declared.cut.Step.TheVariants.{Whole, More, Bad}
use Rattle.fl_transport.specs.Inbox.{IsUnread, Inflow, ReadsOn, Takes}
use Rattle.fl_transport.specs.Ending.{IsRead}
use Rattle.fl_transport.specs.Handshake.{handshake_of}

-- one list more
concat_one : (messages : List (List ℕ)) (message : List ℕ)
    → concat (messages ++ message ∷ []) ≡ concat messages ++ message
concat_one messages message = concat-append messages (message ∷ [])
    ∙ ap (λ bytes. concat messages ++ bytes) (append-nil message)

-- nothing was read
pub nothing_read : (left left_now : Option (List ℕ)) → Keeps left left_now → IsRead left left_now [] []
nothing_read left left_now kept = record {
  read = [];
  consumed = Consumes-kept left left left_now [] (Consumes-nil left) kept;
  cut = record { parts = refl; whole = All-nil IsMessage };
  live = λ front last e. let none = ap length e in absurd (omega (arith, none, length-append front (last ∷ [])));
}

-- nothing was read yet
pub unread_first : (inbox : Inflow) → inbox.rest ≡ [] → IsUnread inbox
unread_first inbox empty = record
    { empty = empty; unread = λ left. rw empty (nothing_read left left (Keeps-refl left)) }

-- these bytes were read behind the rest
read_more : (before now : Option (List ℕ)) (rest bytes : List ℕ) → Consumes before now bytes
    → ReadsOn before now rest (rest ++ bytes)
read_more before now rest bytes more = record {
  onward = λ left messages is_read. record {
    read = is_read.read ++ bytes;
    consumed = Consumes-trans left before now is_read.read bytes is_read.consumed more;
    cut = record {
      parts = ap (λ xs. xs ++ bytes) is_read.cut.parts ∙ append_assoc _ rest bytes;
      whole = is_read.cut.whole;
    };
    live = is_read.live;
  };
}

-- n bytes were read behind the rest, which was moved to the front
pub reads_more : (before now : Option (List ℕ)) (rest buffer old new : List ℕ) (from m n : ℕ)
    → take m (drop from buffer) ≡ rest → old ≡ buffer → take m new ≡ take m (drop from old)
    → Consumes before now (take n (drop m new)) → ReadsOn before now rest (take (m + n - 0) new)
reads_more before now rest buffer old new from m n view same front more =
    let plain : m + n - 0 ≡ m + n = omega arith in
    let stays : take m new ≡ rest = front ∙ ap (λ xs. take m (drop from xs)) same ∙ view in
    let e : rest ++ take n (drop m new) ≡ take (m + n - 0) new =
    sym (ap (λ k. take k new) plain ∙ take-add m n new ∙ ap (λ xs. xs ++ take n (drop m new)) stays) in
    subst (ReadsOn before now rest) e (read_more before now rest (take n (drop m new)) more)

-- a beginning and what follows it
take_and_drop : (n : ℕ) (bytes : List ℕ) → take n bytes ++ drop (length (take n bytes)) bytes ≡ bytes
take_and_drop zero bytes = refl
take_and_drop (suc n) [] = refl
take_and_drop (suc n) (byte ∷ bytes) = ap (λ rest. byte ∷ rest) (take_and_drop n bytes)

-- a whole message is as long as its length says
whole_taken : (a b c d : Bool) (n : ℕ) (bytes message : List ℕ)
    → (if a then More else (if b then Bad n else (if c then Bad n else (if d then More else Whole (take n bytes))))) ≡
    Whole message → message ≡ take n bytes
whole_taken true b c d n bytes message e = cc
whole_taken false true c d n bytes message e = cc
whole_taken false false true d n bytes message e = cc
whole_taken false false false true n bytes message e = cc
whole_taken false false false false n bytes message e = cc

-- a message that is whole stands in front
pub whole_front : (bytes message : List ℕ) → first_step bytes ≡ Whole message
    → message ++ drop (length message) bytes ≡ bytes
whole_front bytes message e =
    let taken : message ≡ take (len_of bytes) bytes =
    whole_taken (nat_lt (length bytes) 4) (nat_lt (len_of bytes) 40) (nat_lt 8192 (len_of bytes))
    (nat_lt (length bytes) (len_of bytes)) (len_of bytes) bytes message e in
    rw taken (take_and_drop (len_of bytes) bytes)

-- the bytes are cut one message further
cut_more : (read : List ℕ) (messages : List (List ℕ)) (message rest rest_now : List ℕ) → IsCut read messages rest
    → IsMessage message → message ++ rest_now ≡ rest → IsCut read (messages ++ message ∷ []) rest_now
cut_more read messages message rest rest_now cut whole parts = record {
  parts = cut.parts ∙ ap (λ rest. concat messages ++ rest) (sym parts)
      ∙ sym (append_assoc (concat messages) message rest_now)
      ∙ ap (λ bytes. bytes ++ rest_now) (sym (concat_one messages message));
  whole = All-push IsMessage messages message cut.whole whole;
}

-- a message is taken
takes : (message rest rest_now : List ℕ) → IsMessage message → message ++ rest_now ≡ rest → Takes message rest rest_now
takes message rest rest_now whole parts = record {
  onward = λ left left_now messages over before. record {
    read = before.read;
    consumed = before.consumed;
    cut = cut_more before.read messages message rest rest_now before.cut whole parts;
    live = λ front last e. ap (λ front. (handshake_of front).over) (sym (same_from_push messages front message last e).0)
        ∙ over;
  };
}

-- what stands behind the message that stands first
pub drops_first : (buffer rest first : List ℕ) (from filled len : ℕ) → from ≤ filled → filled ≤ length buffer
    → take (filled - from) (drop from buffer) ≡ rest → first_step rest ≡ Whole first → length first ≡ len
    → take (filled - (from + len)) (drop (from + len) buffer) ≡ drop len rest
drops_first buffer rest first from filled len order within view step long =
    let all = ap length (whole_front rest first step) in
    let fits : from + len ≤ filled = omega (
      arith,
      all,
      long,
      length-append first (drop (length first) rest),
      ap length view,
      length-take (filled - from) (drop from buffer),
      length-drop from buffer,
    ) in
    let m = filled - (from + len) in
    let split : filled - from ≡ len + m = omega arith in
    sym (ap (drop len) (sym view) ∙ ap (λ k. drop len (take k (drop from buffer))) split
    ∙ drop-take len m (drop from buffer) ∙ ap (take m) (drop-drop len from buffer))

-- the message that stands first is taken
pub takes_first : (buffer rest first message : List ℕ) (from filled len : ℕ) → from ≤ filled → filled ≤ length buffer
    → take (filled - from) (drop from buffer) ≡ rest → first_step rest ≡ Whole first → length first ≡ len
    → first_step rest ≡ Whole message → IsMessage message
    → Takes message rest (take (filled - (from + len)) (drop (from + len) buffer))
takes_first buffer rest first message from filled len order within view at_first long step whole =
    let same : first ≡ message = cc in
    let n : length message ≡ len = ap length (sym same) ∙ long in
    let e : drop (length message) rest ≡ take (filled - (from + len)) (drop (from + len) buffer) =
    ap (λ k. drop k rest) n ∙ sym (drops_first buffer rest first from filled len order within view at_first long) in
    takes message rest (take (filled - (from + len)) (drop (from + len) buffer)) whole
    (ap (λ xs. message ++ xs) (sym e) ∙ whole_front rest message step)
