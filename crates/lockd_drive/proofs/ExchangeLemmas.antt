-- Replies that are read and printed, one after another.
use Rattle.std.proofs.Common.{◌≡◌, ◌≢◌, ℕ, ◌+◌, ◌<◌, ◌≤◌, List, [], ◌∷◌, ◌++◌, length, map, take, drop}
use Rattle.std.proofs.Common.{take-append-drop, get_or, refl, sym, ap, subst, ◌∙◌, arith, append_assoc, append-nil}
use Rattle.std.proofs.Common.{length-append, Option, Result, Ok, Err, OnOk, IfErr}
use Rattle.std.proofs.KnownBytes.{Appends-nil, Appends-trans, Consumes-nil, Consumes-trans}
use Rattle.std.proofs.lemmas.Grind.{flat_map-append}
use Rattle.std.proofs.lemmas.List.{map-append, take_more}
use Rattle.std.proofs.lemmas.List.Elements.{All-append, All-cons, All-nil}
use Rattle.std.proofs.lemmas.List.Folds.{concat-append}
use Rattle.std.proofs.lemmas.List.Sums.{sum_by-append, sum_by-cons}
use Rattle.std.specs.Io.KnownBytes.{Appends, Consumes}
use Rattle.std.specs.List.{concat}
use Rattle.hex.specs.Hex.{encode_lower}
use Rattle.lockd_drive.specs.Drive.{Said, Sends, Waits, awaited, awaited_by, IsFramed}
use Rattle.lockd_drive.specs.Drive.Inside.{said_by, sent, sent_by, HasReceived, HasFallenShort, HasDone, HasStopped}
use Rattle.lockd_drive.specs.Drive.Inside.{IsStopped, IsWhy, HasBegun}
use Rattle.lockd_faults.specs.Faults.{IsBegun}
use Rattle.lockd_faults.specs.HexLines.{hex_lines}
use Rattle.lockd_drive.specs.declared.actions.Action.{Action}
use Rattle.lockd_faults.specs.declared.fault.CommandFault.{CommandFault}
use Rattle.lockd_faults.specs.declared.fault.CommandFault.TheVariants.{NoMemory, Write}

-- nothing yet
pub received_none : (left old : Option (List ℕ)) → HasReceived 0 [] left left old old
received_none left old = record {
  replies = [];
  framed = All-nil IsFramed;
  number = refl;
  read = Consumes-nil left;
  written = Appends-nil old;
}

-- some more behind replies behind which nothing was read
pub received_more : (m n : ℕ) (behind : List ℕ) (left left_now left_later old new newer : Option (List ℕ))
    → HasReceived m [] left left_now old new → HasReceived n behind left_now left_later new newer
    → HasReceived (m + n) behind left left_later old newer
received_more m n behind left left_now left_later old new newer a b =
    let together : (concat a.replies ++ []) ++ (concat b.replies ++ behind) ≡ concat (a.replies ++ b.replies) ++ behind =
    simp (append-nil, append_assoc, concat-append) in
    let lines : hex_lines a.replies ++ hex_lines b.replies ≡ hex_lines (a.replies ++ b.replies) =
    sym (flat_map-append (λ reply. encode_lower reply ++ 10 ∷ []) a.replies b.replies) in
    record {
      replies = a.replies ++ b.replies;
      framed = All-append IsFramed a.replies b.replies a.framed b.framed;
      number = length-append a.replies b.replies ∙ ap (λ k. k + length b.replies) a.number ∙ ap (λ k. m + k) b.number;
      read = subst (Consumes left left_later) together (Consumes-trans left left_now left_later _ _ a.read b.read);
      written = subst (Appends old newer) lines (Appends-trans old new newer _ _ a.written b.written);
    }

-- one reply
pub received_one : (reply : List ℕ) (left left_now old new : Option (List ℕ)) → IsFramed reply
    → Consumes left left_now reply → Appends old new (encode_lower reply ++ 10 ∷ [])
    → HasReceived 1 [] left left_now old new
received_one reply left left_now old new framed read written =
    let bytes : reply ≡ concat (reply ∷ []) ++ [] = simp (append-nil) in
    let line : encode_lower reply ++ 10 ∷ [] ≡ hex_lines (reply ∷ []) = sym (append-nil (encode_lower reply ++ 10 ∷ [])) in
    record {
      replies = reply ∷ [];
      framed = All-cons IsFramed reply [] framed (All-nil IsFramed);
      number = refl;
      read = subst (Consumes left left_now) bytes read;
      written = subst (Appends old new) line written;
    }

-- one reply, if its line was written
pub printed_one : (r : Result Unit CommandFault) (reply line : List ℕ) (left left_now old new : Option (List ℕ))
    → IsFramed reply → Consumes left left_now reply → line ≡ encode_lower reply ++ 10 ∷ []
    → OnOk r (Appends old new line) → OnOk r (HasReceived 1 [] left left_now old new)
printed_one (Ok done) reply line left left_now old new framed read is written =
    received_one reply left left_now old new framed read (subst (Appends old new) is written)
printed_one (Err fault) reply line left left_now old new framed read is written = tt

-- no reply, and what was read
pub fallen_short : (fault : CommandFault) (left left_now old : Option (List ℕ)) → IsStopped fault left left_now
    → fault ≢ Write → HasFallenShort 1 fault left left_now old old
fallen_short fault left left_now old s other = record {
  got = 0;
  behind = s.behind;
  fewer = omega arith;
  received = record {
    replies = [];
    framed = All-nil IsFramed;
    number = refl;
    read = s.read;
    written = Appends-nil old;
  };
  why = s.why;
}

-- m replies came, and the next of n didn't
pub short_after : (m n : ℕ) (fault : CommandFault) (left left_now left_later old new newer : Option (List ℕ))
    → HasReceived m [] left left_now old new → (fault ≢ Write → HasFallenShort 1 fault left_now left_later new newer)
    → m < n → fault ≢ Write → HasFallenShort n fault left left_later old newer
short_after m n fault left left_now left_later old new newer a stop below other =
    let b = stop other in
    record {
      got = m + b.got;
      behind = b.behind;
      fewer = let none = b.fewer in omega arith;
      received = received_more m b.got b.behind left left_now left_later old new newer a b.received;
      why = b.why;
    }

-- nothing is said
pub done_none : (left held old : Option (List ℕ)) → HasDone [] left left held held old old
done_none left held old = record { sent_all = Appends-nil held; received = received_none left old }

-- one line more, which sends
pub done_sending : (lines : List Said) (bytes : List ℕ) (left left_now held held_now held_later old new : Option (List ℕ))
    → HasDone lines left left_now held held_now old new → Appends held_now held_later bytes
    → HasDone (lines ++ Sends bytes ∷ []) left left_now held held_later old new
done_sending lines bytes left left_now held held_now held_later old new d written =
    let all : sent_by lines ++ bytes ≡ sent_by (lines ++ Sends bytes ∷ []) =
    ap (λ l. sent_by lines ++ l) (sym (append-nil bytes)) ∙ sym (flat_map-append sent lines (Sends bytes ∷ [])) in
    let count : awaited_by lines ≡ awaited_by (lines ++ Sends bytes ∷ []) =
    omega (arith, sum_by-append awaited lines (Sends bytes ∷ [])) in
    record {
      sent_all = subst (Appends held held_later) all (Appends-trans held held_now held_later _ _ d.sent_all written);
      received = subst (λ n. HasReceived n [] left left_now old new) count d.received;
    }

-- one line more, which waits
pub done_waiting : (lines : List Said) (count : ℕ) (left left_now left_later held held_now old new newer : Option (List ℕ))
    → HasDone lines left left_now held held_now old new → HasReceived count [] left_now left_later new newer
    → HasDone (lines ++ Waits count ∷ []) left left_later held held_now old newer
done_waiting lines count left left_now left_later held held_now old new newer d more =
    let all : sent_by lines ≡ sent_by (lines ++ Waits count ∷ []) =
    sym (append-nil (sent_by lines)) ∙ sym (flat_map-append sent lines (Waits count ∷ [])) in
    let number : awaited_by lines + count ≡ awaited_by (lines ++ Waits count ∷ []) =
    omega (arith, sum_by-append awaited lines (Waits count ∷ [])) in
    record {
      sent_all = subst (Appends held held_now) all d.sent_all;
      received = subst (λ n. HasReceived n [] left left_later old newer) number
          (received_more (awaited_by lines) count [] left left_now left_later old new newer d.received more);
    }

-- a whole reply that isn't printed, since memory ran out
pub unprinted : (reply : List ℕ) (fault : CommandFault) (left left_now old : Option (List ℕ)) → Consumes left left_now reply
    → fault ≡ NoMemory → fault ≢ Write → HasFallenShort 1 fault left left_now old old
unprinted reply fault left left_now old read e =
    fallen_short fault left left_now old
    (record { behind = reply; read = read; why = subst (λ f. IsWhy f reply left_now) (sym e) tt })

-- one action more, as what lines say
pub more_said : (actions : List Action) (i : ℕ) (action : Action) → i < length actions → action ≡ get_or actions i action
    → map said_by (take (i + 1) actions) ≡ map said_by (take i actions) ++ said_by action ∷ []
more_said actions i action below at =
    rw (take_more actions i action below, map-append, ← at) refl

-- a action among all
pub action_parts : (actions : List Action) (i : ℕ) (action : Action) → i < length actions → action ≡ get_or actions i action
    → map said_by actions ≡ map said_by (take i actions) ++ said_by action ∷ map said_by (drop (i + 1) actions)
action_parts actions i action below at =
    ap (map said_by) (sym (take-append-drop (i + 1) actions))
    ∙ map-append said_by (take (i + 1) actions) (drop (i + 1) actions)
    ∙ ap (λ l. l ++ map said_by (drop (i + 1) actions)) (more_said actions i action below at)
    ∙ append_assoc (map said_by (take i actions)) (said_by action ∷ []) (map said_by (drop (i + 1) actions))

-- a action that sends
pub action_sends : (actions : List Action) (i : ℕ) (action : Action) (bytes : List ℕ)
    (left left_now held held_now held_later old new : Option (List ℕ)) → i < length actions → action ≡ get_or actions i action
    → said_by action ≡ Sends bytes → HasDone (map said_by (take i actions)) left left_now held held_now old new
    → Appends held_now held_later bytes → HasDone (map said_by (take (i + 1) actions)) left left_now held held_later old new
action_sends actions i action bytes left left_now held held_now held_later old new below at says done written =
    let lines : map said_by (take (i + 1) actions) ≡ map said_by (take i actions) ++ Sends bytes ∷ [] =
    more_said actions i action below at ∙ ap (λ said. map said_by (take i actions) ++ said ∷ []) says in
    subst (λ lines. HasDone lines left left_now held held_later old new) (sym lines)
    (done_sending (map said_by (take i actions)) bytes left left_now held held_now held_later old new done written)

-- a action that waits
pub action_waits : (actions : List Action) (i : ℕ) (action : Action) (count : ℕ)
    (left left_now left_later held held_now old new newer : Option (List ℕ)) → i < length actions
    → action ≡ get_or actions i action → said_by action ≡ Waits count
    → HasDone (map said_by (take i actions)) left left_now held held_now old new
    → HasReceived count [] left_now left_later new newer
    → HasDone (map said_by (take (i + 1) actions)) left left_later held held_now old newer
action_waits actions i action count left left_now left_later held held_now old new newer below at says done more =
    let lines : map said_by (take (i + 1) actions) ≡ map said_by (take i actions) ++ Waits count ∷ [] =
    more_said actions i action below at ∙ ap (λ said. map said_by (take i actions) ++ said ∷ []) says in
    subst (λ lines. HasDone lines left left_later held held_now old newer) (sym lines)
    (done_waiting (map said_by (take i actions)) count left left_now left_later held held_now old new newer done more)

-- a action that waits for replies that don't all come
pub action_stops : (actions : List Action) (i : ℕ) (action : Action) (count : ℕ) (fault : CommandFault)
    (left left_now left_later held held_now old new newer : Option (List ℕ)) → i < length actions
    → action ≡ get_or actions i action → said_by action ≡ Waits count
    → HasDone (map said_by (take i actions)) left left_now held held_now old new
    → (fault ≢ Write → HasFallenShort count fault left_now left_later new newer)
    → fault ≢ Write → HasStopped (map said_by actions) fault left left_later held held_now old newer
action_stops actions i action count fault left left_now left_later held held_now old new newer below at says d stop other =
    let short = stop other in
    let before = map said_by (take i actions) in
    let later = map said_by (drop (i + 1) actions) in
    record {
      done = before;
      count = count;
      later = later;
      got = short.got;
      behind = short.behind;
      parts = action_parts actions i action below at ∙ ap (λ said. before ++ said ∷ later) says;
      fewer = short.fewer;
      sent_some = d.sent_all;
      received = received_more (awaited_by before) short.got short.behind left left_now left_later old new newer
          d.received short.received;
      why = short.why;
    }

-- nothing was printed of what was read
pub begun_none : (n : ℕ) (behind : List ℕ) (left left_now old : Option (List ℕ)) → Consumes left left_now behind
    → HasBegun n left left_now old old
begun_none n behind left left_now old read = record {
  replies = [];
  behind = behind;
  framed = All-nil IsFramed;
  most = omega arith;
  read = read;
  begun = record { part = []; rest = []; parts = refl; written = Appends-nil old };
}

-- a beginning of the line of one reply was printed
begun_one : (reply line : List ℕ) (left left_now old new : Option (List ℕ)) → IsFramed reply
    → Consumes left left_now reply → line ≡ encode_lower reply ++ 10 ∷ [] → IsBegun line old new
    → HasBegun 1 left left_now old new
begun_one reply line left left_now old new framed read is begun =
    let bytes : reply ≡ concat (reply ∷ []) ++ [] = simp (append-nil) in
    let lines : line ≡ hex_lines (reply ∷ []) = is ∙ sym (append-nil (encode_lower reply ++ 10 ∷ [])) in
    record {
      replies = reply ∷ [];
      behind = [];
      framed = All-cons IsFramed reply [] framed (All-nil IsFramed);
      most = omega arith;
      read = subst (Consumes left left_now) bytes read;
      begun = subst (λ lines. IsBegun lines old new) lines begun;
    }

pub begun_line : (r : Result Unit CommandFault) (reply line : List ℕ) (left left_now old new : Option (List ℕ))
    → IsFramed reply → Consumes left left_now reply → line ≡ encode_lower reply ++ 10 ∷ [] → IsBegun line old new
    → IfErr r (λ _. HasBegun 1 left left_now old new)
begun_line (Ok done) reply line left left_now old new framed read is begun = tt
begun_line (Err fault) reply line left left_now old new framed read is begun =
    begun_one reply line left left_now old new framed read is begun

-- and m replies were printed before
pub begun_after : (m n most : ℕ) (left left_now left_later old new newer : Option (List ℕ))
    → HasReceived m [] left left_now old new → HasBegun n left_now left_later new newer → m + n ≤ most
    → HasBegun most left left_later old newer
begun_after m n most left left_now left_later old new newer a b few =
    let together : (concat a.replies ++ []) ++ (concat b.replies ++ b.behind) ≡ concat (a.replies ++ b.replies) ++ b.behind =
    simp (append-nil, append_assoc, concat-append) in
    let lines : hex_lines (a.replies ++ b.replies) ≡ hex_lines a.replies ++ hex_lines b.replies =
    flat_map-append (λ reply. encode_lower reply ++ 10 ∷ []) a.replies b.replies in
    let count = a.number in
    let more = b.most in
    record {
      replies = a.replies ++ b.replies;
      behind = b.behind;
      framed = All-append IsFramed a.replies b.replies a.framed b.framed;
      most = omega (arith, length-append a.replies b.replies);
      read = subst (Consumes left left_later) together (Consumes-trans left left_now left_later _ _ a.read b.read);
      begun = record {
        part = hex_lines a.replies ++ b.begun.part;
        rest = b.begun.rest;
        parts = lines ∙ ap (λ l. hex_lines a.replies ++ l) b.begun.parts
            ∙ sym (append_assoc (hex_lines a.replies) b.begun.part b.begun.rest);
        written = Appends-trans old new newer _ _ a.written b.begun.written;
      };
    }

-- how many replies are waited for by an action, and before it, is no more than by all
awaited_before : (actions : List Action) (i : ℕ) (action : Action) → i < length actions → action ≡ get_or actions i action
    → awaited_by (map said_by (take i actions)) + awaited (said_by action) ≤ awaited_by (map said_by actions)
awaited_before actions i action below at =
    let before = map said_by (take i actions) in
    let later = map said_by (drop (i + 1) actions) in
    let sum : awaited_by (map said_by actions) ≡ awaited_by before + awaited_by (said_by action ∷ later) =
    ap awaited_by (action_parts actions i action below at) ∙ sum_by-append awaited before (said_by action ∷ later) in
    omega (arith, sum, sum_by-cons awaited (said_by action) later)

-- an action couldn't be sent
pub action_unsent : (actions : List Action) (i : ℕ) (action : Action)
    (left left_now held held_now old new : Option (List ℕ)) → i < length actions → action ≡ get_or actions i action
    → HasDone (map said_by (take i actions)) left left_now held held_now old new
    → HasBegun (awaited_by (map said_by actions)) left left_now old new
action_unsent actions i action left left_now held held_now old new below at d =
    let few = awaited_before actions i action below at in
    begun_after (awaited_by (map said_by (take i actions))) 0 (awaited_by (map said_by actions)) left left_now left_now
    old new new d.received (begun_none 0 [] left_now left_now new (Consumes-nil left_now)) (omega arith)

-- not all replies were printed that an action waits for
pub action_unprinted : (actions : List Action) (i : ℕ) (action : Action) (count : ℕ)
    (left left_now left_later held held_now old new newer : Option (List ℕ)) → i < length actions
    → action ≡ get_or actions i action → said_by action ≡ Waits count
    → HasDone (map said_by (take i actions)) left left_now held held_now old new
    → HasBegun count left_now left_later new newer
    → HasBegun (awaited_by (map said_by actions)) left left_later old newer
action_unprinted actions i action count left left_now left_later held held_now old new newer below at says d begun =
    let few = awaited_before actions i action below at in
    let own : awaited (said_by action) ≡ count = ap awaited says in
    begun_after (awaited_by (map said_by (take i actions))) count (awaited_by (map said_by actions)) left left_now left_later
    old new newer d.received begun (omega arith)
