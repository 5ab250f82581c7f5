-- Replies, cut apart by the length that each says itself.
use Rattle.std.proofs.Common.{◌≡◌, ℕ, ◌<◌, ◌≤◌, Bool, false, List, [], ◌∷◌, ◌++◌, length, take, drop, refl, sym, ap}
use Rattle.std.proofs.Common.{subst, ◌∙◌, arith, append_assoc, append-nil, length-append, All, Some}
use Rattle.std.proofs.lemmas.Grind.{flat_map-append}
use Rattle.std.proofs.lemmas.List.{take_at, drop_at}
use Rattle.std.proofs.lemmas.List.Elements.{All-head, All-tail}
use Rattle.std.specs.List.{concat}
use Rattle.byteorder.specs.Endian.{little_from}
use Rattle.byteorder.specs.Numbers.{little_from-take}
use Rattle.hex.specs.Hex.{encode_lower}
use Rattle.fl_wire.specs.Layout.{len_of, number_at}
use Rattle.lockd_commands.specs.Bytes.{IsSession}
use Rattle.lockd_commands.specs.Bytes.Inside.{AreReplies}
use Rattle.lockd_faults.specs.HexLines.{hex_lines}
use Rattle.fl_session.specs.Served.{IsServed}
use Rattle.fl_transport.specs.Streams.{Streams}
use Rattle.fl_wire.specs.Spell.{IsReply}
use Rattle.fl_session.specs.declared.done.Done.{Done}
use Rattle.fl_session.specs.Session.{session_of}
use Rattle.fl_waiting.specs.declared.rules.Rules.{Rules}

-- the length stands in the first four bytes
len-append : (xs ys : List ℕ) → 4 ≤ length xs → len_of (xs ++ ys) ≡ len_of xs
unfolding number_at
len-append xs ys long = sym (little_from-take 0 4 (length xs) (xs ++ ys) long)
    ∙ ap (little_from 0 4) (take_at xs ys (length xs) refl)

-- the first of the replies were told as lines, and the bytes of the others are left
pub record IsToldSoFar (replies : List (List ℕ)) (rest lines : List ℕ) : Type 0 where
  pub told : List (List ℕ)
  pub untold : List (List ℕ)
  pub parts : replies ≡ told ++ untold
  pub left : rest ≡ concat untold
  pub framed : All IsReply untold
  pub lines_are : lines ≡ hex_lines told

-- what stands first in the bytes is the first reply
record IsFirst (reply later first after : List ℕ) : Type 0 where
  reply_is : first ≡ reply
  rest_is : after ≡ later

first_is : (reply later first after : List ℕ) → IsReply reply → first ++ after ≡ reply ++ later
    → length first ≡ len_of (first ++ after) → IsFirst reply later first after
first_is reply later first after is same said =
    let own : len_of (first ++ after) ≡ len_of reply = ap len_of same
    ∙ len-append reply later (omega (arith, is.header)) in
    let long : length reply ≡ length first = sym (said ∙ own ∙ is.whole) in
    record {
      reply_is = sym (take_at first after (length first) refl) ∙ ap (take (length first)) same
          ∙ take_at reply later (length first) long;
      rest_is = sym (drop_at first after (length first) refl) ∙ ap (drop (length first)) same
          ∙ drop_at reply later (length first) long;
    }

-- one reply more is told
line_more : (told : List (List ℕ)) (reply lines : List ℕ) → lines ≡ hex_lines told
    → lines ++ (encode_lower reply ++ 10 ∷ []) ≡ hex_lines (told ++ reply ∷ [])
line_more told reply lines e =
    let F : List ℕ → List ℕ = λ reply. encode_lower reply ++ 10 ∷ [] in
    ap (λ l. l ++ F reply) e ∙ ap (λ l. hex_lines told ++ l) (sym (append-nil (F reply)))
    ∙ sym (flat_map-append F told (reply ∷ []))

told_by : (replies : List (List ℕ)) (first after lines : List ℕ) (told untold : List (List ℕ))
    → replies ≡ told ++ untold
    → first ++ after ≡ concat untold → All IsReply untold → lines ≡ hex_lines told
    → length first ≡ len_of (first ++ after)
    → 0 < length first → IsToldSoFar replies after (lines ++ (encode_lower first ++ 10 ∷ []))
told_by replies first after lines told [] parts left framed e said some =
    let none = ap length left in absurd (omega (arith, length-append first after))
told_by replies first after lines told (reply ∷ untold) parts left framed e said some =
    let one = first_is reply (concat untold) first after (All-head IsReply reply untold framed) left said in
    record {
      told = told ++ reply ∷ [];
      untold = untold;
      parts = parts ∙ sym (append_assoc told (reply ∷ []) untold);
      left = one.rest_is;
      framed = All-tail IsReply reply untold framed;
      lines_are = ap (λ r. lines ++ (encode_lower r ++ 10 ∷ [])) one.reply_is ∙ line_more told reply lines e;
    }

-- so far, of the replies that these bytes are
abbrev pub TellsSoFar : List ℕ → List ℕ → List ℕ → Type 0
TellsSoFar sent rest lines = (replies : List (List ℕ)) → All IsReply replies → sent ≡ concat replies
    → IsToldSoFar replies rest lines

pub tells_nothing : (sent : List ℕ) → TellsSoFar sent sent []
tells_nothing sent replies framed e = record {
  told = [];
  untold = replies;
  parts = refl;
  left = e;
  framed = framed;
  lines_are = refl;
}

pub tells_more : (sent rest first after lines : List ℕ) → TellsSoFar sent rest lines → rest ≡ first ++ after
    → length first ≡ len_of rest → 0 < length first → TellsSoFar sent after (lines ++ (encode_lower first ++ 10 ∷ []))
tells_more sent rest first after lines so_far parts said some replies framed e =
    let t = so_far replies framed e in
    told_by replies first after lines t.told t.untold t.parts (sym parts ∙ t.left) t.framed t.lines_are
    (said ∙ ap len_of parts) some

-- a reply stands first in what is left, and it is whole
pub record IsNext (rest : List ℕ) : Type 0 where
  pub header : 16 ≤ len_of rest
  pub whole : len_of rest ≤ length rest

next_of : (rest : List ℕ) (untold : List (List ℕ)) → rest ≡ concat untold → All IsReply untold → 0 < length rest
    → IsNext rest
next_of rest [] left framed some = let none = ap length left in absurd (omega arith)
next_of rest (reply ∷ untold) left framed some =
    let is = All-head IsReply reply untold framed in
    let own : len_of rest ≡ length reply = ap len_of left
    ∙ len-append reply (concat untold) (omega (arith, is.header)) ∙ is.whole in
    let long = ap length left in
    record {
      header = omega (arith, is.header, own);
      whole = omega (arith, own, long, length-append reply (concat untold));
    }

pub next_is : (sent rest lines : List ℕ) → AreReplies sent → TellsSoFar sent rest lines → 0 < length rest → IsNext rest
next_is sent rest lines are so_far some =
    let t = so_far are.replies are.framed are.is in
    next_of rest t.untold t.left t.framed some

-- all replies are told if no byte is left
untold_none : (untold : List (List ℕ)) → [] ≡ concat untold → All IsReply untold → untold ≡ []
untold_none [] left framed = refl
untold_none (reply ∷ untold) left framed =
    let is = All-head IsReply reply untold framed in
    let none = ap length left in
    absurd (omega (arith, is.header, length-append reply (concat untold)))

pub tells_all : (sent rest lines : List ℕ) → TellsSoFar sent rest lines → length rest ≡ 0 → (replies : List (List ℕ))
    → All IsReply replies → sent ≡ concat replies → lines ≡ hex_lines replies
tells_all sent [] lines so_far none replies framed e =
    let t = so_far replies framed e in
    let all : replies ≡ t.told = t.parts ∙ ap (λ l. t.told ++ l) (untold_none t.untold t.left t.framed)
    ∙ append-nil t.told in
    t.lines_are ∙ ap hex_lines (sym all)
tells_all sent (c ∷ rest) lines so_far none replies framed e = absurd (omega arith)

-- a stream that was read, what of it is unread, and what was written to a vector that held this
abbrev through : List ℕ → List ℕ → List ℕ → List ℕ → Streams
through stream unread old held =
    record {
      left = Some stream;
      left_now = Some unread;
      held = Some old;
      held_now = Some held;
    }

-- a session whose writes didn't fail, over a stream, by what was written to an empty vector
pub record Held (rules : Rules) (stream unread empty held : List ℕ) (broken : Bool) (done : Done) : Type 0 where
  pub none : empty ≡ []
  pub whole : broken ≡ false
  pub served : IsServed rules (through stream unread empty held) broken done

served_whole : (rules : Rules) (stream unread empty held : List ℕ) (broken : Bool) (done : Done)
    → Held rules stream unread empty held broken done
    → IsServed rules (through stream unread [] held) false done
served_whole rules stream unread empty held broken done h =
    let P : Bool → Type 0 = λ b. IsServed rules (through stream unread empty held) b done in
    let Q : List ℕ → Type 0 = λ old. IsServed rules (through stream unread old held) false done in
    subst Q h.none (subst P h.whole h.served)

held_is : (rules : Rules) (stream unread held : List ℕ) (done : Done)
    (served : IsServed rules (through stream unread [] held) false done)
    → held ≡ concat (session_of rules served.came).replies
held_is rules stream unread held done served = served.written ∙ served.are_sent

pub held_replies : (rules : Rules) (stream unread empty held slice : List ℕ) (broken : Bool) (done : Done) → slice ≡ held
    → Held rules stream unread empty held broken done
    → AreReplies slice
held_replies rules stream unread empty held slice broken done same h =
    let served = served_whole rules stream unread empty held broken done h in
    record {
      replies = (session_of rules served.came).replies;
      framed = served.framed;
      is = same
          ∙ held_is rules stream unread held done served;
    }

pub session_of_vector : (rules : Rules) (stream unread empty held slice lines : List ℕ) (broken : Bool) (done : Done) → slice ≡ held
    → Held rules stream unread empty held broken done
    → ((replies : List (List ℕ)) → All IsReply replies → slice ≡ concat replies → lines ≡ hex_lines replies)
    → IsSession rules stream lines done.fault
session_of_vector rules stream unread empty held slice lines broken done same h tells =
    let served = served_whole rules stream unread empty held broken done h in
    record {
      done = done;
      unread = unread;
      sent = held;
      served = served;
      fault_is = refl;
      printed = tells (session_of rules served.came).replies served.framed (same ∙ held_is rules stream unread held done served);
    }
