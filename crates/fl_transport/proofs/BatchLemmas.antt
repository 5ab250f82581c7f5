-- Replies that are collected, and go out together.
use Rattle.std.proofs.Common.{◌≡◌, ℕ, Bool, true, false, List, [], ◌∷◌, ◌++◌, take, drop, Option, sym, ap, subst, ◌∙◌}
use Rattle.std.proofs.Common.{arith, append_assoc, append-nil, length-append, take-append-drop, length-drop}
use Rattle.std.proofs.lemmas.List.Elements.{All-push}
use Rattle.std.proofs.lemmas.List.Folds.{concat-append}
use Rattle.std.specs.List.{concat}
use Rattle.std.proofs.KnownBytes.{Appends-trans, Appends-kept}
use Rattle.fl_wire.specs.Spell.{IsReply}
use Rattle.fl_transport.specs.Collecting.{Collects, IsGiven, Outgoing}
use Rattle.fl_transport.specs.Outbox.{IsSentBy}

-- such a writer, such bytes that wait, and whether a write failed
abbrev with : Option (List ℕ) → List ℕ → Bool → Outgoing
with held waiting broken =
    record {
      held = held;
      waiting = waiting;
      broken = broken;
    }

-- no reply more
given_none : (start : Option (List ℕ)) (out : Outgoing) (replies : List (List ℕ)) → IsGiven start out replies
    → IsGiven start out (replies ++ [])
given_none start out replies before = subst (IsGiven start out) (sym (append-nil replies)) before

-- nothing is collected
pub Collects-none : (out : Outgoing) → Collects out out []
Collects-none out = record { onward = λ start replies before. given_none start out replies before }

-- these replies, and then those
pub Collects-trans : (first between last : Outgoing) (more others : List (List ℕ)) → Collects first between more
    → Collects between last others → Collects first last (more ++ others)
Collects-trans first between last more others one two = record {
  onward = λ start replies before. subst (IsGiven start last) (append_assoc replies more others)
      (two.onward start (replies ++ more) (one.onward start replies before));
}

-- a reply is laid out behind those that wait
given_one : (start held : Option (List ℕ)) (waiting : List ℕ) (broken : Bool) (replies : List (List ℕ))
    (reply : List ℕ) → IsReply reply → IsGiven start (with held waiting broken) replies
    → IsGiven start (with held (waiting ++ reply) broken) (replies ++ reply ∷ [])
given_one start held waiting true replies reply is before =
    let cut = before.are_given in
    let one : concat (replies ++ reply ∷ []) ≡ concat replies ++ reply = simp (concat-append, append-nil) in
    record {
      sent = before.sent;
      written = before.written;
      are_given = record {
        rest = cut.rest ++ reply;
        more = let some = cut.more in omega (arith, length-append cut.rest reply);
        is = sym (append_assoc before.sent cut.rest reply) ∙ ap (λ bytes. bytes ++ reply) cut.is
            ∙ sym one;
      };
      framed = All-push IsReply replies reply before.framed is;
    }
given_one start held waiting false replies reply is before =
    let one : concat (replies ++ reply ∷ []) ≡ concat replies ++ reply = simp (concat-append, append-nil) in
    record {
      sent = before.sent;
      written = before.written;
      are_given = sym (append_assoc before.sent waiting reply) ∙ ap (λ bytes. bytes ++ reply) before.are_given
          ∙ sym one;
      framed = All-push IsReply replies reply before.framed is;
    }

-- a reply is collected
pub Collects-one : (out : Outgoing) (now reply : List ℕ) → now ≡ out.waiting ++ reply → IsReply reply
    → Collects out (record out { waiting = now }) (reply ∷ [])
Collects-one out now reply same is = record {
  onward = λ start replies before.
      subst (λ now. IsGiven start (record out { waiting = now }) (replies ++ reply ∷ [])) (sym same)
      (given_one start out.held out.waiting out.broken replies reply is before);
}

-- what waits is written, as far as a write goes
given_written : (start held held_now : Option (List ℕ)) (waiting : List ℕ) (broken broken_now : Bool)
    (replies : List (List ℕ)) → IsSentBy held held_now broken broken_now waiting
    → IsGiven start (with held waiting broken) replies → IsGiven start (with held_now [] broken_now) replies
given_written start held held_now waiting true true replies kept before = record {
  sent = before.sent;
  written = Appends-kept start held held_now before.sent before.written kept;
  are_given = before.are_given;
  framed = before.framed;
}
given_written start held held_now waiting true false replies sent before = absurd sent
given_written start held held_now waiting false true replies part before =
    let front = take part.count waiting in
    let back = drop part.count waiting in
    record {
      sent = before.sent ++ front;
      written = Appends-trans start held held_now before.sent front before.written part.written;
      are_given = record {
        rest = back;
        more = let short = part.short in omega (arith, length-drop part.count waiting);
        is = append_assoc before.sent front back
            ∙ ap (λ bytes. before.sent ++ bytes) (take-append-drop part.count waiting) ∙ before.are_given;
      };
      framed = before.framed;
    }
given_written start held held_now waiting false false replies written before = record {
  sent = before.sent ++ waiting;
  written = Appends-trans start held held_now before.sent waiting before.written written;
  are_given = append-nil (before.sent ++ waiting) ∙ before.are_given;
  framed = before.framed;
}

-- what waits goes out
pub Collects-sent : (before after : Outgoing) (bytes : List ℕ) → bytes ≡ before.waiting → after.waiting ≡ []
    → IsSentBy before.held after.held before.broken after.broken bytes → Collects before after []
Collects-sent before after bytes same none sent = record {
  onward = λ start replies given. given_none start after replies
      (subst (λ now. IsGiven start (with after.held now after.broken) replies) (sym none)
      (given_written start before.held after.held before.waiting before.broken after.broken replies
      (subst (IsSentBy before.held after.held before.broken after.broken) same sent) given));
}

-- a reply is collected before all others
pub Collects-first : (out : Outgoing) (now reply : List ℕ) → out.waiting ≡ [] → now ≡ reply → IsReply reply
    → Collects out (record out { waiting = now }) (reply ∷ [])
Collects-first out now reply none same is =
    Collects-one out now reply (same ∙ ap (λ front. front ++ reply) (sym none)) is
