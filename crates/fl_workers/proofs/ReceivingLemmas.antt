-- What the receiver of a session with workers received, and what it answered.
use Rattle.std.proofs.Common.{◌≡◌, ℕ, ◌≤◌, length, Bool, true, false, true≢false}
use Rattle.std.proofs.Common.{List, [], ◌∷◌, ◌++◌, Option, refl, sym, ap, subst, ◌∙◌, append_assoc, append-nil}
use Rattle.std.specs.Prelude.{fold, if◌then◌else◌}
use Rattle.std.proofs.lemmas.Grind.{fold-append}
use Rattle.fl_log.specs.Appended.{Appended, IsAppended}
use Rattle.fl_order.specs.declared.order.Order.{Order}
use Rattle.fl_transport.specs.Ending.{IsEnding}
use Rattle.fl_transport.specs.Handshake.{advanced, handshake_of, incoming_of, opening}
use Rattle.fl_transport.specs.Inbox.{Inflow, IsUnread, ReadsOn, Takes}
use Rattle.fl_transport.specs.Response.{goodbye_to}
use Rattle.fl_transport.specs.Said.{orders_in, orders_said, said_from, said_in}
use Rattle.fl_transport.specs.declared.fault.Fault.{Fault}
use Rattle.fl_transport.specs.declared.handshake.Handshake.{Handshake}
use Rattle.fl_transport.specs.declared.handshake.Incoming.{Incoming}
use Rattle.fl_transport.specs.declared.handshake.Incoming.TheVariants as incoming
use Rattle.fl_transport.specs.declared.response.Response.{Response}
use Rattle.fl_transport.specs.declared.response.Response.TheVariants.{Nothing}
use Rattle.fl_workers.proofs.SentLemmas.{each_sent, none_sent, one_given, one_lost}
use Rattle.fl_workers.specs.Inside.Receiving.{AreAnswered, HasGiven, IsReceiving, given_now, so_far}
use Rattle.fl_workers.specs.Received.{HasReceived, Reception, answer_by, left_to_answer}
use Rattle.fl_workers.specs.Received.{own_answer_in, own_answer_to, own_answers, own_answers_from}
use Rattle.fl_workers.specs.Sent.{entry, replies_of}
use Rattle.fl_workers.specs.declared.entry.ReplyEntry.{ReplyEntry}

said_more : (handshake : Handshake) (xs ys : List (List ℕ))
    → said_from handshake (xs ++ ys) ≡ said_from handshake xs ++ said_from (fold advanced handshake xs) ys
said_more handshake [] ys = refl
said_more handshake (x ∷ xs) ys = ap (λ l. orders_said handshake x ++ l) (said_more (advanced handshake x) xs ys)
    ∙ sym (append_assoc (orders_said handshake x) (said_from (advanced handshake x) xs)
    (said_from (fold advanced (advanced handshake x) xs) ys))

-- the last message comes to a session that isn't over, and that is this far
said_last : (messages : List (List ℕ)) (message : List ℕ) (handshake : Handshake) → handshake ≡ handshake_of messages
    → handshake.over ≡ false
    → said_in (messages ++ message ∷ []) ≡ said_in messages ++ orders_in (incoming_of false handshake message)
said_last messages message handshake far live =
    said_more opening messages (message ∷ [])
    ∙ ap (λ l. said_in messages ++ l) (append-nil (orders_said (handshake_of messages) message)
    ∙ ap (λ h. orders_said h message) (sym far)
    ∙ ap (λ over. if over then [] else orders_in (incoming_of false handshake message)) live)

-- ---- what was answered

-- an order, or orders of a batch, and the appender stays as it is
pub gives_none : (sent sent_now : Appended ReplyEntry) (lost lost_now : Bool) → sent_now ≡ sent → lost_now ≡ lost
    → HasGiven sent sent_now lost lost_now []
gives_none sent sent_now lost lost_now same still =
    rw (same, still) (record { whole = λ none. none; sent = none_sent sent lost })

-- one answer is given
pub gives_one : (sent sent_now : Appended ReplyEntry) (lost : Bool) (response : Response)
    → IsAppended sent (entry sent.author (replies_of response)) sent_now
    → HasGiven sent sent_now lost lost (response ∷ [])
gives_one sent sent_now lost response appended = record {
  whole = λ none. none;
  sent = one_given (answer_by sent.author response) sent sent_now lost refl appended;
}

-- one answer is lost
pub loses_one : (sent sent_now : Appended ReplyEntry) (lost : Bool) (response : Response) → sent_now ≡ sent
    → HasGiven sent sent_now lost true (response ∷ [])
loses_one sent sent_now lost response same = record {
  whole = λ none. absurd (true≢false none);
  sent = one_lost (answer_by sent.author response) sent sent_now same;
}

-- a message that is an order, or a batch of them, gives no answer, whether the session is over or not
pub order_gives_none : (sent sent_now : Appended ReplyEntry) (lost lost_now over : Bool) (it one : Incoming) → one ≡ it
    → own_answer_in one ≡ [] → sent_now ≡ sent → lost_now ≡ lost
    → HasGiven sent sent_now lost lost_now (given_now over (own_answer_in it))
order_gives_none sent sent_now lost lost_now over it one is none same still =
    subst (HasGiven sent sent_now lost lost_now) (sym (ap (λ i. given_now over (own_answer_in i)) (sym is)
    ∙ ap (given_now over) none ∙ given_none over)) (gives_none sent sent_now lost lost_now same still)
  where
    given_none : (over : Bool) → given_now over [] ≡ []
    given_none true = refl
    given_none false = refl

-- the answer to a DESTROY isn't given yet
pub goodbye_gives_none : (sent : Appended ReplyEntry) (lost over : Bool) (answers : List Response) → over ≡ true
    → HasGiven sent sent lost lost (given_now over answers)
goodbye_gives_none sent lost over answers ends = rw ends (gives_none sent sent lost lost refl refl)

-- another message is answered
pub message_gives_one : (sent sent_now : Appended ReplyEntry) (lost lost_now over : Bool) (it : Incoming)
    (response : Response) → over ≡ false → it ≡ incoming.Response response
    → HasGiven sent sent_now lost lost_now (response ∷ [])
    → HasGiven sent sent_now lost lost_now (given_now over (own_answer_in it))
message_gives_one sent sent_now lost lost_now over it response live is given =
    rw live (subst (HasGiven sent sent_now lost lost_now) (sym (ap own_answer_in is)) given)

-- some are given, and then some more
gives_more : (a b c : Appended ReplyEntry) (k m n : Bool) (xs ys : List Response) → HasGiven a b k m xs
    → HasGiven b c m n ys → HasGiven a c k n (xs ++ ys)
gives_more a b c k m n xs ys first second = record {
  whole = λ none. first.whole (second.whole none);
  sent = each_sent answer_by xs ys a b c m n n (λ none. (second.whole none, none)) first.sent second.sent;
}

answers_more : (handshake : Handshake) (xs ys : List (List ℕ)) → own_answers_from handshake (xs ++ ys)
    ≡ own_answers_from handshake xs ++ own_answers_from (fold advanced handshake xs) ys
answers_more handshake [] ys = refl
answers_more handshake (x ∷ xs) ys =
    ap (λ l. own_answer_to handshake x ++ l) (answers_more (advanced handshake x) xs ys)
    ∙ sym (append_assoc (own_answer_to handshake x) (own_answers_from (advanced handshake x) xs)
    (own_answers_from (fold advanced (advanced handshake x) xs) ys))

-- the last message comes to a session that isn't over, and that is this far
answers_last : (messages : List (List ℕ)) (message : List ℕ) (handshake : Handshake) → handshake ≡ handshake_of messages
    → handshake.over ≡ false
    → own_answers (messages ++ message ∷ []) ≡ own_answers messages ++ own_answer_in (incoming_of false handshake message)
answers_last messages message handshake far live =
    answers_more opening messages (message ∷ [])
    ∙ ap (λ l. own_answers messages ++ l) (append-nil (own_answer_to (handshake_of messages) message)
    ∙ ap (λ h. own_answer_to h message) (sym far)
    ∙ ap (λ over. if over then [] else own_answer_in (incoming_of false handshake message)) live)

-- what is given at once and what is left are all
all_answers : (over : Bool) (answers : List Response) (goodbye : Response) → (over ≡ true → answers ≡ goodbye ∷ [])
    → answers ≡ given_now over answers ++ left_to_answer over goodbye
all_answers true answers goodbye left = left refl
all_answers false answers goodbye left = sym (append-nil answers)

-- a message more is answered, or left to be answered
answered_more : (it now : Reception) (old_over over : Bool) (messages : List (List ℕ)) (message : List ℕ)
    (answers : List Response) → old_over ≡ false
    → own_answers (messages ++ message ∷ []) ≡ own_answers messages ++ answers
    → (over ≡ true → answers ≡ now.goodbye ∷ []) → now.sent ≡ it.sent
    → HasGiven it.sent_now now.sent_now it.lost now.lost (given_now over answers)
    → AreAnswered it old_over messages → AreAnswered now over (messages ++ message ∷ [])
answered_more it now old_over over messages message answers live all left same given before =
    let given_before : own_answers messages ≡ before.answered =
    before.own ∙ ap (λ o. before.answered ++ left_to_answer o it.goodbye) live ∙ append-nil before.answered in
    record {
      answered = before.answered ++ given_now over answers;
      own = all ∙ ap (λ l. l ++ answers) given_before
          ∙ ap (λ l. before.answered ++ l) (all_answers over answers now.goodbye left)
          ∙ sym (append_assoc before.answered (given_now over answers) (left_to_answer over now.goodbye));
      sent = rw same (gives_more it.sent it.sent_now now.sent_now false it.lost now.lost before.answered
          (given_now over answers) before.sent given);
    }

-- ---- what is received so far

-- nothing is received yet
pub receiving_first : (left : Option (List ℕ)) (handshake : Handshake) (orders : List Order) (goodbye : Response)
    (sent : Appended ReplyEntry) (lost : Bool) (inbox : Inflow) → handshake ≡ opening → orders ≡ [] → goodbye ≡ Nothing
    → lost ≡ false → IsUnread inbox
    → IsReceiving (so_far left left orders goodbye sent sent lost) handshake inbox.rest
receiving_first left handshake orders goodbye sent lost inbox fresh none unanswered whole unread = record {
  messages = [];
  is_read = unread.unread left;
  far = fresh;
  said = none;
  over = λ over. cc;
  live = λ live. unanswered;
  own = record {
    answered = [];
    own = sym (ap (λ h. left_to_answer h.over goodbye) fresh);
    sent = gives_none sent sent false lost refl whole;
  };
}

-- one message more is received
pub receiving_more : (it now : Reception) (old new : Handshake) (message rest rest_now : List ℕ)
    → IsReceiving it old rest → now.left ≡ it.left → now.left_now ≡ it.left_now → now.sent ≡ it.sent
    → old.over ≡ false → Takes message rest rest_now → new ≡ advanced old message
    → now.orders ≡ it.orders ++ orders_in (incoming_of false old message)
    → (new.over ≡ true → now.goodbye ≡ goodbye_to message) → (new.over ≡ false → now.goodbye ≡ it.goodbye)
    → (new.over ≡ true → own_answer_in (incoming_of false old message) ≡ now.goodbye ∷ [])
    → HasGiven it.sent_now now.sent_now it.lost now.lost (given_now new.over (own_answer_in (incoming_of false old message)))
    → IsReceiving now new rest_now
receiving_more it now old new message rest rest_now before from to same live takes there more ends stays left given =
    record {
      messages = before.messages ++ message ∷ [];
      is_read = rw (from, to) (takes.onward it.left it.left_now before.messages
          (sym (ap (λ h. h.over) before.far) ∙ live) before.is_read);
      far = there ∙ ap (λ h. advanced h message) before.far
          ∙ sym (fold-append advanced opening before.messages (message ∷ []));
      said = more ∙ ap (λ l. l ++ orders_in (incoming_of false old message)) before.said
          ∙ sym (said_last before.messages message old before.far live);
      over = λ over. record { front = before.messages; last = message; parts = refl; answer = ends over };
      live = λ still. stays still ∙ before.live live;
      own = answered_more it now old.over new.over before.messages message (own_answer_in (incoming_of false old message))
          live (answers_last before.messages message old before.far live) left same given before.own;
    }

-- more is read, or nothing
pub receiving_read : (it : Reception) (now : Option (List ℕ)) (handshake : Handshake) (rest rest_now : List ℕ)
    → IsReceiving it handshake rest → ReadsOn it.left_now now rest rest_now
    → IsReceiving (record it { left_now = now }) handshake rest_now
receiving_read it now handshake rest rest_now receiving read = record {
  messages = receiving.messages;
  is_read = read.onward it.left receiving.messages receiving.is_read;
  far = receiving.far;
  said = receiving.said;
  over = receiving.over;
  live = receiving.live;
  own = record { answered = receiving.own.answered; own = receiving.own.own; sent = receiving.own.sent };
}

-- the receiver ends
pub receiving_ends : (it : Reception) (handshake : Handshake) (rest : List ℕ) (fault : Option Fault)
    → IsReceiving it handshake rest → length rest ≤ 8192 → IsEnding fault handshake.over rest it.left_now
    → HasReceived (record it { fault = fault })
receiving_ends it handshake rest fault receiving bounded ending =
    let P : Bool → Type 0 = λ over. IsEnding fault over rest it.left_now in
    let far = ap (λ h. h.over) receiving.far in
    let own = receiving.own in
    record {
      messages = receiving.messages;
      rest = rest;
      is_read = receiving.is_read;
      bounded = bounded;
      ending = subst P far ending;
      said = receiving.said;
      over = λ over. receiving.over (far ∙ over);
      live = λ live. receiving.live (far ∙ live);
      answered = own.answered;
      own = own.own ∙ ap (λ over. own.answered ++ left_to_answer over it.goodbye) far;
      sent = own.sent.sent;
    }
