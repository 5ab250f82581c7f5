-- What a client gets that uses each unique for one message.
use Rattle.std.proofs.Common.{◌≡◌, ℕ, zero, suc, ◌-◌, ◌≤◌, Bool, true, false, ◌||◌, ◌+◌, List, [], ◌∷◌, ◌++◌, length, drop, Some}
use Rattle.std.proofs.Common.{refl, sym, ap, subst, ◌∙◌, arith, ⊎_elim}
use Rattle.std.specs.Prelude.{All, Contains, flat_map, fold, ◌&&◌, not, if◌then◌else◌, nat_le, slice_index_or, Result, Ok, Err}
use Rattle.std.proofs.lemmas.Bool.{eq-eqb, le-leb, ne_eqb}
use Rattle.std.proofs.lemmas.Grind.{fold-append}
use Rattle.std.proofs.lemmas.List.{length-map}
use Rattle.std.proofs.lemmas.List.Elements.{All-append, All-contains_itself, All-same, Contains-append_cases, Contains-append_left, Contains-append_right}
use Rattle.fl_desk.specs.Replay.{state_after}
use Rattle.fl_history.specs.Recent.{recalled, recent, spoken, with_ask, with_line}
use Rattle.fl_history.specs.declared.history.Line.{Line}
use Rattle.fl_history.specs.declared.history.Line.TheVariants as line
use Rattle.fl_history.specs.declared.recent.Recalled.{Recalled}
use Rattle.fl_history.specs.declared.recent.Recalled.TheVariants as recall
use Rattle.fl_order.specs.declared.errno.Errno.TheVariants.{ENOSYS}
use Rattle.fl_order.specs.declared.order.Order.{Order}
use Rattle.fl_order.specs.declared.refusal.Refusal.{Refusal}
use Rattle.fl_order.specs.declared.refusal.Refusal.TheVariants.{Answer, Batch}
use Rattle.fl_order.specs.declared.told.Told.{Told}
use Rattle.fl_session.proofs.ParkedLemmas.{counted_free, later_counted, others_counted, replied_free}
use Rattle.fl_session.proofs.RecallLemmas.{asks, asks_counted, behind_unsaid, few_spoken, recent_split, spoken_long, spoken_said}
use Rattle.fl_session.specs.Again.{incoming_under, response_under, unmarked}
use Rattle.fl_session.specs.AsOne.{AreAsOne, replies_again, reply_again, reply_in, reply_unmarked}
use Rattle.fl_session.specs.Known.{HaveBatch, HaveNothing, HaveOrder, HaveReply, IsBatchAgain, IsOf, IsOrderAgain}
use Rattle.fl_session.specs.Once.{ComesAgain, IsUnknown, SaysTheSame, has_all, is_had, orders_in}
use Rattle.fl_session.specs.Session.{Came, Session, recalled_in}
use Rattle.fl_session.specs.Whole.{bytes_in}
use Rattle.fl_transport.specs.Handshake.{incoming_by, said_to, says_destroy}
use Rattle.fl_transport.specs.declared.handshake.Incoming.{Incoming}
use Rattle.fl_transport.specs.declared.handshake.Incoming.TheVariants as incoming
use Rattle.fl_transport.specs.declared.response.Response.{Response}
use Rattle.fl_waiting.specs.Waiting.{is_parked}
use Rattle.fl_wire.specs.Batch.{forgets_in}
use Rattle.fl_wire.specs.Layout.{unique_of}
use Rattle.fl_wire.specs.Says.{said}
use Rattle.fl_wire.specs.Whole.{is_for_whole}
use Rattle.fl_wire.specs.Spell.{spelling_of}

-- ---- each reply

All-widened : {X : Type 0} (P Q : X → Type 0) (xs : List X) → ((x : X) → P x → Q x) → All P xs → All Q xs
All-widened P Q xs widen all k d lt = widen (slice_index_or xs k d) (all k d lt)

pub has_each : (first other one : Session) (again : List Came) (got : List (List ℕ)) → AreAsOne first other one again
    → All (Contains (got ++ replies_again first again)) first.replies → All (Contains (got ++ other.replies)) one.replies
has_each first other one again got two all =
    let sent : List (List ℕ) = replies_again first again in
    let has : List ℕ → Type 0 = Contains (got ++ other.replies) in
    let had : (x : List ℕ) → Contains (got ++ sent) x → has x = λ x in_it.
    ⊎_elim (λ mine. Contains-append_left got other.replies x mine)
    (λ theirs. Contains-append_right got other.replies x
    (subst (λ l. Contains l x) (sym two.of_other) (Contains-append_left sent two.rest x theirs)))
    (Contains-append_cases got sent x in_it) in
    let more : (x : List ℕ) → Contains two.rest x → has x = λ x in_it.
    Contains-append_right got other.replies x
    (subst (λ l. Contains l x) (sym two.of_other) (Contains-append_right sent two.rest x in_it)) in
    All-same has one.replies (first.replies ++ two.rest) two.of_one
    (All-append has first.replies two.rest
    (All-widened (Contains (got ++ sent)) has first.replies had all)
    (All-widened (Contains two.rest) has two.rest more (All-contains_itself two.rest)))

-- ---- a unique that no line has

pub other_said : (unique : ℕ) (before : Recalled) (l : Line) → (IsOf unique l → ⊥) → with_line unique before l ≡ before
other_said unique before (line.Asked worker order) other =
    ap (λ is. if is then with_ask before else before) (ne_eqb order.unique unique other)
other_said unique before (line.Told told) other =
    ap (λ is. if is then recall.Told told else before) (ne_eqb told.unique unique other)
other_said unique before (line.State state) other = refl

pub others_said : (unique : ℕ) (before : Recalled) (lines : List Line) → HaveNothing unique lines
    → fold (with_line unique) before lines ≡ before
others_said unique before [] none = refl
others_said unique before (l ∷ lines) none =
    ap (λ b. fold (with_line unique) b lines) (other_said unique before l none.0) ∙ others_said unique before lines none.1

-- lines of which none has it say nothing of it
unsaid_before : (unique n : ℕ) (lines : List Line) → HaveNothing unique lines
    → recalled unique (drop n (spoken lines)) ≡ recall.Asked 0
unsaid_before unique n lines none = behind_unsaid unique n (spoken lines)
    (spoken_said unique (recall.Asked 0) lines ∙ others_said unique (recall.Asked 0) lines none)

pub nothing_unknown : (s : Session) (unique : ℕ) → HaveNothing unique (s.heard ++ s.lines) → IsUnknown s unique
nothing_unknown s unique none =
    let all : List Line = s.heard ++ s.lines in
    record {
      free = counted_free unique s.rules s.lines (later_counted unique s.heard s.lines (others_counted unique 0 all none));
      unsaid = unsaid_before unique (length (spoken all) - 65536) all none;
    }

-- ---- a reply in the last lines

pub told_said : (told : Told) (before : Recalled) → with_line told.unique before (line.Told told) ≡ recall.Told told
told_said told before = ap (λ is. if is then recall.Told told else before) (eq-eqb told.unique told.unique refl)

reply_recalled : (lines : List Line) (told : Told) → HaveReply lines told → recalled told.unique (recent lines) ≡ recall.Told told
reply_recalled lines told h =
    let u : ℕ = told.unique in
    let front : List Line = h.before ++ line.Asked h.worker h.order ∷ h.between in
    let back : List Line = line.Told told ∷ h.after in
    let n : ℕ = length (spoken (front ++ back)) - 65536 in
    let near = h.near in
    let few : suc (length (spoken h.after)) ≤ 65536 = omega (arith, near) in
    ap (λ l. recalled u (recent l)) h.stand
    ∙ recent_split u front back few
    ∙ ap (λ b. fold (with_line u) b h.after) (told_said told (recalled u (drop n (spoken front))))
    ∙ others_said u (recall.Told told) h.after h.none_after

pub asked_said : (unique worker : ℕ) (order : Order) → order.unique ≡ unique
    → with_line unique (recall.Asked 0) (line.Asked worker order) ≡ recall.Asked 1
asked_said unique worker order named =
    ap (λ is. if is then recall.Asked (0 + 1) else recall.Asked 0) (eq-eqb order.unique unique named)

order_recalled : (lines : List Line) (unique : ℕ) → HaveOrder lines unique → recalled unique (recent lines) ≡ recall.Asked 1
order_recalled lines u h =
    let back : List Line = line.Asked h.worker h.order ∷ h.after in
    let n : ℕ = length (spoken (h.before ++ back)) - 65536 in
    let near = h.near in
    let few : suc (length (spoken h.after)) ≤ 65536 = omega (arith, near) in
    ap (λ l. recalled u (recent l)) h.stand
    ∙ recent_split u h.before back few
    ∙ ap (λ b. fold (with_line u) b back) (unsaid_before u n h.before h.none_before)
    ∙ ap (λ b. fold (with_line u) b h.after) (asked_said u h.worker h.order h.named)
    ∙ others_said u (recall.Asked 1) h.after h.none_after

batch_recalled : (lines : List Line) (unique : ℕ) (orders : List Order) → HaveBatch lines unique orders
    → recalled unique (recent lines) ≡ recall.Asked (0 + length orders)
batch_recalled lines u orders h =
    let back : List Line = asks orders ++ h.after in
    let n : ℕ = length (spoken (h.before ++ back)) - 65536 in
    let long = spoken_long (asks orders) h.after in
    let asked : length (asks orders) ≡ length orders = length-map orders (λ order. line.Asked 0 order) in
    let spoken_few = few_spoken (asks orders) in
    let near = h.near in
    let few : length (spoken back) ≤ 65536 = omega (arith, long, asked, spoken_few, near) in
    ap (λ l. recalled u (recent l)) h.stand
    ∙ recent_split u h.before back few
    ∙ ap (λ b. fold (with_line u) b back) (unsaid_before u n h.before h.none_before)
    ∙ fold-append (with_line u) (recall.Asked 0) (asks orders) h.after
    ∙ ap (λ b. fold (with_line u) b h.after) (asks_counted u 0 orders h.named)
    ∙ others_said u (recall.Asked (0 + length orders)) h.after h.none_after

-- ---- a message whose order is there comes again

pub or_true : (a : Bool) → (a || true) ≡ true
or_true true = refl
or_true false = refl

-- what is no error to a session that is whole or isn't is what the message says
said_of : (whole : Bool) (message : List ℕ) (it : Result Order Refusal) → said_to whole message ≡ it
    → (Err (Answer ENOSYS) ≡ it → ⊥) → said message ≡ it
said_of whole message it e known = by (not whole && is_for_whole message) e
  where
    by : (unknown : Bool) → (if unknown then Err (Answer ENOSYS) else said message) ≡ it → said message ≡ it
    by true e = absurd (known e)
    by false e = e

comes_by : (s : Session) (unique : ℕ) (message : List ℕ) → IsOrderAgain s.rules.whole unique message → is_had s unique 1 ≡ true
    → ComesAgain s message
comes_by s unique message order had = record {
  unique = unique;
  marked = order.marked;
  stays = ap says_destroy (said_of s.rules.whole message (Ok order.order) order.says (λ e. cc e));
  had = ap (λ says. is_had s unique (length (orders_in (incoming_by message says)))) order.says ∙ had;
}

pub replied_comes : (s : Session) (told : Told) (message : List ℕ) → HaveReply (s.heard ++ s.lines) told → IsOrderAgain s.rules.whole told.unique message
    → ComesAgain s message
replied_comes s told message h order =
    let waits : Bool = is_parked told.unique (state_after s.rules s.lines).view.parked in
    comes_by s told.unique message order
    (ap (λ r. waits || has_all r 1) (reply_recalled (s.heard ++ s.lines) told h) ∙ or_true waits)

pub asked_comes : (s : Session) (unique : ℕ) (message : List ℕ) → HaveOrder (s.heard ++ s.lines) unique → IsOrderAgain s.rules.whole unique message
    → ComesAgain s message
asked_comes s unique message h order =
    let waits : Bool = is_parked unique (state_after s.rules s.lines).view.parked in
    comes_by s unique message order
    (ap (λ r. waits || has_all r 1) (order_recalled (s.heard ++ s.lines) unique h) ∙ or_true waits)

pub parked_comes : (s : Session) (unique : ℕ) (message : List ℕ)
    → is_parked unique (state_after s.rules s.lines).view.parked ≡ true → IsOrderAgain s.rules.whole unique message → ComesAgain s message
parked_comes s unique message waits order =
    comes_by s unique message order (ap (λ b. b || has_all (recalled_in s unique) 1) waits)

pub batch_comes : (s : Session) (unique : ℕ) (orders : List Order) (message : List ℕ) → HaveBatch (s.heard ++ s.lines) unique orders
    → IsBatchAgain s.rules.whole unique (length orders) message → ComesAgain s message
batch_comes s unique orders message h batch =
    let waits : Bool = is_parked unique (state_after s.rules s.lines).view.parked in
    let counted = batch.counted in
    let all : nat_le (length (forgets_in message)) (0 + length orders) ≡ true =
    le-leb (length (forgets_in message)) (0 + length orders) (omega (arith, counted)) in
    record {
      unique = unique;
      marked = batch.marked;
      stays = ap says_destroy (said_of s.rules.whole message (Err Batch) batch.says (λ e. cc e));
      had = ap (λ says. is_had s unique (length (orders_in (incoming_by message says)))) batch.says
          ∙ ap (λ r. waits || has_all r (length (forgets_in message))) (batch_recalled (s.heard ++ s.lines) unique orders h)
          ∙ ap (λ b. waits || b) all ∙ or_true waits;
    }

-- ---- what is sent again

pub had_reply : (waits : Bool) (found : Recalled) (told : Told) → waits ≡ false → found ≡ recall.Told told
    → (if waits then [] else reply_in found) ≡ spelling_of told ∷ []
had_reply waits found told free some = rw (free, some) refl

pub head_is : {X : Type 0} (y x : X) → Contains (y ∷ []) x → x ≡ y
head_is y x (zero, lt, e) = sym e
head_is y x (suc k, lt, e) = absurd (omega (arith, lt))

pub flat_contains : {X A : Type 0} (f : X → List A) (xs : List X) (x : X) (a : A) → Contains xs x → Contains (f x) a
    → Contains (flat_map f xs) a
flat_contains f [] x a in_xs in_f = absurd (let lt = in_xs.1 in omega (arith, lt))
flat_contains f (y ∷ xs) x a in_xs in_f =
    ⊎_elim (λ head. Contains-append_left (f y) (flat_map f xs) a
    (subst (λ z. Contains (f z) a) (head_is y x head) in_f))
    (λ tail. Contains-append_right (f y) (flat_map f xs) a (flat_contains f xs x a tail in_f))
    (Contains-append_cases (y ∷ []) xs x in_xs)

pub reply_comes_again : (s : Session) (again : List Came) (c : Came) (told : Told) → HaveReply (s.heard ++ s.lines) told
    → Contains again c → IsOrderAgain s.rules.whole told.unique c.message → Contains (replies_again s again) (spelling_of told)
reply_comes_again s again c told h came order =
    let u : ℕ = told.unique in
    let f = λ (c : Came). reply_unmarked s (unmarked true (unique_of c.message)) (incoming_by c.message (said_to s.rules.whole c.message)) in
    let one : f c ≡ spelling_of told ∷ [] =
    ap (λ m. reply_unmarked s m (incoming_by c.message (said_to s.rules.whole c.message))) order.marked
    ∙ ap (λ says. reply_unmarked s (Some u) (incoming_by c.message says)) order.says
    ∙ had_reply (is_parked u (state_after s.rules s.lines).view.parked) (recalled_in s u) told
    (replied_free s.rules s.heard s.lines told h) (reply_recalled (s.heard ++ s.lines) told h) in
    flat_contains f again c (spelling_of told) came
    (subst (λ l. Contains l (spelling_of told)) (sym one) (0, omega arith, refl))

under_own : (s : Session) (unique : ℕ) (it : Incoming) (response : Response)
    → incoming_under unique it ≡ incoming.Response response → reply_again s unique it ≡ bytes_in s.rules s.lines response
under_own s unique (incoming.Order order) response e = absurd (cc e)
under_own s unique (incoming.Batch orders) response e = absurd (cc e)
under_own s unique (incoming.Response r) response e =
    let is : response_under unique r ≡ response = cc e in ap (bytes_in s.rules s.lines) is

pub answer_comes_again : (s : Session) (again : List Came) (c m : Came) (response : Response) (reply : List ℕ)
    → SaysTheSame c.message m.message → incoming_by c.message (said_to s.rules.whole c.message) ≡ incoming.Response response
    → Contains (bytes_in s.rules s.lines response) reply → Contains again m → Contains (replies_again s again) reply
answer_comes_again s again c m response reply same own in_it came =
    let f = λ (c : Came). reply_unmarked s (unmarked true (unique_of c.message)) (incoming_by c.message (said_to s.rules.whole c.message)) in
    let one : f m ≡ bytes_in s.rules s.lines response =
    ap (λ mark. reply_unmarked s mark (incoming_by m.message (said_to s.rules.whole m.message))) same.mark
    ∙ under_own s (unique_of c.message) (incoming_by m.message (said_to s.rules.whole m.message)) response (same.says s.rules.whole ∙ own) in
    flat_contains f again m reply came (subst (λ l. Contains l reply) (sym one) in_it)
