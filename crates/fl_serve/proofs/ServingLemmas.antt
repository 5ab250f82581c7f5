-- What a session with workers did.
use Rattle.std.proofs.Common.{◌≡◌, ◌≢◌, ℕ, ◌⊎◌, inl, inr, ⊎_elim, Bool, true, false, true≢false, List, [], ◌∷◌, ◌++◌}
use Rattle.std.proofs.Common.{All, Option, Some, None, length, map, sum_by, refl, sym, ap, subst, ◌∙◌, arith}
use Rattle.std.proofs.KnownBytes.{Appends-nil, Keeps-refl}
use Rattle.std.proofs.lemmas.List.{length-map, map-append}
use Rattle.std.proofs.lemmas.List.Elements.{All-nil}
use Rattle.std.specs.List.{range_with_len}
use Rattle.std.specs.Prelude.{IfSome, IsSome, not, ◌&&◌, ◌||◌}
use Rattle.std.specs.Io.KnownBytes.{Keeps}
use mathlib.Core.List.{IsPrefix}
use Rattle.fl_record.specs.Seats.{Place}
use Rattle.fl_board.specs.Shown.{HasAllOf}
use Rattle.fl_counter.specs.Asked.{Orders}
use Rattle.fl_desk.specs.Legal.{IsLegalFromNothing, nothing}
use Rattle.fl_history.specs.declared.history.Line.{Line}
use Rattle.fl_intake.specs.Often.{Weight}
use Rattle.fl_log.specs.Appended.{Appended, HasAll as HasAllEntries}
use Rattle.fl_log.specs.Growing.{Grows}
use Rattle.fl_desk.specs.Answered.{IsAnsweredAfter}
use Rattle.fl_pool.specs.Working.{HaveDone}
use Rattle.fl_serve.specs.Inside.Seated.{by_place}
use Rattle.fl_serve.proofs.GrowingLemmas.{by_begins, just_these, then_more}
use Rattle.fl_serve.proofs.PartLemmas.{answered_each, as_many_handed, author_of, gave_each, kept_each, parts_of, same_orders}
use Rattle.fl_serve.proofs.PartLemmas.{same_refused, same_workers}
use Rattle.fl_serve.specs.Inside.Closing.{HasAll}
use Rattle.fl_staff.specs.Closing.{HasSaidGoodbye, last_words}
use Rattle.fl_staff.specs.Served.{HasServed}
use Rattle.fl_staff.specs.declared.staff.Served.{Served}
use Rattle.fl_serve.specs.Serve.{AreAllGiven, AreDone, IsRecordedBy, IsServedBy}
use Rattle.fl_session.specs.Recorded.{done_of, journal_lines}
use Rattle.fl_session.specs.declared.done.Done.{Done}
use Rattle.fl_session.specs.declared.recorded.Recorded.{Recorded}
use Rattle.fl_transport.specs.Collecting.{IsGiven, Outgoing}
use Rattle.fl_transport.specs.Ending.{EndsBy, IsEnding, IsRead}
use Rattle.fl_transport.specs.Handshake.{handshake_of}
use Rattle.fl_transport.specs.Response.{goodbye_to}
use Rattle.fl_transport.specs.Said.{said_in}
use Rattle.fl_transport.specs.Streams.{Streams}
use Rattle.fl_transport.specs.declared.fault.Fault.{Fault}
use Rattle.fl_transport.specs.declared.fault.Fault.TheVariants.{NoMemory, NoReader}
use Rattle.fl_transport.specs.declared.response.Response.{Response}
use Rattle.fl_transport.specs.declared.response.Response.TheVariants.{Nothing}
use Rattle.fl_waiting.specs.declared.rules.Rules.{Rules}
use Rattle.fl_wire.specs.Spell.{IsReply}
use Rattle.fl_workers.specs.Received.{HasReceived, IsLast, Reception, answer_by, left_to_answer, own_answers}
use Rattle.fl_workers.specs.Sent.{entries_of, spelled}
use Rattle.fl_workers.specs.declared.entry.ReplyEntry.{ReplyEntry}

-- no session ends without a reader, as long as its board is told
pub never_no_reader : (told : Option Fault) (broken : Bool) (messages : List (List ℕ)) (rest : List ℕ)
    (left : Option (List ℕ)) → EndsBy told broken messages rest left → told ≢ Some NoReader
never_no_reader told broken messages rest left ends none =
    subst (λ fault. EndsBy fault broken messages rest left) none ends

pub same_fault : (a b : Fault) → Some a ≡ Some b → a ≡ b
same_fault a b same = subst (λ fault. IfSome fault (λ it. a ≡ it)) same refl

-- nothing was given to be sent
pub nothing_given : (start : Option (List ℕ))
    → IsGiven start (record { held = start; waiting = []; broken = false }) (spelled [])
nothing_given start = record { sent = []; written = Appends-nil start; are_given = refl; framed = All-nil IsReply }

-- what is said last is what is left to answer
last_is_left : (over : Bool) (messages : List (List ℕ)) (goodbye : Response)
    → (over ≡ true → IsLast messages goodbye) → (over ≡ false → goodbye ≡ Nothing)
    → last_words goodbye ≡ left_to_answer over goodbye
last_is_left true messages goodbye last none = go goodbye (last refl).answer
  where
    go : (goodbye : Response) → goodbye ≡ goodbye_to (last refl).last → last_words goodbye ≡ goodbye ∷ []
    go goodbye is = subst (λ g. last_words g ≡ g ∷ []) (sym is) refl
last_is_left false messages goodbye last none = ap last_words (none refl)

-- whose receiver, and whose workers, gave all that was given
all_given : (rules : Rules) (workers : ℕ) (it : Reception) (start : Option (List ℕ)) (out : Outgoing)
    (sents : List (Appended ReplyEntry)) (places : List Place) (orders : Weight → ℕ) (any lost whole : Bool)
    → (received : HasReceived it) → it.sent ≡ record { author = workers; count = 0; upto = [] }
    → (did : HaveDone by_place (IsAnsweredAfter rules) orders places sents any lost)
    → (said : HasSaidGoodbye start out sents it.sent_now it.goodbye whole) → it.lost ≡ false → lost ≡ false
    → whole ≡ true → AreAllGiven workers received.messages (parts_of rules did.works did.each) said.log
all_given rules workers it start out sents places orders any lost whole received fresh did said none never all =
    let log = said.log in
    let over = (handshake_of received.messages).over in
    let was : it.sent.author ≡ workers = ap (λ (a : Appended ReplyEntry). a.author) fresh in
    let name : it.sent_now.author ≡ workers = received.sent.author ∙ was in
    let gave = gave_each rules log did.works did.each (sym did.missing ∙ never)
    (subst (λ l. All (HasAllEntries author_of log) l) (sym did.gave) (said.each all)) in
    let words : last_words it.goodbye ≡ left_to_answer over it.goodbye =
    last_is_left over received.messages it.goodbye received.over received.live in
    let answers : List ReplyEntry = map (answer_by workers) received.answered in
    let last : List ReplyEntry = map (answer_by workers) (last_words it.goodbye) in
    let first : Grows [] (entries_of workers it.sent_now.upto) 0 it.sent_now.count answers =
    subst (λ (a : Appended ReplyEntry). Grows (entries_of a.author a.upto) (entries_of a.author it.sent_now.upto) a.count
    it.sent_now.count (map (answer_by a.author) received.answered)) fresh
    (subst (Grows (entries_of it.sent.author it.sent.upto) (entries_of it.sent.author it.sent_now.upto) it.sent.count
    it.sent_now.count) (received.sent.all none) received.sent.grown) in
    let then : Grows (entries_of workers it.sent_now.upto) (entries_of workers said.mine.upto) it.sent_now.count said.mine.count last =
    subst (λ n. Grows (entries_of n it.sent_now.upto) (entries_of n said.mine.upto) it.sent_now.count said.mine.count
    (map (answer_by n) (last_words it.goodbye))) name (said.grown all).grown in
    let grown = then_more [] (entries_of workers it.sent_now.upto) (entries_of workers said.mine.upto) 0 it.sent_now.count
    said.mine.count answers last first then in
    let has = said.all all in
    let mine : said.mine.author ≡ workers = (said.grown all).author ∙ name in
    let count : length (entries_of workers log) ≡ said.mine.count = subst (λ n. length (entries_of n log) ≡ said.mine.count) mine has.count in
    let own : map (answer_by workers) (own_answers received.messages) ≡ answers ++ last =
    ap (map (answer_by workers)) (received.own ∙ ap (λ l. received.answered ++ l) (sym words))
    ∙ map-append (answer_by workers) received.answered (last_words it.goodbye) in
    let these : entries_of workers log ≡ answers ++ last =
    just_these (entries_of workers said.mine.upto) (entries_of workers log) said.mine.count (answers ++ last) grown
    (by_begins author_of workers said.mine.upto log has.had) count in
    record {
      each = gave.0;
      own = these ∙ sym own;
      no_others = omega (
        arith,
        said.total all,
        ap (sum_by (λ (a : Appended ReplyEntry). a.count)) did.gave,
        gave.1,
        grown.counted,
        sym (ap length own) ∙ length-map (own_answers received.messages) (answer_by workers),
      );
      goodbye = λ ended. record {
        goodbye = it.goodbye;
        last = received.over ended;
        front = said.front;
        is = said.is all ∙ (λ i. said.front ++ map (answer_by (name i)) (words i))
            ∙ ap (λ b. said.front ++ map (answer_by workers) (left_to_answer b it.goodbye)) ended;
      };
    }

-- the orders of the messages were handed in, looked for or refused
all_done : (rules : Rules) (workers : ℕ) (messages : List (List ℕ)) (put : Orders) (sents : List (Appended ReplyEntry))
    (places : List Place) (orders : Weight → ℕ) (any lost : Bool) (told : Option Fault) (stored : List Line)
    (done : Done) → put ≡ said_in messages → ((weight : Weight) → sum_by weight put ≡ orders weight)
    → map (λ (p : Place). p.worker) places ≡ range_with_len 0 workers
    → (did : HaveDone by_place (IsAnsweredAfter rules) orders places sents any lost) → HasAll places any told stored done
    → AreDone workers rules messages stored (parts_of rules did.works did.each) done
all_done rules workers messages put sents places orders any lost told stored done said is whose did all = record {
  whose = same_workers rules did.works did.each ∙ ap (map (λ (p : Place). p.worker)) did.at ∙ whose;
  taken = λ weight. omega (
    arith,
    ap (sum_by weight) said,
    is weight,
    did.weighs weight,
    same_orders rules weight did.works did.each,
  );
  each = answered_each rules done.history did.works did.each
      (subst (λ l. All (HasAllOf done.history) l) (sym did.at) all.each);
  kept = kept_each rules done.history stored did.works did.each
      (subst (λ l. All (HasAllOf done.history) l) (sym did.at) all.each)
      (subst (λ l. All (λ (p : Place). IsPrefix p.stored stored) l) (sym did.at) all.kept);
  all = all.counted ∙ ap (sum_by (λ (p : Place). p.count)) (sym did.at) ∙ sym (as_many_handed rules did.works did.each);
  refused = all.tells ∙ did.refused ∙ same_refused rules did.works did.each;
}

-- what is known is whole, and nothing was lost
all_known : (whole lost more : Bool) → (whole && not (lost || more)) ≡ true → (whole ≡ true) × (lost ≡ false) × (more ≡ false)
all_known true false false e = (refl, refl, refl)
all_known true false true e = absurd (true≢false (sym e))
all_known true true more e = absurd (true≢false (sym e))
all_known false lost more e = absurd (true≢false (sym e))

-- what a board was told, as the result of its session
pub closed_as : {K : Type 0} (lines : K → List Line) (stored : List Line) (places : List Place) (known any : Bool)
    (told : Option Fault) (it : Recorded K)
    → HasAll places any told stored (done_of lines it) × (known ≡ true)
    ⊎ (it.fault ≡ Some NoReader) × (it.journal ≡ None) × (it.refused ≡ false)
    → HasAll places any told stored (done_of lines it) × (known ≡ true)
    ⊎ ((done_of lines it).fault ≡ Some NoReader) × ((done_of lines it).history ≡ []) × ((done_of lines it).refused ≡ false)
closed_as lines stored places known any told it closed =
    ⊎_elim (λ all. inl all) (λ none. inr (none.0, ap (journal_lines lines) none.1, none.2)) closed

-- what a session did whose receiver ended
served_by : (rules : Rules) (workers : ℕ) (it : Reception) (start held : Option (List ℕ)) (broken : Bool)
    (sents : List (Appended ReplyEntry)) (places : List Place) (orders : Weight → ℕ) (any lost whole : Bool)
    (told : Option Fault) (stored : List Line) (done : Done)
    → HasReceived it → it.sent ≡ record { author = workers; count = 0; upto = [] }
    → HaveDone by_place (IsAnsweredAfter rules) orders places sents any lost
    → HasSaidGoodbye start (record { held = held; waiting = []; broken = broken }) sents it.sent_now it.goodbye whole
    → ((weight : Weight) → sum_by weight it.orders ≡ orders weight)
    → map (λ (p : Place). p.worker) places ≡ range_with_len 0 workers
    → ((messages : List (List ℕ)) (rest : List ℕ) (left : Option (List ℕ))
    → IsEnding it.fault (handshake_of messages).over rest left → EndsBy told broken messages rest left)
    → HasAll places any told stored done × ((whole && not (it.lost || lost)) ≡ true)
    ⊎ (done.fault ≡ Some NoReader) × (done.history ≡ []) × (done.refused ≡ false)
    → IsServedBy workers rules (record { left = it.left; left_now = it.left_now; held = start; held_now = held }) stored done
served_by rules workers it start held broken sents places orders any lost whole told stored done received fresh did said is
    whose ends closed = record {
      messages = received.messages;
      rest = received.rest;
      log = said.log;
      parts = parts_of rules did.works did.each;
      broken = broken;
      is_read = received.is_read;
      bounded = received.bounded;
      sent = said.given;
      given = ⊎_elim
          (λ all. let known = all_known whole it.lost lost all.1 in
          inl (all_given rules workers it start _ sents places orders any lost whole received fresh did said known.1
          known.2 known.0))
          (λ none. inr none.0) closed;
      ending = ⊎_elim
          (λ all. inl (rw all.0.told (ends received.messages received.rest it.left_now received.ending)))
          (λ none. inr none.0) closed;
      orders = ⊎_elim
          (λ all. inl (all_done rules workers received.messages it.orders sents places orders any lost told stored done received.said
          is whose did all.0))
          (λ none. inr (record { fault = inl none.0; history = none.1; refused = none.2 })) closed;
      unrefused = ⊎_elim
          (λ all no_reader. absurd (never_no_reader _ _ _ _ _ (ends received.messages received.rest it.left_now received.ending)
          (sym all.0.told ∙ no_reader)))
          (λ none _. none.2) closed;
    }

-- nothing was given, and nobody took anything
none_given : (workers : ℕ) (log : List ReplyEntry) → log ≡ [] → AreAllGiven workers [] [] log
none_given workers log none = record {
  each = All-nil _;
  own = ap (entries_of workers) none;
  no_others = ap length none;
  goodbye = λ over. absurd (true≢false (sym over));
}

-- what a session did that had no memory, or no reader
pub unserved : (workers : ℕ) (rules : Rules) (streams : Streams) (log : List ReplyEntry) (broken : Bool) (stored : List Line)
    (done : Done)
    → IsRead streams.left streams.left_now [] []
    → IsGiven streams.held (record { held = streams.held_now; waiting = []; broken = broken }) (spelled log)
    → (done.fault ≡ Some NoMemory) × (log ≡ []) ⊎ (done.fault ≡ Some NoReader) → done.history ≡ []
    → done.refused ≡ false → IsServedBy workers rules streams stored done
unserved workers rules streams log broken stored done unread sent why none unrefused = record {
  messages = [];
  rest = [];
  log = log;
  parts = [];
  broken = broken;
  is_read = unread;
  bounded = omega arith;
  sent = sent;
  given = ⊎_elim (λ memory. inl (none_given workers log memory.1)) inr why;
  ending = ⊎_elim
      (λ memory. inl (subst (λ f. EndsBy f broken [] [] streams.left_now) (sym memory.0) (refl, refl))) inr why;
  orders = inr (record { fault = ⊎_elim (λ memory. inr memory.0) inl why; history = none; refused = unrefused });
  unrefused = λ _. unrefused;
}

-- the lines of a journal began with nothing, and so did none
pub begun_lines : {K : Type 0} (rules : Rules) (lines : K → List Line) (journal : Option K)
    → IfSome journal (λ k. IsLegalFromNothing rules (lines k)) → IsLegalFromNothing rules (journal_lines lines journal)
begun_lines rules lines None legal = (nothing, refl)
begun_lines rules lines (Some journal) legal = legal

-- the same, of which nothing was recorded
pub none_recorded : {K : Type 0} (lines stored : K → List Line) (workers : ℕ) (rules : Rules) (streams : Streams)
    (log : List ReplyEntry) (broken : Bool) (it : Recorded K) → (it.journal ≡ None) × (it.refused ≡ false)
    → (it.fault ≡ Some NoMemory) × (log ≡ []) ⊎ (it.fault ≡ Some NoReader)
    → IsRead streams.left streams.left_now [] []
    → IsGiven streams.held (record { held = streams.held_now; waiting = []; broken = broken }) (spelled log)
    → Keeps streams.left streams.left_now → (it.fault ≡ Some NoMemory → Keeps streams.held streams.held_now)
    → IsRecordedBy lines stored workers rules streams it
none_recorded lines stored workers rules streams log broken it none why unread sent read wrote = record {
  legal = subst (λ k. IfSome k (λ k. IsLegalFromNothing rules (lines k))) (sym none.0) tt;
  served = unserved workers rules streams log broken (journal_lines stored it.journal) (done_of lines it) unread sent why
      (ap (journal_lines lines) none.0) none.1;
  back = ⊎_elim (λ memory. inr (inl memory.0)) (λ reader. inr (inr reader)) why;
  nothing = λ _. (none.0, read);
  unwritten = wrote;
  untold = λ _. none.0;
}

-- the same, of which a worker couldn't be started: either the writer holds what it held, or there is no reader
pub unstarted_recorded : {K : Type 0} (lines stored : K → List Line) (workers : ℕ) (rules : Rules)
    (left left_now start held : Option (List ℕ)) (log : List ReplyEntry) (broken : Bool) (it : Recorded K)
    → (it.journal ≡ None) × (it.refused ≡ false) → (it.fault ≡ Some NoMemory) ⊎ (it.fault ≡ Some NoReader)
    → IsRead left left_now [] [] → IsGiven start (record { held = held; waiting = []; broken = broken }) (spelled log) → Keeps left left_now
    → (it.fault ≡ Some NoMemory → held ≡ start)
    → IsRecordedBy lines stored workers rules (record { left = left; left_now = left_now; held = start; held_now = held }) it
unstarted_recorded lines stored workers rules left left_now start held log broken it none why unread sent read wrote =
    let kept : it.fault ≡ Some NoMemory → Keeps start held =
    λ memory. subst (λ h. Keeps start h) (sym (wrote memory)) (Keeps-refl start) in
    ⊎_elim
    (λ memory. none_recorded lines stored workers rules _ [] false it none (inl (memory, refl)) unread
    (subst (λ h. IsGiven start (record { held = h; waiting = []; broken = false }) (spelled [])) (sym (wrote memory)) (nothing_given start))
    read kept)
    (λ reader. none_recorded lines stored workers rules _ log broken it none (inr reader) unread sent read kept) why

-- the same, whose board was told; its rules, and what its writer held, have a name each
pub all_recorded : {K : Type 0} (lines stored : K → List Line) (workers takers : ℕ) (rules by : Rules) (streams : Streams)
    (start : Option (List ℕ)) (it : Recorded K) → takers ≡ workers → rules ≡ by → streams.held ≡ start
    → IfSome it.journal (λ k. IsLegalFromNothing by (lines k))
    → IsServedBy takers by (record streams { held = start }) (journal_lines stored it.journal) (done_of lines it)
    → IsSome it.journal ⊎ (it.fault ≡ Some NoReader) → it.fault ≢ Some NoMemory
    → (it.fault ≡ Some NoReader → it.journal ≡ None) → IsRecordedBy lines stored workers rules streams it
all_recorded lines stored workers takers rules by streams start it as_many same begun legal served back some untold = record {
  legal = rw same legal;
  served =
      let kept = journal_lines stored it.journal in
      let here = subst (λ held. IsServedBy takers by (record streams { held = held }) kept (done_of lines it)) (sym begun) served in
      subst (λ n. IsServedBy n rules streams kept (done_of lines it)) as_many
      (subst (λ r. IsServedBy takers r streams kept (done_of lines it)) (sym same) here);
  back = ⊎_elim inl (λ none. inr (inr none)) back;
  nothing = λ memory. absurd (some memory);
  unwritten = λ memory. absurd (some memory);
  untold = untold;
}

-- what a session did that was served at a board
pub board_served : {C : Type 0} (rules : Rules) (workers : ℕ) (streams : Streams) (it : Served C Place)
    (stored : List Line) (done : Done) → HasServed by_place (IsAnsweredAfter rules) workers streams it
    → HasAll it.seats.items it.refused it.fault stored done × (it.known ≡ true)
    ⊎ (done.fault ≡ Some NoReader) × (done.history ≡ []) × (done.refused ≡ false)
    → IsServedBy workers rules streams stored done
board_served rules workers streams it stored done did closed =
    served_by rules workers _ streams.held streams.held_now did.broken did.sents it.seats.items
    (λ weight. sum_by weight did.orders) it.refused did.lost did.whole it.fault stored done did.received refl did.did did.said
    (λ weight. refl) did.whose did.ends
    (⊎_elim (λ all. inl (all.0, sym did.known ∙ all.1)) inr closed)
