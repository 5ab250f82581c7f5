-- How a session ran.
use Rattle.std.proofs.Common.{◌≡◌, ℕ, ◌+◌, ◌<◌, Bool, false, List, [], ◌∷◌, ◌++◌, All, Option, length, map, sum_by}
use Rattle.std.proofs.Common.{sym, ap, ◌∙◌, subst, arith, append-nil, inl, inr, length-append}
use Rattle.std.specs.Prelude.{◌||◌, IfSome, None, Some, option_to_list, vec_capacity}
use Rattle.std.proofs.lemmas.List.{map-append}
use Rattle.std.proofs.lemmas.List.Elements.{All-cons, All-head, All-nil, All-tail}
use Rattle.std.proofs.lemmas.List.Sums.{sum_by-cons}
use Rattle.atomic_table.specs.Seated.{TableId}
use Rattle.fl_counter.specs.Asked.{Orders}
use Rattle.fl_intake.specs.Ends.{PutSide, TakeSide, weight_taken}
use Rattle.fl_intake.specs.Often.{Weight}
use Rattle.fl_pool.proofs.WorkingLemmas.{Sent, all_pushed, none_back, one_back, or_false}
use Rattle.fl_pool.specs.Running.{HasAdded, HasAddedIf, HasRun, HaveWorked, IsInline, IsReady}
use Rattle.fl_pool.specs.Working.{HasComeBack, IsDone, IsFresh, IsIdle, Reading, Work, idle, standing_at}
use Rattle.fl_pool.specs.declared.crew.Back.{Back}
use Rattle.fl_pool.specs.declared.crew.Worker.{Worker}
use Rattle.fl_pool.specs.declared.pool.Ran.{Ran}
use Rattle.fl_workers.specs.Dispatched.{AreDispatched, AreMerged, HasGot, Inline}
use Rattle.fl_workers.specs.Worked.{HasWorked, Shows, Standing}

-- two lists weigh what they do as one
merged_weighs : (weight : Weight) (xs ys zs : Orders) → AreMerged xs ys zs
    → sum_by weight zs ≡ sum_by weight xs + sum_by weight ys
merged_weighs weight xs ys [] none = omega (arith, ap (sum_by weight) none.0, ap (sum_by weight) none.1)
merged_weighs weight xs ys (z ∷ zs) (inl it) = omega (
  arith,
  ap (sum_by weight) it.1,
  sum_by-cons weight z zs,
  sum_by-cons weight z it.0,
  merged_weighs weight it.0 ys zs it.2,
)
merged_weighs weight xs ys (z ∷ zs) (inr it) = omega (
  arith,
  ap (sum_by weight) it.1,
  sum_by-cons weight z zs,
  sum_by-cons weight z it.0,
  merged_weighs weight xs it.0 zs it.2,
)

-- the first and the others of a list of which all are so, if the first was taken out or not
pub split_all : {X : Type 0} (P : X → Type 0) (first : Option X) (rest all : List X) → all ≡ option_to_list first ++ rest
    → All P all → IfSome first P × All P rest
split_all P None rest all is each = (tt, subst (All P) is each)
split_all P (Some x) rest all is each =
    let both = subst (All P) is each in (All-head P x rest both, All-tail P x rest both)

-- ---- who came back

abbrev pub IsUntouched : {C N S : Type 0} → Back C N S → Type 0
IsUntouched back = (back.seats.items ≡ []) × (back.appenders.items ≡ []) × (back.ends.items ≡ [])
    × (back.failures.refused ≡ false) × (back.failures.lost ≡ false)

-- nobody yet
none_joined : {C N S : Type 0} (r : Reading S) (shows : Shows) (of : TableId) (back : Back C N S) → IsUntouched back
    → 0 < vec_capacity back.appenders → HaveWorked r shows of [] [] back
none_joined r shows of back none room = record {
  came = record {
    whose = ap (map r.worker) none.0;
    pairs = (ap length none.1, ap length none.2);
    ends = subst (All (λ (e : TakeSide). e.of ≡ of)) (sym none.2) (All-nil _);
    room = omega (arith, ap length none.1, room);
  };
  did = none_back r shows back.ends.items back.seats.items back.appenders.items back.failures.refused back.failures.lost
      none.2 none.0 none.1 none.3 none.4;
}

-- the worker in the reader's thread
inline_joined : {C N S : Type 0} (r : Reading S) (shows : Shows) (of : TableId) (worker : Worker C N S) (began ended : Inline)
    (old new : Back C N S) (orders : Orders) → IsIdle r worker.post.seat worker.post.own → IsFresh of worker.end
    → IsInline r (Some worker) (Some began)
    → HasGot shows began ended orders → ended.waiting ≡ [] → IsUntouched old
    → HasAddedIf r old (Some ended) new → 1 < vec_capacity old.appenders
    → HaveWorked r shows of (r.worker worker.post.seat ∷ []) orders new
inline_joined {S = S} r shows of worker began ended old new orders nothing fresh is got none untouched it room =
    let place = it.0 in
    let sent = it.1 in
    let at : standing_at r place sent ≡ ended.standing = it.2 in
    let added = it.3 in
    let start : began.standing ≡ idle (r.worker worker.post.seat) = is.0 ∙ nothing in
    let whose : r.worker place ≡ r.worker worker.post.seat =
    ap (λ (s : Standing). s.worker) at ∙ got.worked.worker ∙ ap (λ (s : Standing). s.worker) start in
    let all : got.handled ≡ orders = sym (got.are ∙ ap (λ l. got.handled ++ l) none ∙ append-nil got.handled) in
    let first : HasWorked shows got.handled began.standing (standing_at r place sent) ended.refused ended.lost =
    subst (λ s. HasWorked shows got.handled began.standing s ended.refused ended.lost) (sym at) got.worked in
    let second : HasWorked shows got.handled (idle (r.worker place)) (standing_at r place sent) ended.refused ended.lost =
    subst (λ s. HasWorked shows got.handled s (standing_at r place sent) ended.refused ended.lost)
    (start ∙ sym (ap idle whose)) first in
    let work : Work S = record { seat = place; sent = sent; orders = orders; any = ended.refused; lost = ended.lost } in
    let done : IsDone r shows work =
    subst (λ os. HasWorked shows os (idle (r.worker place)) (standing_at r place sent) ended.refused ended.lost) all second in
    let seats : new.seats.items ≡ place ∷ [] = added.seats ∙ ap (λ l. l ++ place ∷ []) untouched.0 in
    let appenders : new.appenders.items ≡ sent ∷ [] = added.appenders ∙ ap (λ l. l ++ sent ∷ []) untouched.1 in
    let ends : new.ends.items ≡ ended.end ∷ [] = added.ends ∙ ap (λ l. l ++ ended.end ∷ []) untouched.2 in
    let end : ended.end ≡ worker.end = got.end ∙ is.1 in
    let taken : ended.end.taken ≡ [] = ap (λ (e : TakeSide). e.taken) end ∙ fresh.1 in
    record {
      came = record {
        whose = ap (map r.worker) seats ∙ ap (λ n. n ∷ []) whose;
        pairs = (ap length appenders, ap length ends);
        ends = subst (All (λ (e : TakeSide). e.of ≡ of)) (sym ends)
            (All-cons (λ (e : TakeSide). e.of ≡ of) ended.end [] (ap (λ (e : TakeSide). e.of) end ∙ fresh.0)
            (All-nil _));
        room = omega (arith, ap length appenders, added.room.1, room);
      };
      did = record {
        works = work ∷ [];
        at = sym seats;
        gave = sym appenders;
        each = All-cons (IsDone r shows) work [] done (All-nil (IsDone r shows));
        weighs = λ weight. omega (
          arith,
          ap (weight_taken weight) ends,
          sum_by-cons (λ (e : TakeSide). sum_by weight e.taken) ended.end [],
          ap (sum_by weight) taken,
          sum_by-cons (λ (w : Work S). sum_by weight w.orders) work [],
        );
        refused = added.refused ∙ ap (λ b. b || ended.refused) untouched.3 ∙ sym (or_false ended.refused);
        missing = added.lost ∙ ap (λ b. b || ended.lost) untouched.4 ∙ sym (or_false ended.lost);
      };
    }

-- one worker more, from a thread of its own
pub one_joined : {C N S : Type 0} (r : Reading S) (shows : Shows) (of : TableId) (names : List ℕ) (inline : Orders) (old new : Back C N S)
    (worker : ℕ) (end end_now : TakeSide) (place : S) (gave : Sent) (more gone : Bool)
    → HaveWorked r shows of names inline old → (end.of ≡ of) × (end.taken ≡ [])
    → HasComeBack r shows worker end place gave end_now more gone → HasAdded old new place gave end_now more gone
    → length new.appenders.items < vec_capacity new.appenders → HaveWorked r shows of (names ++ worker ∷ []) inline new
one_joined r shows of names inline old new worker end end_now place gave more gone so_far fresh back added room = record {
  came = record {
    whose = ap (map r.worker) added.seats
        ∙ map-append r.worker old.seats.items (place ∷ [])
        ∙ (λ i. so_far.came.whose i ++ back.whose i ∷ []);
    pairs = (
      omega (
        arith,
        ap length added.appenders ∙ length-append old.appenders.items (gave ∷ []),
        so_far.came.pairs.0,
        length-append names (worker ∷ []),
      ),
      omega (
        arith,
        ap length added.ends ∙ length-append old.ends.items (end_now ∷ []),
        so_far.came.pairs.1,
        length-append names (worker ∷ []),
      ),
    );
    ends = all_pushed (λ (e : TakeSide). e.of ≡ of) old.ends.items new.ends.items end_now added.ends so_far.came.ends
        (back.same ∙ fresh.0);
    room = room;
  };
  did = one_back r shows (λ weight. sum_by weight inline) old.ends.items new.ends.items old.seats.items new.seats.items
      old.appenders.items new.appenders.items old.failures.refused new.failures.refused old.failures.lost
      new.failures.lost more gone worker end end_now place gave so_far.did fresh.1 back added.ends added.seats
      added.appenders added.refused added.lost;
}

-- ---- the receiver's part

abbrev pub named : {C N S : Type 0} → Reading S → List (Worker C N S) → List ℕ
named r workers = map (λ worker. r.worker worker.post.seat) workers

-- what became of the orders of a receiver, and of the worker in its thread
pub received_at : {C N S : Type 0} (r : Reading S) (shows : Shows) (of : TableId) (first : Option (Worker C N S)) (began ended : Option Inline)
    (put said : Orders) (old new : Back C N S) (most : ℕ) → IsInline r first began
    → AreDispatched shows began put ended said → IfSome ended (λ worker. worker.waiting ≡ [])
    → IfSome first (IsReady r most of) → IsUntouched old → HasAddedIf r old ended new
    → 1 < vec_capacity old.appenders
    → (inline : Orders) × ((weight : Weight) → sum_by weight said ≡ sum_by weight put + sum_by weight inline)
    × HaveWorked r shows of (named r (option_to_list first)) inline new
received_at r shows of None None None put said old new most is all none ready untouched added room = (
  all.got,
  λ weight. merged_weighs weight put all.got said all.merged,
  subst (λ l. HaveWorked r shows of [] l new) (sym all.there)
      (subst (HaveWorked r shows of [] []) (sym added) (none_joined r shows of old untouched (omega (arith, room)))),
)
received_at r shows of None None (Some ended) put said old new most is all none ready untouched added room = absurd all.there
received_at r shows of None (Some began) ended put said old new most is all none ready untouched added room = absurd is
received_at r shows of (Some worker) None ended put said old new most is all none ready untouched added room = absurd is
received_at r shows of (Some worker) (Some began) None put said old new most is all none ready untouched added room =
    absurd all.there
received_at r shows of (Some worker) (Some began) (Some ended) put said old new most is all none ready untouched added room = (
  all.got,
  λ weight. merged_weighs weight put all.got said all.merged,
  inline_joined r shows of worker began ended old new all.got ready.idle ready.end is all.there none untouched added
      room,
)

-- ---- the session

-- other workers were joined
pub run_joined : {C N S : Type 0} (r : Reading S) (shows : Shows) (of : TableId) (put : PutSide) (names more all : List ℕ)
    (left left_now : Option (List ℕ)) (sent : Sent) (ran ran_now : Ran C N S)
    → HasRun r shows of put names left left_now sent ran → ran_now.received ≡ ran.received
    → ((workers : List ℕ) (inline : Orders) → HaveWorked r shows of workers inline ran.back
    → HaveWorked r shows of (workers ++ more) inline ran_now.back) → names ++ more ≡ all
    → HasRun r shows of put all left left_now sent ran_now
run_joined r shows of put names more all left left_now sent ran ran_now run same joins is = record {
  same = rw same run.same;
  orders = run.orders;
  inline = run.inline;
  shared = rw same run.shared;
  worked = subst (λ l. HaveWorked r shows of l run.inline ran_now.back) is (joins names run.inline run.worked);
  received = rw same run.received;
  memory = rw same run.memory;
}
