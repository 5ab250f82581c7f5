-- What a message is at a server.
use Rattle.std.proofs.Common.{◌≡◌, ℕ, suc, ◌+◌, ◌≤◌, Bool, false, List, [], ◌∷◌, ◌++◌, length, drop, Option, None, Some, refl}
use Rattle.std.proofs.Common.{sym, ap, subst, ◌∙◌, arith, append_assoc, append-nil, drop-cons}
use Rattle.std.specs.Prelude.{if◌then◌else◌, slice_get, is_some}
use Rattle.std.proofs.lemmas.List.{at_drop_all}
use Rattle.std.proofs.lemmas.Option.{get_or_from_slice_get, slice_get_within}
use Rattle.fl_desk.specs.Kept.{Book}
use Rattle.fl_order.specs.declared.order.Order.{Order}
use Rattle.fl_session.proofs.Prefixes.{of_another, of_itself}
use Rattle.fl_session.specs.Inside.Serving.{session_with, AreTaken, AreTakenAgain, IsMet, IsTaken}
use Rattle.fl_session.specs.Inside.UnderWay.{TakesMany, TakesOne}
use Rattle.fl_session.specs.Again.{incoming_under, unmarked}
use Rattle.fl_session.specs.Session.{Session, with_again, with_either, with_message, with_orders, with_orders_again, with_response}
use Rattle.fl_session.specs.Whole.{bytes_in}
use Rattle.fl_session.specs.declared.server.Server.{Server}
use Rattle.fl_transport.specs.Collecting.{IsGiven, Outgoing}
use Rattle.fl_transport.specs.Handshake.{advanced, incoming_of}
use Rattle.fl_transport.specs.declared.handshake.Handshake.{Handshake}
use Rattle.fl_transport.specs.declared.handshake.Incoming.{Incoming}
use Rattle.fl_transport.specs.declared.handshake.Incoming.TheVariants as incoming
use Rattle.fl_transport.specs.declared.response.Response.{Response}
use Rattle.fl_wire.specs.Layout.{unique_of}

-- a message of a session that isn't over, which is this to it and brings it there
met_as : (s : Session) (handshake : Handshake) (it : Incoming) (message : List ℕ) (marked : Option ℕ) (refused : List Bool)
    → s.handshake.over ≡ false → incoming_of s.rules.whole s.handshake message ≡ it → handshake ≡ advanced s.handshake message
    → unmarked s.resends (unique_of message) ≡ marked
    → with_message s (record { message = message; refused = refused })
    ≡ with_either (record s { handshake = handshake }) marked refused it
met_as s handshake it message marked refused live is there mark =
    let now : Session = record s { handshake = advanced s.handshake message } in
    ap (λ over. if over then s
    else with_either now (unmarked s.resends (unique_of message)) refused (incoming_of s.rules.whole s.handshake message)) live
    ∙ ap (λ m. with_either now m refused (incoming_of s.rules.whole s.handshake message)) mark
    ∙ ap (with_either now marked refused) is
    ∙ ap (λ h. with_either (record s { handshake = h }) marked refused it) (sym there)

-- an order is taken
pub met_order : {K : Type 0} (old new : Server K) (handshake : Handshake) (order : Order) (replies : List (List ℕ))
    (message : List ℕ) → old.handshake.over ≡ false → incoming_of old.desk.present.rules.whole old.handshake message ≡ incoming.Order order
    → handshake ≡ advanced old.handshake message → unmarked (is_some old.recent) (unique_of message) ≡ None
    → IsTaken (record old { handshake = handshake }) new replies order → IsMet old new replies message
met_order old new handshake order replies message live is there mark taken = record {
  refused = taken.refused ∷ [];
  is = λ before. taken.is before
      ∙ sym (met_as (session_with old before) handshake (incoming.Order order) message None (taken.refused ∷ []) live is there mark);
}

-- a batch is taken
pub met_batch : {K : Type 0} (old new : Server K) (handshake : Handshake) (orders : List Order) (replies : List (List ℕ))
    (message : List ℕ) → old.handshake.over ≡ false → incoming_of old.desk.present.rules.whole old.handshake message ≡ incoming.Batch orders
    → handshake ≡ advanced old.handshake message → unmarked (is_some old.recent) (unique_of message) ≡ None
    → AreTaken (record old { handshake = handshake }) new replies orders [] → IsMet old new replies message
met_batch old new handshake orders replies message live is there mark taken =
    let flags : List Bool = taken.refused ++ [] in
    record {
      refused = flags;
      is = λ before. taken.is before []
          ∙ sym (met_as (session_with old before) handshake (incoming.Batch orders) message None flags live is there mark);
    }

-- a message whose orders under this unique are these is sent again
pub met_again : {K : Type 0} (old new : Server K) (handshake : Handshake) (it : Incoming) (unique : ℕ)
    (orders : List Order) (replies : List (List ℕ)) (message : List ℕ) → old.handshake.over ≡ false
    → incoming_of old.desk.present.rules.whole old.handshake message ≡ it → handshake ≡ advanced old.handshake message
    → unmarked (is_some old.recent) (unique_of message) ≡ Some unique
    → ((s : Session) (refused : List Bool)
    → with_again s unique refused (incoming_under unique it) ≡ with_orders_again s unique orders refused)
    → AreTakenAgain (record old { handshake = handshake }) new replies unique orders → IsMet old new replies message
met_again old new handshake it unique orders replies message live is there mark has taken = record {
  refused = taken.refused;
  is = λ before. taken.is before
      ∙ sym (met_as (session_with old before) handshake it message (Some unique) taken.refused live is there mark
      ∙ has (record (session_with old before) { handshake = handshake }) taken.refused);
}

-- the session itself answers a message, whether it is new or sent again
pub met_by_itself : {K : Type 0} (old : Server K) (desk : Book) (handshake : Handshake) (it : Incoming)
    (marked : Option ℕ) (response : Response) (message : List ℕ) → old.handshake.over ≡ false
    → incoming_of old.desk.present.rules.whole old.handshake message ≡ it → handshake ≡ advanced old.handshake message
    → unmarked (is_some old.recent) (unique_of message) ≡ marked
    → ((s : Session) → with_either s marked [] it ≡ with_response s response)
    → desk.lines ≡ old.desk.lines → desk.present ≡ old.desk.present
    → IsMet old (record old { desk = desk; handshake = handshake }) (bytes_in old.desk.present.rules old.desk.lines response)
    message
met_by_itself old desk handshake it marked response message live is there mark answers lines present = record {
  refused = [];
  is = λ before. rw (lines, present)
      (sym (met_as (session_with old before) handshake it message marked [] live is there mark
      ∙ answers (record (session_with old before) { handshake = handshake })));
}

-- ---- the orders of a batch, one after another

-- none is taken yet
pub many_first : {K : Type 0} (server : Server K) (out : Outgoing) (orders : List Order)
    → TakesMany server server out out orders orders
many_first server out orders = record {
  replies = [];
  taken = record {
    refused = [];
    is = λ before later. ap (λ before. with_orders (session_with server before) orders later) (append-nil before);
  };
  collected = record {
    onward = λ start replies given. subst (IsGiven start out) (sym (append-nil replies)) given;
  };
  stored = of_itself _ _ refl;
  unwritten = refl;
}

-- the first that is left stands at the place of how many there were before it
left_first : (orders : List Order) (i : ℕ) (order : Order) → slice_get orders i ≡ Some order
    → drop i orders ≡ order ∷ drop (i + 1) orders
left_first orders i order at =
    let next : suc i ≡ i + 1 = omega arith in
    drop-cons orders i order (slice_get_within orders i order at)
    ∙ ap (λ first. first ∷ drop (suc i) orders) (get_or_from_slice_get orders i order order at)
    ∙ ap (λ n. order ∷ drop n orders) next

-- one more is taken
pub many_more : {K : Type 0} (old now next : Server K) (a b c : Outgoing) (orders left rest : List Order)
    (order : Order) → left ≡ order ∷ rest → c.held ≡ b.held → TakesMany old now a b orders left
    → TakesOne now next b c order → TakesMany old next a c orders rest
many_more old now next a b c orders left rest order first held many one =
    let flag : Bool = one.taken.refused in
    record {
      replies = many.replies ++ one.replies;
      taken = record {
        refused = many.taken.refused ++ flag ∷ [];
        is = λ before later.
            ap (λ replies. with_orders (session_with next replies) rest later)
            (sym (append_assoc before many.replies one.replies))
            ∙ ap (λ s. with_orders s rest later) (one.taken.is (before ++ many.replies))
            ∙ ap (λ left. with_orders (session_with now (before ++ many.replies)) left (flag ∷ later)) (sym first)
            ∙ many.taken.is before (flag ∷ later)
            ∙ ap (with_orders (session_with old before) orders)
            (sym (append_assoc many.taken.refused (flag ∷ []) later));
      };
      collected = record {
        onward = λ start replies given. subst (IsGiven start c) (append_assoc replies many.replies one.replies)
            (one.collected.onward start (replies ++ many.replies) (many.collected.onward start replies given));
      };
      stored = of_another _ _ _ many.stored one.behind.0;
      unwritten = held ∙ many.unwritten;
    }

-- the order at this place of all is taken
pub many_next : {K : Type 0} (old now next : Server K) (a b c : Outgoing) (orders all : List Order) (i : ℕ)
    (order : Order) → slice_get all i ≡ Some order → c.held ≡ b.held
    → TakesMany old now a b orders (drop i all) → TakesOne now next b c order
    → TakesMany old next a c orders (drop (i + 1) all)
many_next old now next a b c orders all i order at held many one =
    many_more old now next a b c orders (drop i all) (drop (i + 1) all) order (left_first all i order at) held many one

-- all are taken
pub many_all : {K : Type 0} (old now : Server K) (a b : Outgoing) (orders all : List Order) (i : ℕ) → length all ≤ i
    → TakesMany old now a b orders (drop i all) → TakesMany old now a b orders []
many_all old now a b orders all i past many =
    subst (TakesMany old now a b orders) (at_drop_all (λ left. left) all i past) many
