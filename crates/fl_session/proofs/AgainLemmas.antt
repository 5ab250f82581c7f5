-- What orders that are sent again are at a server.
use Rattle.std.proofs.Common.{◌≡◌, ℕ, Bool, true, false, List, [], ◌∷◌, ◌++◌, drop, Option, None, Some, refl, sym, ap, ◌∙◌}
use Rattle.std.proofs.Common.{append-nil, append_assoc, inl, arith}
use Rattle.std.proofs.Math.ListN.{drop_of_length-le}
use Rattle.std.specs.Prelude.{if◌then◌else◌, is_some, IfSome}
use Rattle.fl_desk.specs.Kept.{Book, IsKept}
use Rattle.fl_desk.specs.Replay.{state_after}
use Rattle.fl_history.specs.declared.history.Line.{Line}
use Rattle.fl_history.specs.declared.recent.Recalled.{Recalled}
use Rattle.fl_history.specs.declared.recent.Recalled.TheVariants as recall
use Rattle.fl_order.specs.declared.order.Order.{Order}
use Rattle.fl_order.specs.declared.told.Told.{Told}
use Rattle.fl_session.proofs.ReplyingLemmas.{behind_none, Collects-none}
use Rattle.fl_session.specs.Inside.Serving.{session_with, recalled_at, with_lines}
use Rattle.fl_session.specs.Inside.UnderWay.{TakesAgain, TakesMany, TakesOne, WritesBehind}
use Rattle.fl_session.specs.Session.{Session, recalled_in, with_orders, with_orders_again, with_recalled}
use Rattle.fl_session.specs.declared.server.Server.{Server}
use Rattle.fl_transport.specs.Collecting.{Collects, Outgoing}
use Rattle.fl_transport.specs.Response.{bytes_of}
use Rattle.fl_transport.specs.declared.response.Response.TheVariants.{One}
use Rattle.fl_waiting.specs.Waiting.{is_parked}

-- ---- the last lines

-- they are known as before
pub known_still : (recent : Option (List Line)) (more : List Line) → is_some (with_lines recent more) ≡ is_some recent
known_still None more = refl
known_still (Some lines) more = refl

-- they are still those that were heard before, and those of the desk
pub recalls_more : (recent : Option (List Line)) (heard lines more now : List Line) → now ≡ lines ++ more
    → IfSome recent (λ had. had ≡ heard ++ lines) → IfSome (with_lines recent more) (λ had. had ≡ heard ++ now)
recalls_more None heard lines more now grown same = tt
recalls_more (Some had) heard lines more now grown same =
    ap (λ l. l ++ more) same ∙ append_assoc heard lines more ∙ ap (λ l. heard ++ l) (sym grown)

-- ---- orders that are sent again

-- what becomes of them, by what lines say unless they wait
abbrev by_recalled : Session → Option Recalled → List Order → List Bool → Session
by_recalled s None orders refused = s
by_recalled s (Some r) orders refused = with_recalled s r orders refused

again_by : (s : Session) (unique : ℕ) (orders : List Order) (refused : List Bool) (found : Option Recalled)
    → found ≡ recalled_at s.rules s.heard s.lines unique → with_orders_again s unique orders refused ≡ by_recalled s found orders refused
again_by s unique orders refused found is = go (is_parked unique (state_after s.rules s.lines).view.parked) (sym is)
  where
    r : Recalled
    r = recalled_in s unique

    go : (waits : Bool) → (if waits then None else Some r) ≡ found
        → (if waits then s else with_recalled s r orders refused) ≡ by_recalled s found orders refused
    go true e = ap (λ f. by_recalled s f orders refused) e
    go false e = ap (λ f. by_recalled s f orders refused) e

-- a request of their unique is parked
pub again_waits : {K : Type 0} (server : Server K) (out : Outgoing) (unique : ℕ) (orders : List Order) (found : Option Recalled)
    → found ≡ recalled_at server.desk.present.rules server.heard.items server.desk.lines unique → found ≡ None
    → TakesAgain server server out out unique orders
again_waits server out unique orders found is none = record {
  replies = [];
  taken = record {
    refused = [];
    is = λ before. ap (session_with server) (append-nil before)
        ∙ sym (again_by (session_with server before) unique orders [] None (sym none ∙ is));
  };
  collected = Collects-none out;
  behind = behind_none server.desk out;
}

-- their reply is sent once more
pub again_told : {K : Type 0} (server : Server K) (desk : Book) (a b : Outgoing) (unique : ℕ) (orders : List Order)
    (found : Option Recalled) (told : Told) → found ≡ recalled_at server.desk.present.rules server.heard.items server.desk.lines unique
    → found ≡ Some (recall.Told told) → desk.lines ≡ server.desk.lines → desk.present ≡ server.desk.present
    → Collects a b (bytes_of (One told)) → WritesBehind server.desk desk a b
    → TakesAgain server (record server { desk = desk }) a b unique orders
again_told server desk a b unique orders found told is some lines present collected behind = record {
  replies = bytes_of (One told);
  taken = record {
    refused = [];
    is = λ before. rw (lines, present)
        (sym (again_by (session_with server before) unique orders [] (Some (recall.Told told)) (sym some ∙ is)));
  };
  collected = collected;
  behind = behind;
}

-- the lines lack the one that is left
pub again_one : {K : Type 0} (old new : Server K) (a b : Outgoing) (unique : ℕ) (order : Order) (found : Option Recalled)
    (count : ℕ) → found ≡ recalled_at old.desk.present.rules old.heard.items old.desk.lines unique → found ≡ Some (recall.Asked count)
    → count ≡ 0 → TakesOne old new a b order → TakesAgain old new a b unique (order ∷ [])
again_one old new a b unique order found count is some none one = record {
  replies = one.replies;
  taken = record {
    refused = one.taken.refused ∷ [];
    is = λ before. one.taken.is before
        ∙ sym (again_by (session_with old before) unique (order ∷ []) (one.taken.refused ∷ []) (Some (recall.Asked 0))
        (sym (some ∙ ap (λ n. Some (recall.Asked n)) none) ∙ is));
  };
  collected = one.collected;
  behind = one.behind;
}

-- the lines have the only one
pub again_none : {K : Type 0} (server : Server K) (out : Outgoing) (unique : ℕ) (order : Order) (found : Option Recalled)
    (count : ℕ) → found ≡ recalled_at server.desk.present.rules server.heard.items server.desk.lines unique
    → found ≡ Some (recall.Asked count) → (count ≡ 0 → ⊥) → TakesAgain server server out out unique (order ∷ [])
again_none server out unique order found count is some had = record {
  replies = [];
  taken = record {
    refused = [];
    is = λ before. ap (session_with server) (append-nil before)
        ∙ sym (again_by (session_with server before) unique (order ∷ []) [] (Some (recall.Asked count)) (sym some ∙ is)
        ∙ ap (λ left. with_orders (session_with server before) left []) (gone count had));
  };
  collected = Collects-none out;
  behind = behind_none server.desk out;
}
  where
    gone : (n : ℕ) → (n ≡ 0 → ⊥) → drop n (order ∷ []) ≡ []
    gone n some = drop_of_length-le (order ∷ []) (omega (arith, some))

-- the lines lack those that are left
pub again_rest : {K : Type 0} (old new : Server K) (a b : Outgoing) (unique : ℕ) (orders : List Order) (found : Option Recalled)
    (count : ℕ) → found ≡ recalled_at old.desk.present.rules old.heard.items old.desk.lines unique → found ≡ Some (recall.Asked count)
    → TakesMany old new a b (drop count orders) [] → TakesAgain old new a b unique orders
again_rest old new a b unique orders found count is some many = record {
  replies = many.replies;
  taken = record {
    refused = many.taken.refused ++ [];
    is = λ before. many.taken.is before []
        ∙ sym (again_by (session_with old before) unique orders (many.taken.refused ++ []) (Some (recall.Asked count))
        (sym some ∙ is));
  };
  collected = many.collected;
  behind = (many.stored, inl many.unwritten);
}

-- what a desk keeps tells which requests are parked
pub found_at : (book : Book) (unique : ℕ) (waits : Bool) → waits ≡ is_parked unique book.present.view.parked
    → IsKept book.lines book.present
    → waits ≡ is_parked unique (state_after book.present.rules book.lines).view.parked
found_at book unique waits is kept = is ∙ ap (λ p. is_parked unique p.view.parked) kept.stands
