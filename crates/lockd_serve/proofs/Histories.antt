-- A legal history can be read back from its text if its orders can.
use Rattle.std.proofs.Common.{◌≡◌, ℕ, ◌+◌, ◌^◌, ◌≤◌, ◌<◌, ◌&&◌, not, true, Option, Some, None, IfSome, List, [], ◌∷◌, ◌++◌, All, map}
use Rattle.std.proofs.Common.{append_assoc, arith, refl, subst, sym}
use Rattle.std.proofs.lemmas.Bool.{and_parts, ltb-true}
use Rattle.std.proofs.lemmas.List.{map-append}
use Rattle.std.specs.Prelude.{is_some, nat_lt}
use Rattle.std.specs.List.{Contains, fold}
use Rattle.std.specs.Ordering.{nat_cmp}
use Rattle.std.specs.FinMap.{contains_key, empty, get, get-empty, len}
use Rattle.std.proofs.lemmas.List.Elements.{All-append, All-cons, All-contains_itself, All-head, All-map, All-nil, All-push, All-tail, All-weaker}
use Rattle.fl_core.specs.Effects.{at_once, later, told_first}
use Rattle.fl_core.specs.Restored.{Part, a_node, a_file, a_lock, a_request, begun, fits, told_part}
use Rattle.fl_core.specs.State.{Snapshot, State, snapshot_of}
use Rattle.fl_core.specs.Step.{replies_in}
use Rattle.fl_counter.specs.Answered.{step_lines}
use Rattle.fl_desk.specs.Heads.{head_lines, with_state, IsToldBy}
use Rattle.fl_desk.specs.Legal.{IsLegal, headed, nothing, step}
use Rattle.fl_desk.specs.Replay.{Reading, committed, read_line, read_reply, state_after, unread}
use Rattle.fl_dir.specs.Directory.{linked}
use Rattle.fl_dir.specs.Restored.{has_node_place}
use Rattle.fl_dir.specs.declared.node.Node.{Node}
use Rattle.fl_history.specs.declared.history.Line.{Line}
use Rattle.fl_history.specs.declared.history.Line.TheVariants as line
use Rattle.fl_order.specs.Sayable.{FitsHead, FitsPart, FitsState, IsSayable}
use Rattle.fl_order.specs.declared.order.Order.{Order}
use Rattle.fl_order.specs.declared.state_part.Head.{Head}
use Rattle.fl_order.specs.declared.state_part.StateLine.{StateLine}
use Rattle.fl_order.specs.declared.state_part.StateLine.TheVariants as state
use Rattle.fl_order.specs.declared.state_part.StatePart.{StatePart}
use Rattle.fl_order.specs.declared.state_part.StatePart.TheVariants as part
use Rattle.fl_order.specs.declared.told.Told.{Told}
use Rattle.fl_state.specs.Parts.{part_of}
use Rattle.fl_state.specs.Telling.{told_by, AreTold}
use Rattle.fl_trace.specs.Text.{Fits, LineFits}
use Rattle.fl_waiting.specs.declared.rules.Rules.{Rules}
use Rattle.lockd_serve.proofs.Listings.{SitsTold, fits_told, nodes_insert}
use Rattle.lockd_serve.proofs.Steps.{ChangeFits, IsNamed, LastCounts, RequestFits, StateFits, at_once_fits, later_fits, recorded_fits, replies_sit, told_first_fits}

-- a node's number leaves room for one more
abbrev SitsState : StateLine → Type 0
SitsState (state.Part (part.Node number lookups linked mode uid gid name)) =
    (number + 1 < 2 ^ 64) × FitsPart (part.Node number lookups linked mode uid gid name)
SitsState s = FitsState s

abbrev pub LineSits : Line → Type 0
LineSits (line.Asked worker order) = (worker ≤ 15) × IsSayable order
LineSits (line.Told told) = SitsTold told
LineSits (line.State s) = SitsState s

-- of the orders and the lines of heads alone
abbrev pub AskedFits : Line → Type 0
AskedFits (line.Asked worker order) = (worker ≤ 15) × IsSayable order
AskedFits (line.Told told) = Unit {0}
AskedFits (line.State s) = FitsState s

fits_line : (l : Line) → LineSits l → LineFits l
fits_line (line.Asked worker order) sits = sits
fits_line (line.Told told) sits = fits_told told sits
fits_line (line.State s) sits = fits_state s sits
  where
    fits_state : (s : StateLine) → SitsState s → FitsState s
    fits_state (state.Head head) sits = sits
    fits_state (state.Part (part.Node number lookups linked mode uid gid name)) sits = sits.1
    fits_state (state.Part (part.File fh node)) sits = sits
    fits_state (state.Part (part.Lock node owner start end write pid flock)) sits = sits
    fits_state (state.Part (part.Wait unique node ask)) sits = sits
    fits_state state.Go sits = sits

-- ---- what lines lead to

record ReadingFits (r : Reading) : Type 0 where
  pub state : StateFits r.state
  pub waiting : IfSome r.waiting IsSayable

committed_fits : (o : Option Order) (s : State) → IfSome o IsSayable → StateFits s → StateFits (committed o s)
committed_fits None s said fits = fits
committed_fits (Some order) s said fits =
    recorded_fits (at_once order None) s fits (λ v own. at_once_fits order said None v own tt)

read_fits : (o : Option Order) (told : Told) (s : State) → IfSome o IsSayable → StateFits s → SitsTold told
    → StateFits (read_reply o told s)
read_fits None told s said fits sits = recorded_fits (later told) s fits (later_fits told)
read_fits (Some order) told s said fits sits =
    recorded_fits (told_first order told) s fits (λ v own. told_first_fits order said told v own sits)

part_fits : (p : StatePart) (s : State) → SitsState (state.Part p) → StateFits s → StateFits (told_part (part_of p) s)
part_fits (part.Node number lookups linked mode uid gid name) s f fits = record {
  view = record {
    directory = record {
      nodes = nodes_insert s.view.directory.nodes number
          (record { lookups = lookups; linked = linked; mode = mode; uid = uid; gid = gid; name = name })
          fits.view.directory.nodes (record { given = f.0; mode = f.1.2; uid = f.1.3; gid = f.1.4 });
      next_node = fits.view.directory.next_node;
      next_fh = fits.view.directory.next_fh;
    };
    parked = fits.view.parked;
  };
  changes = fits.changes;
}
part_fits (part.File fh node) s f fits = record {
  view = record {
    directory = record {
      nodes = fits.view.directory.nodes;
      next_node = fits.view.directory.next_node;
      next_fh = fits.view.directory.next_fh;
    };
    parked = fits.view.parked;
  };
  changes = fits.changes;
}
part_fits (part.Lock node owner start end write pid flock) s f fits =
    record { view = fits.view; changes = All-cons ChangeFits _ s.changes f.4 fits.changes }
part_fits (part.Wait unique node ask) s f fits = record {
  view = record {
    directory = fits.view.directory;
    parked = All-push RequestFits s.view.parked _ fits.view.parked (record { unique = f.0; pid = f.2.pid });
  };
  changes = fits.changes;
}

with_state_fits : (t : StateLine) (s : State) → SitsState t → StateFits s → StateFits (with_state t s)
with_state_fits (state.Head head) s f fits = record {
  view = record {
    directory = record {
      nodes = λ number node e.
          let none : get (empty {X = Node} {R = nat_cmp}) number ≡ None = get-empty nat_cmp number in
          absurd (cc (none, e));
      next_node = f.node;
      next_fh = f.fh;
    };
    parked = All-nil _;
  };
  changes = All-nil _;
}
with_state_fits (state.Part p) s f fits = part_fits p s f fits
with_state_fits state.Go s f fits = fits

line_fits : (r : Reading) (l : Line) → ReadingFits r → LineSits l → ReadingFits (read_line r l)
line_fits r (line.Asked worker order) fits sits =
    record { state = committed_fits r.waiting r.state fits.waiting fits.state; waiting = sits.1 }
line_fits r (line.Told told) fits sits =
    record { state = read_fits r.waiting told r.state fits.waiting fits.state sits; waiting = tt }
line_fits r (line.State state) fits sits =
    record { state = with_state_fits state _ sits (committed_fits r.waiting r.state fits.waiting fits.state); waiting = tt }

lines_fit : (r : Reading) (lines : List Line) → ReadingFits r → All LineSits lines → ReadingFits (fold read_line r lines)
lines_fit r [] fits sit = fits
lines_fit r (l ∷ lines) fits sit =
    lines_fit (read_line r l) lines (line_fits r l fits (All-head LineSits l lines sit)) (All-tail LineSits l lines sit)

opening_fits : (rules : Rules) → ReadingFits (unread rules)
opening_fits rules = record {
  state = record {
    view = record {
      directory = record {
        nodes = λ number node e.
            let none : get (empty {X = Node} {R = nat_cmp}) number ≡ None = get-empty nat_cmp number in
            absurd (cc (none, e));
        next_node = omega arith;
        next_fh = omega arith;
      };
      parked = All-nil _;
    };
    changes = All-nil _;
  };
  waiting = tt;
}

state_fits : (rules : Rules) (lines : List Line) → All LineSits lines → StateFits (state_after rules lines)
state_fits rules lines sit =
    let r = lines_fit (unread rules) lines (opening_fits rules) sit in
    committed_fits _ _ r.waiting r.state

-- ---- legal histories

all_front : (P : Line → Type 0) (xs ys : List Line) → All P (xs ++ ys) → All P xs
all_front P [] ys all = All-nil P
all_front P (x ∷ xs) ys all = All-cons P x xs (All-head P x (xs ++ ys) all) (all_front P xs ys (All-tail P x (xs ++ ys) all))

all_back : (P : Line → Type 0) (xs ys : List Line) → All P (xs ++ ys) → All P ys
all_back P [] ys all = all
all_back P (x ∷ xs) ys all = all_back P xs ys (All-tail P x (xs ++ ys) all)

-- the lines of a head

abbrev pub TellsEach : Type 0
TellsEach =
    (rules : Rules) (node fh : ℕ) (front rest : List Part) (p : Part) → AreTold rules node fh (front ++ p ∷ rest)
    → fits (snapshot_of (told_by rules node fh front)) p ≡ true

-- no part changes which node comes next
next_stays : (s : State) (parts : List Part)
    → (fold (λ s p. told_part p s) s parts).view.directory.next_node ≡ s.view.directory.next_node
next_stays s [] = refl
next_stays s (a_node number node ∷ parts) = next_stays (told_part (a_node number node) s) parts
next_stays s (a_file fh node ∷ parts) = next_stays (told_part (a_file fh node) s) parts
next_stays s (a_lock r ∷ parts) = next_stays (told_part (a_lock r) s) parts
next_stays s (a_request r ∷ parts) = next_stays (told_part (a_request r) s) parts

below_next : (p : Snapshot) (number : ℕ) (node : Node) → fits p (a_node number node) ≡ true → number < p.view.directory.next_node
below_next p number node e =
    let d = p.view.directory in
    let place = (and_parts (has_node_place d number) (not (node.linked && is_some (linked d node.name))) e).0 in
    let room = (and_parts (nat_lt 1 number)
    (nat_lt number d.next_node && (not (contains_key d.nodes number) && nat_lt (len d.nodes) d.most_nodes)) place).1 in
    ltb-true number d.next_node
    (and_parts (nat_lt number d.next_node) (not (contains_key d.nodes number) && nat_lt (len d.nodes) d.most_nodes) room).0

module _ (each : TellsEach) (rules : Rules) (head : Head) (own : FitsHead head) where
  part_sits : (front rest : List Part) (p : StatePart) → AreTold rules head.node head.fh (front ++ part_of p ∷ rest)
      → FitsPart p → SitsState (state.Part p)
  part_sits front rest (part.Node number lookups linked mode uid gid name) told f =
      let node : Node = record { lookups = lookups; linked = linked; mode = mode; uid = uid; gid = gid; name = name } in
      let below = below_next (snapshot_of (told_by rules head.node head.fh front)) number node
      (each rules head.node head.fh front rest (part_of (part.Node number lookups linked mode uid gid name)) told) in
      let next = next_stays (begun rules head.node head.fh) front in
      let small = own.node in
      (omega (arith, below, next, small), f)
  part_sits front rest (part.File fh node) told f = f
  part_sits front rest (part.Lock node owner start end write pid flock) told f = f
  part_sits front rest (part.Wait unique node ask) told f = f

  parts_sit : (front parts : List StatePart) → AreTold rules head.node head.fh (map part_of (front ++ parts))
      → All AskedFits (map (λ p. line.State (state.Part p)) parts ++ line.State state.Go ∷ [])
      → All LineSits (map (λ p. line.State (state.Part p)) parts ++ line.State state.Go ∷ [])
  parts_sit front [] told asked = All-cons LineSits (line.State state.Go) [] tt (All-nil LineSits)
  parts_sit front (p ∷ parts) told asked =
      let more = map (λ q. line.State (state.Part q)) parts ++ line.State state.Go ∷ [] in
      All-cons LineSits (line.State (state.Part p)) more
      (part_sits (map part_of front) (map part_of parts) p
      (subst (AreTold rules head.node head.fh) (map-append part_of front (p ∷ parts)) told)
      (All-head AskedFits (line.State (state.Part p)) more asked))
      (parts_sit (front ++ p ∷ []) parts
      (subst (λ ps. AreTold rules head.node head.fh (map part_of ps)) (sym (append_assoc front (p ∷ []) parts)) told)
      (All-tail AskedFits (line.State (state.Part p)) more asked))

head_sits : TellsEach → (rules : Rules) (head : Head) (parts : List StatePart) → IsToldBy rules head parts
    → All AskedFits (head_lines head parts) → All LineSits (head_lines head parts)
head_sits each rules head parts told asked =
    let more = map (λ q. line.State (state.Part q)) parts ++ line.State state.Go ∷ [] in
    let own = All-head AskedFits (line.State (state.Head head)) more asked in
    All-cons LineSits (line.State (state.Head head)) more own
    (parts_sit each rules head own [] parts told.fit (All-tail AskedFits (line.State (state.Head head)) more asked))

module _ (last : LastCounts) (named : IsNamed) (each : TellsEach) where
  step_sits : (rules : Rules) (before : List Line) (worker : ℕ) (order : Order) → All LineSits before
      → All AskedFits (before ++ step_lines worker order (replies_in (state_after rules before) order))
      → All LineSits (before ++ step_lines worker order (replies_in (state_after rules before) order))
  step_sits rules before worker order sit asked =
      let tolds : List Told = replies_in (state_after rules before) order in
      let own : (worker ≤ 15) × IsSayable order =
      All-head AskedFits (line.Asked worker order) (map (λ told. line.Told told) tolds)
      (all_back AskedFits before (step_lines worker order tolds) asked) in
      All-append LineSits before (step_lines worker order tolds) sit
      (All-cons LineSits (line.Asked worker order) (map (λ told. line.Told told) tolds) own
      (All-map LineSits (λ told. line.Told told) tolds
      (replies_sit last named order own.1 (state_after rules before) (state_fits rules before sit))))

  legal_sits : (rules : Rules) (lines : List Line) → IsLegal rules lines → All AskedFits lines → All LineSits lines
  legal_sits rules lines nothing asked = All-nil LineSits
  legal_sits rules lines (headed h) asked =
      subst (All LineSits) (sym h.spelled) (head_sits each rules h.head h.parts h.told (subst (All AskedFits) h.spelled asked))
  legal_sits rules lines (step before worker order legal e) asked =
      let parts = subst (All AskedFits) e asked in
      subst (All LineSits) (sym e) (step_sits rules before worker order
      (legal_sits rules before legal (all_front AskedFits before _ parts)) parts)

  pub legal_fits : (rules : Rules) (lines : List Line) → IsLegal rules lines → All AskedFits lines → Fits lines
  legal_fits rules lines legal asked = All-weaker LineSits LineFits fits_line lines (legal_sits rules lines legal asked)

  pub orders_fit : (rules : Rules) (lines : List Line) → IsLegal rules lines
      → ((worker : ℕ) (order : Order) → Contains lines (line.Asked worker order) → LineFits (line.Asked worker order))
      → ((state : StateLine) → Contains lines (line.State state) → LineFits (line.State state)) → Fits lines
  orders_fit rules lines legal fit told =
      legal_fits rules lines legal (All-weaker (Contains lines) AskedFits own lines (All-contains_itself lines))
    where
      own : (l : Line) → Contains lines l → AskedFits l
      own (line.Asked worker order) there = fit worker order there
      own (line.Told reply) there = tt
      own (line.State state) there = told state there
