-- A state that is told by all its parts.
use Rattle.std.proofs.Common.{◌≡◌, ◌≢◌, ℕ, ◌<◌, ◌≤◌, ◌==◌, ◌&&◌, ◌||◌, Bool, true, false, cond, not, nat_le, nat_lt, is_some, Some, None, Ok, Err}
use Rattle.std.proofs.Common.{List, [], ◌∷◌, ◌++◌, map, length, length-append, append_assoc, append-nil, refl, sym, ap, ◌∙◌, subst, arith}
use Rattle.std.proofs.lemmas.Bool.Decides.{nat_tests}
use Rattle.std.proofs.lemmas.List.{map-append}
use Rattle.std.proofs.lemmas.List.Sums.{fold-append}
use Rattle.std.specs.List.{fold, AllByRecursion}
use Rattle.std.specs.Option.{option_or}
use Rattle.std.specs.Ordering.{nat_cmp}
use Rattle.std.specs.FinMap as finite
use Rattle.std.specs.FinMap.{FinMap}
use Rattle.fl_core.specs.Kept.{IsKept}
use Rattle.fl_core.specs.Restored.{Part, a_node, a_file, a_lock, a_request, begun, told_part, with_part, fits, fits_lock, fits_request, is_done}
use Rattle.fl_core.specs.State.{State, Snapshot, snapshot_of}
use Rattle.fl_dir.specs.Directory.{Listing}
use Rattle.fl_dir.specs.Listed.{AreApart as NoTwice, AreEntries}
use Rattle.fl_dir.specs.declared.node.Node.{Node}
use Rattle.fl_marks.specs.Bytes.{is_range}
use Rattle.fl_marks.specs.Conflict.{conflicts, IsLawful}
use Rattle.fl_marks.specs.Marking.{Marking, stroked}
use Rattle.fl_marks.specs.Runs.{runs as count}
use Rattle.fl_marks.specs.declared.run.Run.{Run}
use Rattle.fl_order.specs.declared.errno.Errno.{Errno}
use Rattle.fl_order.specs.declared.errno.Errno.TheVariants.{EAGAIN, ENOLCK}
use Rattle.fl_order.specs.declared.told.Answer.{Answer}
use Rattle.fl_order.specs.declared.told.Answer.TheVariants.{Done}
use Rattle.fl_ranges.specs.Setting.{meant, set_all}
use Rattle.fl_state.specs.Telling.{parts_of, told_by, AreTold, none, one}
use Rattle.fl_waiting.specs.LockRequest.{is_malformed}
use Rattle.fl_waiting.specs.Waiting.{waits, is_parked, AllBehind, AllWait, AreApart}
use Rattle.fl_waiting.specs.declared.parked.Request.{Request}
use Rattle.fl_waiting.specs.declared.rules.Rules.{Rules}
use Rattle.fl_state.proofs.Parts.{shown}
use Rattle.fl_state.proofs.Entries.{lower, put_all, apart_front, find_after, fresh, get_put, is_put, len_put, node_fits, or_none, own_key}

-- ---- what parts show

abbrev shown_by : Snapshot → List Part → Snapshot
shown_by p parts = fold (λ p part. with_part part p) p parts

all_shown : (parts : List Part) (s : State) → snapshot_of (fold (λ s part. told_part part s) s parts) ≡ shown_by (snapshot_of s) parts
all_shown [] s = refl
all_shown (part ∷ parts) s = all_shown parts (told_part part s) ∙ ap (λ p. shown_by p parts) (shown part s)

abbrev with_nodes : Snapshot → FinMap nat_cmp Node → Snapshot
with_nodes p nodes = record p { view = record p.view { directory = record p.view.directory { nodes = nodes } } }

abbrev with_files : Snapshot → FinMap nat_cmp ℕ → Snapshot
with_files p files = record p { view = record p.view { directory = record p.view.directory { files = files } } }

nodes_shown : (es : List (ℕ × Node)) (p : Snapshot) → shown_by p (map (λ e. a_node e.0 e.1) es) ≡ with_nodes p (put_all es p.view.directory.nodes)
nodes_shown [] p = refl
nodes_shown (e ∷ es) p = nodes_shown es (with_part (a_node e.0 e.1) p)

files_shown : (fs : List (ℕ × ℕ)) (p : Snapshot) → shown_by p (map (λ e. a_file e.0 e.1) fs) ≡ with_files p (put_all fs p.view.directory.files)
files_shown [] p = refl
files_shown (e ∷ fs) p = files_shown fs (with_part (a_file e.0 e.1) p)

locks_shown : (rs : List Run) (p : Snapshot) → shown_by p (map a_lock rs) ≡ record p { marking = set_all rs p.marking }
locks_shown [] p = refl
locks_shown (r ∷ rs) p = locks_shown rs (with_part (a_lock r) p)

abbrev with_requests : Snapshot → List Request → Snapshot
with_requests p parked = record p { view = record p.view { parked = parked } }

requests_shown : (rs : List Request) (p : Snapshot) → shown_by p (map a_request rs) ≡ with_requests p (p.view.parked ++ rs)
requests_shown [] p = ap (with_requests p) (sym (append-nil p.view.parked))
requests_shown (r ∷ rs) p =
    requests_shown rs (with_part (a_request r) p) ∙ ap (with_requests p) (append_assoc p.view.parked (r ∷ []) rs)

-- ---- parts of one kind behind others

module _ (rules : Rules) (node fh : ℕ) where
  abbrev start : Snapshot
  start = snapshot_of (begun rules node fh)

  -- what is shown of parts behind others
  shows : (before more : List Part) → snapshot_of (told_by rules node fh (before ++ more)) ≡ shown_by (shown_by start before) more
  shows before more = all_shown (before ++ more) (begun rules node fh) ∙ fold-append (λ p part. with_part part p) start before more

  section : {X : Type 0} (f : X → Part) (before : List Part) (xs : List X) → AreTold rules node fh before
      → ((front rest : List X) (x : X) → xs ≡ front ++ x ∷ rest → fits (shown_by (shown_by start before) (map f front)) (f x) ≡ true)
      → AreTold rules node fh (before ++ map f xs)
  section {X = X} f before xs told ok = go [] xs refl (subst (AreTold rules node fh) (sym (append-nil before)) told)
    where
      go : (front rest : List X) → xs ≡ front ++ rest → AreTold rules node fh (before ++ map f front) → AreTold rules node fh (before ++ map f xs)
      go front [] is so_far = subst (λ l. AreTold rules node fh (before ++ map f l)) (sym (is ∙ append-nil front)) so_far
      go front (x ∷ rest) is so_far =
          go (front ++ x ∷ []) rest (is ∙ sym (append_assoc front (x ∷ []) rest))
          (one (before ++ map f front) (f x) so_far (ap (λ p. fits p (f x)) (shows before (map f front)) ∙ ok front rest x is)
          (ap (λ l. before ++ l) (map-append f front (x ∷ [])) ∙ sym (append_assoc before (map f front) (f x ∷ []))))

-- ---- each fits

-- an entry of a map stands there
pub own_entry : {X : Type 0} (m : FinMap nat_cmp X) (front rest : List (ℕ × X)) (k : ℕ) (x : X) → AreEntries (front ++ (k, x) ∷ rest) m → finite.get m k ≡ Some x
own_entry m front rest k x list =
    list.are k ∙ find_after front ((k, x) ∷ rest) k ∙ ap (λ o. option_or o (finite.find nat_cmp k ((k, x) ∷ rest))) (fresh front rest k x list.apart)
    ∙ ap (λ b. cond b (Some x) (finite.find nat_cmp k rest)) (own_key k)

-- there is a place for it behind those before it
place : {X : Type 0} (m : FinMap nat_cmp X) (front rest : List (ℕ × X)) (k : ℕ) (x : X) (next most : ℕ) → AreEntries (front ++ (k, x) ∷ rest) m → 0 < k → k < next
    → length (front ++ (k, x) ∷ rest) ≤ most
    → (nat_lt 0 k && (nat_lt k next && (not (finite.contains_key (put_all front finite.empty) k) && nat_lt (finite.len (put_all front finite.empty)) most))) ≡ true
place {X = X} m front rest k x next most list high given few = λ i. lower 0 k high i && (lower k next given i && (not (is_some (here i)) && room i))
  where
    ahead : NoTwice front
    ahead = apart_front front ((k, x) ∷ rest) list.apart

    here : finite.get (put_all front finite.empty) k ≡ None
    here =
        get_put front finite.empty k ahead ∙ ap (option_or (finite.find nat_cmp k front)) (finite.get-empty nat_cmp k) ∙ or_none _
        ∙ fresh front rest k x list.apart

    room : nat_lt (finite.len (put_all front finite.empty)) most ≡ true
    room =
        let nothing = finite.len-empty nat_cmp X in
        let long = length-append front ((k, x) ∷ rest) in
        lower _ most (omega (arith, len_put front finite.empty, nothing, long, few))

behind_at : (P : List Request → Request → Type 0) (older front rest : List Request) (r : Request) → AllBehind P older (front ++ r ∷ rest) → P (older ++ front) r
behind_at P older [] rest r all = subst (λ l. P l r) (sym (append-nil older)) all.0
behind_at P older (x ∷ front) rest r all = subst (λ l. P l r) (append_assoc older (x ∷ []) front) (behind_at P (older ++ x ∷ []) front rest r all.1)

pub all_at : {A : Type 0} (P : A → Type 0) (front rest : List A) (r : A) → AllByRecursion P (front ++ r ∷ rest) → P r
all_at P [] rest r all = all.0
all_at P (x ∷ front) rest r all = all_at P front rest r all.1

-- no request before it has its unique
unparked : (front rest : List Request) (r : Request) → AreApart (front ++ r ∷ rest) → is_parked r.unique front ≡ false
unparked [] rest r apart = refl
unparked (x ∷ front) rest r apart =
    neither _ _ (differ x.unique r.unique (all_at (λ other. other.unique ≢ x.unique) front rest r apart.0)) (unparked front rest r apart.1)
  where
    neither : (a b : Bool) → a ≡ false → b ≡ false → (a || b) ≡ false
    neither a b p q = λ i. p i || q i

    differ : (a b : ℕ) → b ≢ a → (a == b) ≡ false
    differ a b other = grind (arith, nat_tests)

request_fits : (rules : Rules) (m : Marking) (parked front rest : List Request) (r : Request) → parked ≡ front ++ r ∷ rest → AllWait rules m parked → AreApart parked
    → length parked ≤ rules.parked → AllByRecursion (λ (r : Request). is_malformed r.ask ≡ false) parked
    → fits_request rules m front r ≡ true
request_fits rules m parked front rest r is waiting apart few formed =
    λ i. not (shape i) && (not (free i) && (not (room i) && held i))
  where
    shape : is_malformed r.ask ≡ false
    shape = all_at (λ r. is_malformed r.ask ≡ false) front rest r (subst (AllByRecursion (λ (r : Request). is_malformed r.ask ≡ false)) is formed)

    free : is_parked r.unique front ≡ false
    free = unparked front rest r (subst AreApart is apart)

    room : nat_le rules.parked (length front) ≡ false
    room = below (length front) rules.parked (omega (arith, few, ap length is, length-append front (r ∷ rest)))
      where
        below : (a b : ℕ) → a < b → nat_le b a ≡ false
        below a b h = grind (arith, nat_tests)

    held : waits rules m front r ≡ true
    held = behind_at (λ older r. waits rules m older r ≡ true) [] front rest r (subst (AllWait rules m) is waiting)

-- a lock fits if it conflicts with none and there is room
lock_fits : (most : ℕ) (m : Marking) (r : Run) → is_range r.start r.end ≡ true → conflicts m r.key r.start r.end r.mark.kind ≡ false
    → count (stroked (meant r) m) ≤ most → fits_lock most m r ≡ true
lock_fits most m r range free few =
    λ i. range i && is_done {A = Answer} {E = Errno} (cond (free i) (Err EAGAIN) (cond (room most (count (stroked (meant r) m)) few i) (Err ENOLCK) (Ok Done)))
  where
    room : (a b : ℕ) → b ≤ a → nat_lt a b ≡ false
    room a b h = grind (arith, nat_tests)

-- ---- all of them

module _ (p : Snapshot) (nodes : List (ℕ × Node)) (files : List (ℕ × ℕ)) (runs : List Run) (w : IsKept p nodes files runs) where
  d : Listing
  d = p.view.directory

  abbrev first : Snapshot
  first = start p.rules p.view.directory.next_node p.view.directory.next_fh

  abbrev node_parts : List Part
  node_parts = map (λ e. a_node e.0 e.1) nodes

  abbrev file_parts : List Part
  file_parts = map (λ e. a_file e.0 e.1) files

  abbrev before_locks : List Part
  before_locks = node_parts ++ file_parts

  abbrev before_requests : List Part
  before_requests = before_locks ++ map a_lock runs

  abbrev after_nodes : Snapshot
  after_nodes = with_nodes first (put_all nodes finite.empty)

  abbrev after_files : Snapshot
  after_files = with_files after_nodes (put_all files finite.empty)

  abbrev after_locks : Snapshot
  after_locks = record after_files { marking = set_all runs finite.empty }

  nodes_are : shown_by first node_parts ≡ after_nodes
  nodes_are = nodes_shown nodes first

  files_are : shown_by first before_locks ≡ after_files
  files_are =
      fold-append (λ p part. with_part part p) first node_parts file_parts ∙ ap (λ q. shown_by q file_parts) nodes_are ∙ files_shown files after_nodes

  locks_are : shown_by first before_requests ≡ after_locks
  locks_are =
      fold-append (λ p part. with_part part p) first before_locks (map a_lock runs) ∙ ap (λ q. shown_by q (map a_lock runs)) files_are
      ∙ locks_shown runs after_files

  nodes_fit : AreTold p.rules p.view.directory.next_node p.view.directory.next_fh node_parts
  nodes_fit = section p.rules p.view.directory.next_node p.view.directory.next_fh (λ (e : ℕ × Node). a_node e.0 e.1) [] nodes none (λ front rest e is.
      let list = subst (λ l. AreEntries l p.view.directory.nodes) is w.listed.nodes_are in
      let own = own_entry p.view.directory.nodes front rest e.0 e.1 list in
      ap (λ q. fits q (a_node e.0 e.1)) (nodes_shown front first)
      ∙ node_fits (record first.view.directory { nodes = p.view.directory.nodes }) front rest e.0 e.1 list w.listed.once
      (w.listed.nodes_above e.0 e.1 own) (w.listed.nodes_given e.0 e.1 own)
      (subst (λ l. length l ≤ p.rules.files) is (subst (λ n. length nodes ≤ n) w.ruled.nodes w.listed.few_nodes)))

  files_fit : AreTold p.rules p.view.directory.next_node p.view.directory.next_fh before_locks
  files_fit = section p.rules p.view.directory.next_node p.view.directory.next_fh (λ (e : ℕ × ℕ). a_file e.0 e.1) node_parts files nodes_fit (λ front rest e is.
      let list = subst (λ l. AreEntries l p.view.directory.files) is w.listed.files_are in
      let own = own_entry p.view.directory.files front rest e.0 e.1 list in
      let free = place p.view.directory.files front rest e.0 e.1 p.view.directory.next_fh p.rules.open_files list (w.listed.files_above e.0 e.1 own) (w.listed.files_given e.0 e.1 own)
      (subst (λ l. length l ≤ p.rules.open_files) is (subst (λ n. length files ≤ n) w.ruled.files w.listed.few_files)) in
      let there : finite.contains_key (put_all nodes finite.empty) e.1 ≡ true = ap (λ m. is_some (finite.get m e.1)) (is_put nodes p.view.directory.nodes w.listed.nodes_are) ∙ w.listed.there e.0 e.1 own in
      ap (λ q. fits (shown_by q (map (λ e. a_file e.0 e.1) front)) (a_file e.0 e.1)) nodes_are
      ∙ ap (λ q. fits q (a_file e.0 e.1)) (files_shown front after_nodes) ∙ (λ i. free i && there i))

  locks_fit : IsLawful p.marking → AreTold p.rules p.view.directory.next_node p.view.directory.next_fh before_requests
  locks_fit lawful = section p.rules p.view.directory.next_node p.view.directory.next_fh a_lock before_locks runs files_fit (λ front rest r is.
      ap (λ q. fits (shown_by q (map a_lock front)) (a_lock r)) files_are
      ∙ ap (λ q. fits q (a_lock r)) (locks_shown front after_files) ∙ lock_fits p.rules.runs (set_all front finite.empty) r (w.settable.ranges front rest r is) (w.settable.free lawful front rest r is)
      (w.settable.room front rest r is))

  pub all_fit : IsLawful p.marking → AreTold p.rules p.view.directory.next_node p.view.directory.next_fh (parts_of nodes files runs p.view.parked)
  all_fit lawful = section p.rules p.view.directory.next_node p.view.directory.next_fh a_request before_requests p.view.parked (locks_fit lawful) (λ front rest r is.
      ap (λ q. fits (shown_by q (map a_request front)) (a_request r)) locks_are
      ∙ ap (λ q. fits q (a_request r)) (requests_shown front after_locks)
      ∙ ap (λ m. fits_request p.rules m front r) w.settable.marking
      ∙ request_fits p.rules p.marking p.view.parked front rest r is w.waiting w.apart w.few w.formed)

  pub all_told : snapshot_of (told_by p.rules p.view.directory.next_node p.view.directory.next_fh (parts_of nodes files runs p.view.parked)) ≡ p
  all_told =
      shows p.rules p.view.directory.next_node p.view.directory.next_fh before_requests (map a_request p.view.parked)
      ∙ ap (λ q. shown_by q (map a_request p.view.parked)) locks_are ∙ requests_shown p.view.parked after_locks
      ∙ (λ i. record {
        rules = p.rules;
        view = record {
          directory = record {
            nodes = is_put nodes p.view.directory.nodes w.listed.nodes_are i;
            files = is_put files p.view.directory.files w.listed.files_are i;
            next_node = p.view.directory.next_node;
            next_fh = p.view.directory.next_fh;
            most_nodes = sym w.ruled.nodes i;
            most_files = sym w.ruled.files i;
          };
          parked = p.view.parked;
        };
        marking = w.settable.marking i;
      })
