-- What is told of one state, sought in another.
use Rattle.std.proofs.Common.{◌≡◌, ◌↔◌, ℕ, ◌+◌, ◌≤◌, Bool, true, false, cond, Option, Some, None, List, [], ◌∷◌, ◌++◌, map, drop, slice_get}
use Rattle.std.proofs.Common.{append_assoc, refl, sym, ap, ◌∙◌, subst, arith}
use Rattle.std.proofs.lemmas.Bool.Decides.{nat_tests}
use Rattle.std.proofs.lemmas.Option.{none-some}
use Rattle.std.specs.Cmp.{nat_cmp_total}
use Rattle.std.specs.List.{AllByRecursion}
use Rattle.std.specs.Ordering.{nat_cmp, eq_by_cmp}
use Rattle.std.specs.FinMap as map
use Rattle.std.specs.FinMap.{FinMap, get}
use Rattle.fl_core.specs.Arenas.{Keep}
use Rattle.fl_core.specs.Kept.{IsRuled}
use Rattle.fl_core.specs.State.{Snapshot}
use Rattle.fl_core.specs.declared.arenas.Arenas.{Arenas}
use Rattle.fl_dir.specs.Arenas.{joined}
use Rattle.fl_dir.specs.Listed.{nodes_on, AreEntries}
use Rattle.fl_dir.specs.declared.node.Node.{Node}
use Rattle.fl_dir.specs.declared.nodes.Slot.{Slot}
use Rattle.fl_marks.specs.Bytes.{is_range}
use Rattle.fl_marks.specs.Marking.{Marking, Spot}
use Rattle.fl_marks.specs.declared.lock.Key.{Key}
use Rattle.fl_marks.specs.declared.lock.Mark.{Mark}
use Rattle.fl_marks.specs.declared.run.Run.{Run}
use Rattle.fl_order.specs.declared.state_part.StatePart.{StatePart}
use Rattle.fl_ranges.specs.Layout.{table_runs}
use Rattle.fl_ranges.specs.Setting.{CanBeSet}
use Rattle.fl_state.specs.Inside.Saying.{all_items, is_flock, is_write, node_part, file_part, lock_part}
use Rattle.fl_state.specs.Inside.Seeking.{Has, AreAlike, IsHeld, IsWithin}
use Rattle.fl_state.specs.Parts.{class_of, kind_of}
use Rattle.fl_state.specs.Same.{HaveSame}
use Rattle.fl_state.proofs.Sayings.{flat_joined, same_class, same_kind}
use Rattle.fl_state.proofs.Walks.{past_end, drop_here}
use Rattle.fl_state.proofs.Wholes.{all_at, own_entry}
use Rattle.fl_waiting.specs.declared.rules.Rules.{Rules}

-- ---- all of a list

all_append : {A : Type 0} (P : A → Type 0) (xs ys : List A) → AllByRecursion P xs → AllByRecursion P ys → AllByRecursion P (xs ++ ys)
all_append P [] ys first second = second
all_append P (x ∷ xs) ys first second = (first.0, all_append P xs ys first.1 second)

all_first : {A : Type 0} (P : A → Type 0) (xs ys : List A) → AllByRecursion P (xs ++ ys) → AllByRecursion P xs
all_first P [] ys all = tt
all_first P (x ∷ xs) ys all = (all.0, all_first P xs ys all.1)

all_second : {A : Type 0} (P : A → Type 0) (xs ys : List A) → AllByRecursion P (xs ++ ys) → AllByRecursion P ys
all_second P [] ys all = all
all_second P (x ∷ xs) ys all = all_second P xs ys all.1

all_mapped : {A B : Type 0} (P : B → Type 0) (f : A → B) (xs : List A) → AllByRecursion (λ x. P (f x)) xs → AllByRecursion P (map f xs)
all_mapped P f [] all = tt
all_mapped P f (x ∷ xs) all = (all.0, all_mapped P f xs all.1)

mapped_all : {A B : Type 0} (P : B → Type 0) (f : A → B) (xs : List A) → AllByRecursion P (map f xs) → AllByRecursion (λ x. P (f x)) xs
mapped_all P f [] all = tt
mapped_all P f (x ∷ xs) all = (all.0, mapped_all P f xs all.1)

-- each stands behind some and before others
all_split : {A : Type 0} (P : A → Type 0) (all front xs : List A) → all ≡ front ++ xs → ((front rest : List A) (x : A) → all ≡ front ++ x ∷ rest → P x)
    → AllByRecursion P xs
all_split P all front [] is each = tt
all_split P all front (x ∷ xs) is each =
    (each front xs x is, all_split P all (front ++ x ∷ []) xs (is ∙ sym (append_assoc front (x ∷ []) xs)) each)

-- ---- entries of maps

same_number : (q k : ℕ) → eq_by_cmp nat_cmp q k ≡ true → q ≡ k
same_number q k is = grind (arith, nat_tests)

-- two that say the same whenever they say something
either_way : {A : Type 0} (o r : Option A) → ((x : A) → o ≡ Some x → r ≡ Some x) → ((x : A) → r ≡ Some x → o ≡ Some x) → o ≡ r
either_way None None there back = refl
either_way None (Some x) there back = back x refl
either_way (Some x) r there back = sym (there x refl)

module _ {X : Type 0} where
  -- of each entry a map says the same
  abbrev Says : FinMap nat_cmp X → List (ℕ × X) → Type 0
  Says n es = AllByRecursion (λ (e : ℕ × X). get n e.0 ≡ Some e.1) es

  said : (n : FinMap nat_cmp X) (es : List (ℕ × X)) (k : ℕ) (x : X) → Says n es → map.find nat_cmp k es ≡ Some x → get n k ≡ Some x
  said n [] k x says found = absurd (none-some x found)
  said n (e ∷ es) k x says found = go (said n es k x says.1) (eq_by_cmp nat_cmp k e.0) refl found
    where
      go : (map.find nat_cmp k es ≡ Some x → get n k ≡ Some x) → (b : Bool) → eq_by_cmp nat_cmp k e.0 ≡ b → cond b (Some e.1) (map.find nat_cmp k es) ≡ Some x → get n k ≡ Some x
      go later true is h = ap (get n) (same_number k e.0 is) ∙ says.0 ∙ h
      go later false is h = later h

  pub includes : (m n : FinMap nat_cmp X) (es : List (ℕ × X)) → AreEntries es m → Says n es ↔ ((k : ℕ) (x : X) → get m k ≡ Some x → get n k ≡ Some x)
  includes m n es list = (
    λ says k x has. said n es k x says (sym (list.are k) ∙ has),
    λ all. all_split (λ (e : ℕ × X). get n e.0 ≡ Some e.1) es [] es refl
        (λ front rest e is. all e.0 e.1 (own_entry m front rest e.0 e.1 (subst (λ l. AreEntries l m) is list))),
  )

  pub same_entries : (m n : FinMap nat_cmp X) → ((k : ℕ) (x : X) → get m k ≡ Some x → get n k ≡ Some x) → ((k : ℕ) (x : X) → get n k ≡ Some x → get m k ≡ Some x)
      → m ≡ n
  same_entries m n there back = map.same_map nat_cmp_total map.nat_cmp-IsAntisymmetric m n (λ k. either_way (get m k) (get n k) (there k) (back k))

-- ---- runs of locks

same_run : (r : Run) → record {
  key = record { class = class_of (is_flock r.key.class); node = r.key.node; owner = r.key.owner };
  start = r.start;
  end = r.end;
  mark = record { kind = kind_of (is_write r.mark.kind); pid = r.mark.pid };
} ≡ r
same_run r = λ i. record {
  key = record { class = same_class r.key.class i; node = r.key.node; owner = r.key.owner };
  start = r.start;
  end = r.end;
  mark = record { kind = same_kind r.mark.kind i; pid = r.mark.pid };
}

-- the run is a range of bytes, and all of them have its mark
abbrev IsThere : Snapshot → Run → Type 0
IsThere q r = (is_range r.start r.end ≡ true) × IsHeld q r

had : (q : Snapshot) (r : Run) → Has q (lock_part r) → IsThere q r
had q r has = (has.0, subst (IsHeld q) (same_run r) has.1)

has_it : (q : Snapshot) (r : Run) → IsThere q r → Has q (lock_part r)
has_it q r there = (there.0, subst (IsHeld q) (sym (same_run r)) there.1)

all_weaker : {A : Type 0} (P Q : A → Type 0) → ((x : A) → P x → Q x) → (xs : List A) → AllByRecursion P xs → AllByRecursion Q xs
all_weaker P Q step [] all = tt
all_weaker P Q step (x ∷ xs) all = (step x all.0, all_weaker P Q step xs all.1)

module _ (p q : Snapshot) (limit : ℕ) (rs : List Run) (set : CanBeSet limit p.marking rs) where
  locks_include : AllByRecursion (IsThere q) rs ↔ ((spot : Spot) (mark : Mark) → get p.marking spot ≡ Some mark → get q.marking spot ≡ Some mark)
  locks_include = (
    λ all spot mark has.
        let of = set.all spot mark has in
        let there = all_at (IsThere q) of.front of.rest of.run (subst (AllByRecursion (IsThere q)) of.among all) in
        ap (λ (k : Key). get q.marking (k, spot.1)) (sym of.key_is) ∙ there.1 spot.1 of.from of.upto ∙ ap Some of.mark_is,
    λ each. all_split (IsThere q) rs [] rs refl
        (λ front rest r is. (set.ranges front rest r is, λ byte from upto. each (r.key, byte) r.mark (set.own front rest r byte is from upto))),
  )

-- ---- all that is told

module _ (a : Arenas) (p q : Snapshot) (keep : Keep a p) where
  nodes_include : AllByRecursion (Has q) (map node_part (all_items a.directory.nodes.now))
      ↔ ((k : ℕ) (node : Node) → get p.view.directory.nodes k ≡ Some node → get q.view.directory.nodes k ≡ Some node)
  nodes_include =
      let is = includes p.view.directory.nodes q.view.directory.nodes (nodes_on a.directory.nodes.now) keep.listed.nodes_are in (
        λ all. is.0 (all_mapped (λ (e : ℕ × Node). get q.view.directory.nodes e.0 ≡ Some e.1) bare_entry (joined a.directory.nodes.now.chains)
            (mapped_all (Has q) node_part (joined a.directory.nodes.now.chains)
            (subst (λ l. AllByRecursion (Has q) (map node_part l)) (flat_joined a.directory.nodes.now.chains) all))),
        λ each. subst (λ l. AllByRecursion (Has q) (map node_part l)) (sym (flat_joined a.directory.nodes.now.chains))
            (all_mapped (Has q) node_part (joined a.directory.nodes.now.chains)
            (mapped_all (λ (e : ℕ × Node). get q.view.directory.nodes e.0 ≡ Some e.1) bare_entry (joined a.directory.nodes.now.chains) (is.1 each))),
      )
    where
      bare_entry : ℕ × Slot → ℕ × Node
      bare_entry e = (e.0, e.1.node)

  files_include : AllByRecursion (Has q) (map file_part (all_items a.directory.files.now))
      ↔ ((fh node : ℕ) → get p.view.directory.files fh ≡ Some node → get q.view.directory.files fh ≡ Some node)
  files_include =
      let is = includes p.view.directory.files q.view.directory.files (joined a.directory.files.now.chains) keep.listed.files_are in (
        λ all. is.0 (mapped_all (Has q) file_part (joined a.directory.files.now.chains)
            (subst (λ l. AllByRecursion (Has q) (map file_part l)) (flat_joined a.directory.files.now.chains) all)),
        λ each. subst (λ l. AllByRecursion (Has q) (map file_part l)) (sym (flat_joined a.directory.files.now.chains))
            (all_mapped (Has q) file_part (joined a.directory.files.now.chains) (is.1 each)),
      )

  runs_include : AllByRecursion (Has q) (map lock_part (table_runs a.locks.now))
      ↔ ((spot : Spot) (mark : Mark) → get p.marking spot ≡ Some mark → get q.marking spot ≡ Some mark)
  runs_include =
      let rs = table_runs a.locks.now in
      let is = locks_include p q p.rules.runs rs keep.settable in (
        λ all. is.0 (all_weaker (λ r. Has q (lock_part r)) (IsThere q) (had q) rs (mapped_all (Has q) lock_part rs all)),
        λ each. all_mapped (Has q) lock_part rs (all_weaker (IsThere q) (λ r. Has q (lock_part r)) (has_it q) rs (is.1 each)),
      )

  -- all parts are there exactly if the other has all that is here
  pub all_sought : (told : List StatePart) → told ≡ (map node_part (all_items a.directory.nodes.now) ++ map file_part (all_items a.directory.files.now)) ++ map lock_part (table_runs a.locks.now)
      → AllByRecursion (Has q) told ↔ IsWithin p q
  all_sought told is = (
    λ all.
        let whole = subst (AllByRecursion (Has q)) is all in
        let nodes = map node_part (all_items a.directory.nodes.now) in
        let files = map file_part (all_items a.directory.files.now) in
        let locks = map lock_part (table_runs a.locks.now) in
        let two = all_first (Has q) (nodes ++ files) locks whole in
        record {
          nodes = nodes_include.0 (all_first (Has q) nodes files two);
          files = files_include.0 (all_second (Has q) nodes files two);
          locks = runs_include.0 (all_second (Has q) (nodes ++ files) locks whole);
        },
    λ within.
        let nodes = map node_part (all_items a.directory.nodes.now) in
        let files = map file_part (all_items a.directory.files.now) in
        let locks = map lock_part (table_runs a.locks.now) in
        subst (AllByRecursion (Has q)) (sym is)
        (all_append (Has q) (nodes ++ files) locks
        (all_append (Has q) nodes files (nodes_include.1 within.nodes) (files_include.1 within.files)) (runs_include.1 within.locks)),
  )

-- ---- the same on both sides

pub same_of_alike : (p q : Snapshot) → ((m n : Marking) → ((spot : Spot) → get m spot ≡ get n spot) → m ≡ n) → AreAlike p q → HaveSame p q
same_of_alike p q exact alike = record {
  nodes = same_entries p.view.directory.nodes q.view.directory.nodes alike.there.nodes alike.back.nodes;
  files = same_entries p.view.directory.files q.view.directory.files alike.there.files alike.back.files;
  next_node = alike.next_node;
  next_fh = alike.next_fh;
  locks = exact p.marking q.marking (λ spot. either_way (get p.marking spot) (get q.marking spot) (alike.there.locks spot) (alike.back.locks spot));
  parked = alike.parked;
}

within_of_same : (p q : Snapshot) → HaveSame p q → IsWithin p q
within_of_same p q same = record {
  nodes = λ k node has. ap (λ (m : FinMap nat_cmp Node). get m k) (sym same.nodes) ∙ has;
  files = λ fh node has. ap (λ (m : FinMap nat_cmp ℕ). get m fh) (sym same.files) ∙ has;
  locks = λ spot mark has. ap (λ (m : Marking). get m spot) (sym same.locks) ∙ has;
}

turned : (p q : Snapshot) → HaveSame p q → HaveSame q p
turned p q same = record {
  nodes = sym same.nodes;
  files = sym same.files;
  next_node = sym same.next_node;
  next_fh = sym same.next_fh;
  locks = sym same.locks;
  parked = sym same.parked;
}

pub alike_of_same : (p q : Snapshot) → HaveSame p q → AreAlike p q
alike_of_same p q same = record {
  there = within_of_same p q same;
  back = within_of_same q p (turned p q same);
  next_node = same.next_node;
  next_fh = same.next_fh;
  parked = same.parked;
}

-- under the same rules all is the same
pub equal_of_same : (p q : Snapshot) → IsRuled p.rules p.view.directory → IsRuled q.rules q.view.directory → HaveSame p q → p.rules ≡ q.rules → p ≡ q
equal_of_same p q one other same rules =
    let nodes : p.view.directory.most_nodes ≡ q.view.directory.most_nodes = one.nodes ∙ ap (λ (r : Rules). r.files) rules ∙ sym other.nodes in
    let files : p.view.directory.most_files ≡ q.view.directory.most_files = one.files ∙ ap (λ (r : Rules). r.open_files) rules ∙ sym other.files in
    λ i. record {
      rules = rules i;
      view = record {
        directory = record {
          nodes = same.nodes i;
          files = same.files i;
          next_node = same.next_node i;
          next_fh = same.next_fh i;
          most_nodes = nodes i;
          most_files = files i;
        };
        parked = same.parked i;
      };
      marking = same.locks i;
    }

-- ---- two lists in step

module _ {A : Type 0} (xs ys : List A) (i j : ℕ) (inv : (drop i xs ≡ drop j ys) ↔ (xs ≡ ys)) where
  same_tails : (x : A) (us vs : List A) → x ∷ us ≡ x ∷ vs → us ≡ vs
  same_tails x us vs e = cc e

  pub step_both : (n m : ℕ) (x y : A) → slice_get xs i ≡ Some x → slice_get ys j ≡ Some y → n ≡ i + 1 → m ≡ j + 1 → x ≡ y → (drop n xs ≡ drop m ys) ↔ (xs ≡ ys)
  step_both n m x y here there first second same =
      let left : drop i xs ≡ y ∷ drop n xs = drop_here xs i x here ∙ (λ k. same k ∷ drop (sym first k) xs) in
      let right : drop j ys ≡ y ∷ drop m ys = drop_here ys j y there ∙ (λ k. y ∷ drop (sym second k) ys) in (
        λ e. inv.0 (left ∙ ap (λ l. y ∷ l) e ∙ sym right),
        λ e. same_tails y (drop n xs) (drop m ys) (sym left ∙ inv.1 e ∙ right),
      )

  pub differ_here : (x y : A) → slice_get xs i ≡ Some x → slice_get ys j ≡ Some y → (x ≡ y → ⊥) → xs ≡ ys → ⊥
  differ_here x y here there other e =
      let heads : x ∷ drop (i + 1) xs ≡ y ∷ drop (j + 1) ys = sym (drop_here xs i x here) ∙ inv.1 e ∙ drop_here ys j y there in
      other (cc heads)

  pub one_ends : (x : A) → slice_get xs i ≡ Some x → slice_get ys j ≡ None → xs ≡ ys → ⊥
  one_ends x here none e =
      let heads : x ∷ drop (i + 1) xs ≡ [] = sym (drop_here xs i x here) ∙ inv.1 e ∙ past_end ys j none in
      cc heads

  -- the first list ends
  pub both_end : slice_get xs i ≡ None → (o : Option A) → slice_get ys j ≡ o → (b : Bool) → (b ≡ true → o ≡ None) → (o ≡ None → b ≡ true) → (b ≡ true) ↔ (xs ≡ ys)
  both_end none o is b ends ended = (
    λ yes. inv.0 (past_end xs i none ∙ sym (past_end ys j (is ∙ ends yes))),
    λ e. ended (go o is (inv.1 e)),
  )
    where
      go : (o : Option A) → slice_get ys j ≡ o → drop i xs ≡ drop j ys → o ≡ None
      go None is e = refl
      go (Some y) is e =
          let heads : [] ≡ y ∷ drop (j + 1) ys = sym (past_end xs i none) ∙ e ∙ drop_here ys j y is in
          absurd (cc heads)
