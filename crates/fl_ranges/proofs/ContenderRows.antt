-- The rows of a class on a node stand one after another, and no other run conflicts with a lock of their class and
-- node.
use Rattle.std.proofs.Common.{◌≡◌, ◌≢◌, ℕ, zero, suc, ◌+◌, ◌<◌, ◌≤◌, Bool, true, false, cond, not, ◌&&◌, ◌||◌, ◌==◌}
use Rattle.std.proofs.Common.{nat_lt, nat_le, Option, Some}
use Rattle.std.proofs.Common.{None, List, [], ◌∷◌}
use Rattle.std.proofs.Common.{◌++◌, map, drop, get_or, slice_get, refl, ap, sym, ◌∙◌, subst, add-one, arith}
use Rattle.std.proofs.lemmas.Bool.Decides.{nat_tests}
use Rattle.std.proofs.lemmas.Bool.{false_from_ne_true, eqb-true}
use Rattle.std.proofs.lemmas.List.{append-nil}
use Rattle.std.proofs.lemmas.List.Elements.{filter-append}
use Rattle.std.proofs.lemmas.Option.{none-some}
use Rattle.std.specs.Cmp.{first_so, second_so}
use Rattle.std.specs.List.{filter, find, flat_map, AllByRecursion}
use Rattle.std.specs.Ordering.{nat_cmp, ordering_then, is_lt}
use Rattle.fl_spans.specs.Rows.{chain_count, row_lists, rows, keys, runs_at}
use Rattle.fl_spans.specs.declared.span.Span.{Span}
use Rattle.fl_spans.specs.Spans.{overlaps, AreSpans}
use Rattle.fl_marks.specs.declared.lock.Key.{Key}
use Rattle.fl_marks.specs.declared.lock.Kind.{Kind}
use Rattle.fl_marks.specs.declared.lock.Mark.{Mark}
use Rattle.fl_marks.specs.declared.run.Run.{Run}
use Rattle.fl_marks.specs.Marking.{class_number}
use Rattle.fl_marks.specs.Conflict.{kinds_conflict}
use Rattle.fl_ranges.specs.Placing.{home}
use Rattle.fl_marks.specs.Blocker.{of_owner}
use Rattle.fl_ranges.specs.Inside.RunList.{run_conflicts}
use Rattle.fl_ranges.specs.Inside.LockRows.{LockRow, LockRows, key_precedes}
use Rattle.fl_ranges.specs.Layout.{run_of, runs_of, runs_in, table_runs}
use Rattle.fl_ranges.specs.Inside.LockRows.{AreInOrder, AreLockRows}
use Rattle.fl_ranges.specs.Inside.Contenders.{are_kin, is_earlier, rows_from, class_rows, kin_owner, span_conflicts}
use Rattle.fl_ranges.proofs.Each.{all_append, drop_here}
use Rattle.fl_ranges.proofs.Markings.{same_class}

-- ---- keys

-- what it means for one key's row to stand before another's, told by the numbers of nodes, classes and owners
pub record Ahead (n m c d o p : ℕ) : Type 0 where
  pub node : n ≤ m
  pub class : n ≡ m → c ≤ d
  pub owner : n ≡ m → c ≡ d → o < p

ahead : (n m c d o p : ℕ) → is_lt (ordering_then (ordering_then (nat_cmp n m) (nat_cmp c d)) (nat_cmp o p)) ≡ true → Ahead n m c d o p
ahead n m c d o p e = record {
  node = grind (arith, nat_tests);
  class = λ same. grind (arith, nat_tests);
  owner = λ same one. grind (arith, nat_tests);
}

pub key_ahead : (a b : Key) → key_precedes a b ≡ true →
    Ahead a.node b.node (class_number a.class) (class_number b.class) a.owner b.owner
key_ahead a b e = ahead a.node b.node (class_number a.class) (class_number b.class) a.owner b.owner e

earlier_not : (n m c d : ℕ) → (nat_lt n m || ((n == m) && nat_lt c d)) ≡ true → ((d == c) && (m == n)) ≡ false
earlier_not n m c d e = grind (arith, nat_tests)

-- what stands behind a row that isn't earlier than a key, and not of its class and node, isn't either
past_stays : (n m c d o p k b : ℕ) → Ahead n m c d o p → (nat_lt n k || ((n == k) && nat_lt c b)) ≡ false → ((b == c) && (k == n)) ≡ false →
    ((b == d) && (k == m)) ≡ false
past_stays n m c d o p k b h e f = let x = h.node in let y = h.class in grind (arith, nat_tests)

not_earlier_stays : (n m c d o p k b : ℕ) → Ahead n m c d o p → (nat_lt n k || ((n == k) && nat_lt c b)) ≡ false →
    (nat_lt m k || ((m == k) && nat_lt d b)) ≡ false
not_earlier_stays n m c d o p k b h e = let x = h.node in let y = h.class in grind (arith, nat_tests)

module _ {A : Type 0} where
  pub each_row : (P Q : A → Type 0) → ((r : A) → P r → Q r) → (rs : List A) → AllByRecursion P rs → AllByRecursion Q rs
  each_row P Q f [] all = tt
  each_row P Q f (r ∷ rs) all = (f r all.0, each_row P Q f rs all.1)

  pub each_get : (P : A → Type 0) (rs : List A) (i : ℕ) (r : A) → slice_get rs i ≡ Some r → AllByRecursion P rs → P r
  each_get P [] i r found all = absurd (none-some r found)
  each_get P (x ∷ rs) zero r found all = let same : x ≡ r = cc found in subst P same all.0
  each_get P (x ∷ rs) (suc i) r found all = each_get P rs i r found all.1

-- ---- the row at a cursor

-- a row has a key
record HasKey (rs : List LockRow) (i : ℕ) (key : Key) : Type 0 where
  pub row : LockRow
  pub there : slice_get rs i ≡ Some row
  pub key_is : row.key ≡ key
  pub spans : runs_at rs i ≡ row.runs

has_key : (rs : List LockRow) (i : ℕ) (key : Key) → slice_get (keys rs) i ≡ Some key → HasKey rs i key
has_key [] i key found = absurd (none-some key found)
has_key (r ∷ rs) zero key found = record { row = r; there = refl; key_is = cc found; spans = refl }
has_key (r ∷ rs) (suc i) key found =
    let h = has_key rs i key found in
    record { row = h.row; there = h.there; key_is = h.key_is; spans = h.spans }

no_row : (rs : List LockRow) (i : ℕ) → slice_get (keys rs) i ≡ None → drop i rs ≡ []
no_row [] zero none = refl
no_row [] (suc i) none = refl
no_row (r ∷ rs) zero none = absurd (none-some r.key (sym none))
no_row (r ∷ rs) (suc i) none = no_row rs i none

module _ (key : Key) (rs : List LockRow) (i : ℕ) where
  -- a walk goes on from an earlier row
  pub past_earlier : (other : Key) → slice_get (keys rs) i ≡ Some other → is_earlier other key ≡ true →
      rows_from key (drop (i + 1) rs) ≡ rows_from key (drop i rs)
  past_earlier other found earlier =
      let h = has_key rs i other found in
      sym (ap (rows_from key) (drop_here rs i h.row h.there)
      ∙ ap (λ b. cond b (rows_from key (drop (i + 1) rs)) (h.row ∷ drop (i + 1) rs)) (ap (λ k. is_earlier k key) h.key_is ∙ earlier))

  -- and stops at another one, or at the end
  pub at_other : (other : Key) → slice_get (keys rs) i ≡ Some other → is_earlier other key ≡ false → rows_from key (drop i rs) ≡ drop i rs
  at_other other found not_earlier =
      let h = has_key rs i other found in
      ap (rows_from key) (drop_here rs i h.row h.there)
      ∙ ap (λ b. cond b (rows_from key (drop (i + 1) rs)) (h.row ∷ drop (i + 1) rs)) (ap (λ k. is_earlier k key) h.key_is ∙ not_earlier)
      ∙ sym (drop_here rs i h.row h.there)

  pub at_none : slice_get (keys rs) i ≡ None → rows_from key (drop i rs) ≡ drop i rs
  at_none none = ap (rows_from key) (no_row rs i none) ∙ sym (no_row rs i none)

  -- the row is of the class and node, and of an owner
  pub record IsKin (owner : ℕ) : Type 0 where
    pub row : LockRow
    pub there : slice_get rs i ≡ Some row
    pub spans : runs_at rs i ≡ row.runs
    pub key_is : row.key ≡ of_owner key owner
    pub kin : are_kin key row.key ≡ true
    pub rest : class_rows key (drop i rs) ≡ row ∷ class_rows key (drop (i + 1) rs)

  kin_key : (other : Key) (owner : ℕ) → cond (are_kin key other) (Some other.owner) None ≡ Some owner →
      (are_kin key other ≡ true) × (other ≡ of_owner key owner)
  kin_key other owner found = go (are_kin key other) refl found
    where
      go : (b : Bool) → are_kin key other ≡ b → cond b (Some other.owner) None ≡ Some owner → (are_kin key other ≡ true) × (other ≡ of_owner key owner)
      go true is e =
          let class : other.class ≡ key.class =
          same_class other.class key.class (sym (eqb-true (class_number key.class) (class_number other.class) (first_so _ (key.node == other.node) is))) in
          let node : other.node ≡ key.node = sym (eqb-true key.node other.node (second_so (class_number key.class == class_number other.class) _ is)) in
          let same : other.owner ≡ owner = cc e in
          (is, λ i. record { class = class i; node = node i; owner = same i })
      go false is e = absurd (cc e)

  pub at_kin : (owner : ℕ) → kin_owner key (slice_get (keys rs) i) ≡ Some owner → IsKin owner
  at_kin owner found = go (slice_get (keys rs) i) refl found
    where
      go : (o : Option Key) → slice_get (keys rs) i ≡ o → kin_owner key o ≡ Some owner → IsKin owner
      go None is e = absurd (cc e)
      go (Some other) is e =
          let h = has_key rs i other is in
          let k = kin_key other owner e in
          record {
            row = h.row;
            there = h.there;
            spans = h.spans;
            key_is = h.key_is ∙ k.1;
            kin = ap (are_kin key) h.key_is ∙ k.0;
            rest = ap (class_rows key) (drop_here rs i h.row h.there)
                ∙ ap (λ b. cond b (h.row ∷ class_rows key (drop (i + 1) rs)) []) (ap (are_kin key) h.key_is ∙ k.0);
          }

  -- no row of the class and node is left
  pub none_kin : kin_owner key (slice_get (keys rs) i) ≡ None → class_rows key (drop i rs) ≡ []
  none_kin none = go (slice_get (keys rs) i) refl none
    where
      go : (o : Option Key) → slice_get (keys rs) i ≡ o → kin_owner key o ≡ None → class_rows key (drop i rs) ≡ []
      go None is e = ap (class_rows key) (no_row rs i is)
      go (Some other) is e =
          let h = has_key rs i other is in
          ap (class_rows key) (drop_here rs i h.row h.there)
          ∙ ap (λ b. cond b (h.row ∷ class_rows key (drop (i + 1) rs)) []) (ap (are_kin key) h.key_is ∙ other_one (are_kin key other) e)
        where
          other_one : (b : Bool) → cond b (Some other.owner) None ≡ None → b ≡ false
          other_one true e = absurd (none-some other.owner (sym e))
          other_one false e = refl

-- ---- what a walk along the rows of a class on a node leaves out

module _ (key : Key) (t : Run → Bool) (kin : (r : Run) → t r ≡ true → are_kin key r.key ≡ true) where
  other_spans : (k : Key) → are_kin key k ≡ false → (ss : List (Span Mark)) → filter t (map (run_of k) ss) ≡ []
  other_spans k other [] = refl
  other_spans k other (s ∷ ss) =
      ap (λ b. cond b (run_of k s ∷ filter t (map (run_of k) ss)) (filter t (map (run_of k) ss)))
      (false_from_ne_true (t (run_of k s)) (λ is. cc (sym other ∙ kin (run_of k s) is)))
      ∙ other_spans k other ss

  kept_in : (r : LockRow) (rs : List LockRow) → filter t (runs_in (r ∷ rs)) ≡ filter t (runs_of r) ++ filter t (runs_in rs)
  kept_in r rs = filter-append t (runs_of r) (runs_in rs)

  -- the rows of other nodes and classes
  other_rows : (rs : List LockRow) → AllByRecursion (λ r. are_kin key r.key ≡ false) rs → filter t (runs_in rs) ≡ []
  other_rows [] others = refl
  other_rows (r ∷ rs) others = kept_in r rs ∙ (λ i. other_spans r.key others.0 r.runs i ++ other_rows rs others.1 i)

  -- those from the first that isn't earlier on
  class_part : (rs : List LockRow) → AreInOrder rs → AllByRecursion (λ r. is_earlier r.key key ≡ false) rs →
      filter t (runs_in rs) ≡ filter t (runs_in (class_rows key rs))
  class_part [] order each = refl
  class_part (r ∷ rs) order each = go (are_kin key r.key) refl (class_part rs order.1 each.1)
    where
      go : (b : Bool) → are_kin key r.key ≡ b → filter t (runs_in rs) ≡ filter t (runs_in (class_rows key rs)) →
          filter t (runs_in (r ∷ rs)) ≡ filter t (runs_in (cond b (r ∷ class_rows key rs) []))
      go true is rest = kept_in r rs ∙ ap (λ l. filter t (runs_of r) ++ l) rest ∙ sym (kept_in r (class_rows key rs))
      go false is rest = other_rows (r ∷ rs) (
        is,
        each_row (λ x. key_precedes r.key x.key ≡ true) (λ x. are_kin key x.key ≡ false)
            (λ x first. past_stays r.key.node x.key.node (class_number r.key.class) (class_number x.key.class) r.key.owner x.key.owner key.node
            (class_number key.class) (key_ahead r.key x.key first) each.0 is) rs order.0,
      )

  chain_part : (rs : List LockRow) → AreInOrder rs → filter t (runs_in rs) ≡ filter t (runs_in (class_rows key (rows_from key rs)))
  chain_part [] order = refl
  chain_part (r ∷ rs) order = go (is_earlier r.key key) refl (chain_part rs order.1)
    where
      go : (b : Bool) → is_earlier r.key key ≡ b → filter t (runs_in rs) ≡ filter t (runs_in (class_rows key (rows_from key rs))) →
          filter t (runs_in (r ∷ rs)) ≡ filter t (runs_in (class_rows key (cond b (rows_from key rs) (r ∷ rs))))
      go true is rest =
          kept_in r rs
          ∙ ap (λ l. l ++ filter t (runs_in rs))
          (other_spans r.key (earlier_not r.key.node key.node (class_number r.key.class) (class_number key.class) is) r.runs)
          ∙ rest
      go false is rest = class_part (r ∷ rs) order (
        is,
        each_row (λ x. key_precedes r.key x.key ≡ true) (λ x. is_earlier x.key key ≡ false)
            (λ x first. not_earlier_stays r.key.node x.key.node (class_number r.key.class) (class_number x.key.class) r.key.owner x.key.owner key.node
            (class_number key.class) (key_ahead r.key x.key first) is) rs order.0,
      )

  no_list : (rss : List (List LockRow)) → ((d : ℕ) → filter t (runs_in (get_or rss d [])) ≡ []) → filter t (flat_map runs_in rss) ≡ []
  no_list [] none = refl
  no_list (rs ∷ rss) none = filter-append t (runs_in rs) (flat_map runs_in rss) ∙ (λ i. none 0 i ++ no_list rss (λ d. none (suc d)) i)

  one_list : (rss : List (List LockRow)) (c : ℕ) → ((d : ℕ) → d ≢ c → filter t (runs_in (get_or rss d [])) ≡ []) →
      filter t (flat_map runs_in rss) ≡ filter t (runs_in (get_or rss c []))
  one_list [] c none = refl
  one_list (rs ∷ rss) zero none =
      filter-append t (runs_in rs) (flat_map runs_in rss)
      ∙ ap (λ l. filter t (runs_in rs) ++ l) (no_list rss (λ d. none (suc d) (λ e. omega (arith, e))))
      ∙ append-nil (filter t (runs_in rs))
  one_list (rs ∷ rss) (suc c) none =
      filter-append t (runs_in rs) (flat_map runs_in rss)
      ∙ (λ i. none 0 (λ e. omega (arith, e)) i ++ one_list rss c (λ d apart. none (suc d) (λ e. apart (omega (arith, e)))) i)

  other_chain : (chains c : ℕ) (rs : List LockRow) → AreLockRows chains c rs → c ≢ home chains key.node → filter t (runs_in rs) ≡ []
  other_chain chains c rs are apart =
      other_rows rs (each_row (λ r. home chains r.key.node ≡ c) (λ r. are_kin key r.key ≡ false)
      (λ r at. false_from_ne_true _ (λ is. apart (sym at ∙ ap (home chains) (sym (eqb-true key.node r.key.node (second_so _ _ is)))))) rs are.at_home)

  -- the runs that pass a test which only those of the class and node do
  pub class_runs : (v : LockRows) → ((c : ℕ) → AreLockRows (chain_count v) c (rows v c)) →
      filter t (table_runs v) ≡ filter t (runs_in (class_rows key (rows_from key (rows v (home (chain_count v) key.node)))))
  class_runs v kept =
      one_list (row_lists v) (home (chain_count v) key.node) (λ d apart. other_chain (chain_count v) d (rows v d) (kept d) apart)
      ∙ chain_part (rows v (home (chain_count v) key.node)) (let are = kept (home (chain_count v) key.node) in are.in_order)

-- a run that conflicts with a lock is of its class and node
pub conflicting_kin : (key : Key) (start end : ℕ) (kind : Kind) (r : Run) → run_conflicts key start end kind r ≡ true → are_kin key r.key ≡ true
conflicting_kin key start end kind r is = parts_kin (class_number key.class == class_number r.key.class) (key.node == r.key.node)
    (not (key.owner == r.key.owner)) (first_so _ _ is)
  where
    parts_kin : (a b c : Bool) → (a && (b && c)) ≡ true → (a && b) ≡ true
    parts_kin true true c e = refl
    parts_kin true false c e = absurd (cc e)
    parts_kin false b c e = absurd (cc e)

-- ---- what one row has

contender_kin : (class node other owner : ℕ) → other ≢ owner → ((class == class) && ((node == node) && not (owner == other))) ≡ true
contender_kin class node other owner apart = grind (arith, nat_tests)

own_kin : (class node owner : ℕ) → ((class == class) && ((node == node) && not (owner == owner))) ≡ false
own_kin class node owner = grind (arith, nat_tests)

module _ (key : Key) (start end : ℕ) (kind : Kind) where
  -- a span of another owner conflicts with a lock as its bytes and its kind say
  pub contender_span : (owner : ℕ) → owner ≢ key.owner → (ss : List (Span Mark)) →
      find (λ s. overlaps start end s && kinds_conflict kind s.mark.kind) ss ≡ find (span_conflicts key owner start end kind) ss
  contender_span owner apart ss =
      ap (λ b. find (λ (s : Span Mark). b && ((nat_le s.start end && nat_le start s.end) && kinds_conflict kind s.mark.kind)) ss)
      (sym (contender_kin (class_number key.class) key.node owner key.owner apart))

  -- one of the same owner doesn't
  pub own_span : (ss : List (Span Mark)) → find (span_conflicts key key.owner start end kind) ss ≡ None
  own_span [] = refl
  own_span (s ∷ ss) =
      ap (λ b. cond (b && ((nat_le s.start end && nat_le start s.end) && kinds_conflict kind s.mark.kind)) (Some s) (find
      (span_conflicts key key.owner start end kind) ss))
      (own_kin (class_number key.class) key.node key.owner)
      ∙ own_span ss

-- the spans of a row of the class and node are in order
pub kin_spans : (key : Key) (rs : List LockRow) (i owner : ℕ) → kin_owner key (slice_get (keys rs) i) ≡ Some owner →
    AllByRecursion (λ r. AreSpans r.runs) rs → AreSpans (runs_at rs i)
kin_spans key rs i owner found all =
    let k = at_kin key rs i owner found in
    subst AreSpans (sym k.spans) (each_get (λ r. AreSpans r.runs) rs i k.row k.there all)

-- ---- later rows

order_here : (rs : List LockRow) (i : ℕ) (r : LockRow) → slice_get rs i ≡ Some r → AreInOrder rs →
    AllByRecursion (λ x. key_precedes r.key x.key ≡ true) (drop (suc i) rs)
order_here [] i r found order = absurd (none-some r found)
order_here (y ∷ rs) zero r found order = let same : y ≡ r = cc found in subst (λ (z : LockRow). AllByRecursion
    (λ x. key_precedes z.key x.key ≡ true) rs) same order.0
order_here (y ∷ rs) (suc i) r found order = order_here rs i r found order.1

pub later_order : (rs : List LockRow) (i : ℕ) (r : LockRow) → slice_get rs i ≡ Some r → AreInOrder rs →
    AllByRecursion (λ x. key_precedes r.key x.key ≡ true) (drop (i + 1) rs)
later_order rs i r found order = rw add-one (order_here rs i r found order)

module _ (key : Key) (owner : ℕ) where
  pub later_owner : (k : Key) → key_precedes (of_owner key owner) k ≡ true → are_kin key k ≡ true → owner < k.owner
  later_owner k first kin =
      let h = key_ahead (of_owner key owner) k first in
      h.owner (eqb-true key.node k.node (second_so (class_number key.class == class_number k.class) _ kin))
      (eqb-true (class_number key.class) (class_number k.class) (first_so _ (key.node == k.node) kin))

  later_spans : (k : Key) → owner < k.owner → (ss : List (Span Mark)) → AllByRecursion (λ (r : Run). owner < r.key.owner) (map (run_of k) ss)
  later_spans k less [] = tt
  later_spans k less (s ∷ ss) = (less, later_spans k less ss)

  later_rows : (rs : List LockRow) → AllByRecursion (λ x. key_precedes (of_owner key owner) x.key ≡ true) rs →
      AllByRecursion (λ (r : Run). owner < r.key.owner) (runs_in (class_rows key rs))
  later_rows [] each = tt
  later_rows (x ∷ rs) each = go (are_kin key x.key) refl (later_rows rs each.1)
    where
      go : (b : Bool) → are_kin key x.key ≡ b → AllByRecursion (λ (r : Run). owner < r.key.owner) (runs_in (class_rows key rs)) →
          AllByRecursion (λ (r : Run). owner < r.key.owner) (runs_in (cond b (x ∷ class_rows key rs) []))
      go true is rest =
          all_append (λ r. owner < r.key.owner) (runs_of x) (runs_in (class_rows key rs))
          (later_spans x.key (later_owner x.key each.0 is) x.runs) rest
      go false is rest = tt

  -- the runs of later rows of the class and node are of greater owners
  pub later_runs : (rs : List LockRow) (i : ℕ) → AreInOrder rs → IsKin key rs i owner →
      AllByRecursion (λ (r : Run). owner < r.key.owner) (runs_in (class_rows key (drop (i + 1) rs)))
  later_runs rs i order k =
      later_rows (drop (i + 1) rs)
      (subst (λ (o : Key). AllByRecursion (λ x. key_precedes o x.key ≡ true) (drop (i + 1) rs)) k.key_is (later_order rs i k.row k.there order))
