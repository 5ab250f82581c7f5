-- Rows in order once one key's row has other spans.
use Rattle.std.proofs.Common.{◌≡◌, ◌≢◌, ℕ, ◌+◌, Bool, true, false, cond, List, [], ◌∷◌, map, length, refl, ap, sym}
use Rattle.std.proofs.Common.{◌∙◌, subst, arith, length-append}
use Rattle.std.proofs.lemmas.Bool.Decides.{nat_tests}
use Rattle.std.proofs.lemmas.List.{length-map}
use Rattle.std.specs.List.{AllByRecursion}
use Rattle.std.specs.declared.cmp.Ordering.{Ordering}
use Rattle.std.specs.declared.cmp.Ordering.TheVariants.{Less, Equal, Greater}
use Rattle.std.specs.Ordering.{nat_cmp, ordering_then, eq_by_cmp, is_lt, ordering_reverse}
use Rattle.fl_spans.specs.declared.span.Span.{Span}
use Rattle.fl_spans.specs.Spans.{AreSpans}
use Rattle.fl_marks.specs.declared.lock.Key.{Key}
use Rattle.fl_marks.specs.declared.lock.Mark.{Mark}
use Rattle.fl_marks.specs.Marking.{class_number, key_cmp}
use Rattle.fl_ranges.specs.Placing.{home}
use Rattle.fl_ranges.specs.Inside.LockRows.{LockRow, place_cmp, key_precedes, AreInOrder}
use Rattle.fl_ranges.specs.Layout.{run_of, runs_of, runs_in}
use Rattle.fl_ranges.specs.Inside.LockRows.{spans_of, row_before}
use Rattle.fl_ranges.specs.Inside.LockRows.{given_spans, AreLockRows}
use Rattle.fl_ranges.proofs.Entries.{is_Less}
use Rattle.fl_ranges.proofs.Markings.{same_class}
use Rattle.fl_ranges.proofs.Spots.{same_key, key_itself}
use Rattle.fl_ranges.proofs.Each.{all_weaker}
use Rattle.fl_ranges.proofs.RowRuns.{IsOther, no_spans, turned_key, before_differs, keys_placed}

-- ---- the order of keys

pub before_both : (a b c : Key) → key_precedes a b ≡ true → key_precedes b c ≡ true → key_precedes a c ≡ true
before_both a b c first second = ap is_lt (keys_placed.trans a b c (is_Less (place_cmp a b) first) (is_Less (place_cmp b c) second))

three_tied : (a b c d e f : ℕ) → ordering_then (ordering_then (nat_cmp a b) (nat_cmp c d)) (nat_cmp e f) ≡ Equal → (a ≡ b) × (c ≡ d) × (e ≡ f)
three_tied a b c d e f tied = (grind (arith, nat_tests), grind (arith, nat_tests), grind (arith, nat_tests))

placed_same : (a b : Key) → place_cmp a b ≡ Equal → a ≡ b
placed_same a b tied =
    let same = three_tied a.node b.node (class_number a.class) (class_number b.class) a.owner b.owner tied in
    let node : a.node ≡ b.node = same.0 in
    let class : a.class ≡ b.class = same_class a.class b.class same.1 in
    let owner : a.owner ≡ b.owner = same.2 in
    λ i. record { class = class i; node = node i; owner = owner i }

-- of two keys that differ one goes before the other
pub one_before : (a b : Key) → key_precedes a b ≡ false → eq_by_cmp key_cmp a b ≡ false → key_precedes b a ≡ true
one_before a b before other = go (place_cmp a b) refl
  where
    go : (o : Ordering) → place_cmp a b ≡ o → key_precedes b a ≡ true
    go Less is = absurd (cc (sym before ∙ ap is_lt is))
    go Equal is = absurd (cc (sym other ∙ ap (eq_by_cmp key_cmp a) (sym (placed_same a b is)) ∙ key_itself a))
    go Greater is = ap is_lt (keys_placed.antisymm b a ∙ ap ordering_reverse is)

-- behind a row, what goes before it goes before all
pub all_behind : (key : Key) (r : LockRow) (rs : List LockRow) → key_precedes key r.key ≡ true →
    AllByRecursion (λ (x : LockRow). key_precedes r.key x.key ≡ true) rs →
    AllByRecursion (λ (x : LockRow). key_precedes key x.key ≡ true) rs
all_behind key r rs before each =
    all_weaker (λ (x : LockRow). key_precedes r.key x.key ≡ true) (λ (x : LockRow). key_precedes key x.key ≡ true)
    (λ x after. before_both key r.key x.key before after) rs each

pub behind_others : (key : Key) (rs : List LockRow) → AllByRecursion (λ (x : LockRow). key_precedes key x.key ≡ true) rs → AllByRecursion (IsOther key) rs
behind_others key rs each =
    all_weaker (λ (x : LockRow). key_precedes key x.key ≡ true) (IsOther key) (λ x after. before_differs key x.key after) rs each

-- ---- a row of the key before rows that stand behind it

module _ (key : Key) (ss : List (Span Mark)) where
  each_row_before : (P : LockRow → Type 0) → ((s : Span Mark) (ts : List (Span Mark)) → ss ≡ s ∷ ts → P (record { key = key; runs = s ∷ ts })) →
      (rs : List LockRow) → AllByRecursion P rs → AllByRecursion P (row_before key ss rs)
  each_row_before P own rs each = go ss refl
    where
      go : (l : List (Span Mark)) → ss ≡ l → AllByRecursion P (row_before key l rs)
      go [] is = each
      go (s ∷ ts) is = (own s ts is, each)

  in_order_before : (rs : List LockRow) → AllByRecursion (λ (x : LockRow). key_precedes key x.key ≡ true) rs → AreInOrder rs → AreInOrder (row_before key ss rs)
  in_order_before rs behind order = go ss
    where
      go : (l : List (Span Mark)) → AreInOrder (row_before key l rs)
      go [] = order
      go (s ∷ ts) = (behind, order)

  spans_before : (rs : List LockRow) (k : Key) → (eq_by_cmp key_cmp key k ≡ true → spans_of k rs ≡ []) →
      spans_of k (row_before key ss rs) ≡ cond (eq_by_cmp key_cmp key k) ss (spans_of k rs)
  spans_before rs k none = go ss (eq_by_cmp key_cmp key k) refl
    where
      go : (l : List (Span Mark)) (b : Bool) → eq_by_cmp key_cmp key k ≡ b → spans_of k (row_before key l rs) ≡ cond b l (spans_of k rs)
      go [] true is = none is
      go [] false is = refl
      go (s ∷ ts) b is = ap (λ (x : Bool). cond x (s ∷ ts) (spans_of k rs)) is

  long_before : (rs : List LockRow) → length (runs_in (row_before key ss rs)) ≡ length ss + length (runs_in rs)
  long_before rs = go ss
    where
      go : (l : List (Span Mark)) → length (runs_in (row_before key l rs)) ≡ length l + length (runs_in rs)
      go [] = omega arith
      go (s ∷ ts) = length-append (map (run_of key) (s ∷ ts)) (runs_in rs) ∙ ap (λ (n : ℕ). n + length (runs_in rs)) (length-map (s ∷ ts) (run_of key))

  -- ---- all rows

  pub each_given : (P : LockRow → Type 0) → ((s : Span Mark) (ts : List (Span Mark)) → ss ≡ s ∷ ts → P (record { key = key; runs = s ∷ ts })) →
      (rs : List LockRow) → AllByRecursion P rs → AllByRecursion P (given_spans key ss rs)
  each_given P own [] each = each_row_before P own [] each
  each_given P own (r ∷ rs) each = go (each_given P own rs each.1) (key_precedes r.key key) (eq_by_cmp key_cmp r.key key)
    where
      go : AllByRecursion P (given_spans key ss rs) → (b c : Bool) →
          AllByRecursion P (cond b (r ∷ given_spans key ss rs) (cond c (row_before key ss rs) (row_before key ss (r ∷ rs))))
      go rest true c = (each.0, rest)
      go rest false true = each_row_before P own rs each.1
      go rest false false = each_row_before P own (r ∷ rs) each

  pub in_order_given : (rs : List LockRow) → AreInOrder rs → AreInOrder (given_spans key ss rs)
  in_order_given [] order = in_order_before [] tt tt
  in_order_given (r ∷ rs) order = go (in_order_given rs order.1) (key_precedes r.key key) (eq_by_cmp key_cmp r.key key) refl refl
    where
      go : AreInOrder (given_spans key ss rs) → (b c : Bool) → key_precedes r.key key ≡ b → eq_by_cmp key_cmp r.key key ≡ c →
          AreInOrder (cond b (r ∷ given_spans key ss rs) (cond c (row_before key ss rs) (row_before key ss (r ∷ rs))))
      go rest true c before same = (each_given (λ (x : LockRow). key_precedes r.key x.key ≡ true) (λ s ts is. before) rs order.0, rest)
      go rest false true before same =
          in_order_before rs (subst (λ (k : Key). AllByRecursion (λ (x : LockRow). key_precedes k x.key ≡ true) rs) (same_key r.key key same) order.0) order.1
      go rest false false before same =
          let ahead = one_before r.key key before same in
          in_order_before (r ∷ rs) (ahead, all_behind key r rs ahead order.0) order

  pub spans_given : (rs : List LockRow) → AreInOrder rs → (k : Key) →
      spans_of k (given_spans key ss rs) ≡ cond (eq_by_cmp key_cmp key k) ss (spans_of k rs)
  spans_given [] order k = spans_before [] k (λ same. refl)
  spans_given (r ∷ rs) order k = go (spans_given rs order.1 k) (key_precedes r.key key) (eq_by_cmp key_cmp r.key key) refl refl
    where
      other_way : (b c : Bool) (rest : List (Span Mark)) → (b ≡ true → c ≡ true → ⊥) →
          cond b r.runs (cond c ss rest) ≡ cond c ss (cond b r.runs rest)
      other_way true true rest apart = absurd (apart refl refl)
      other_way true false rest apart = refl
      other_way false c rest apart = refl

      without : (b c : Bool) → c ≡ b → cond b ss (spans_of k rs) ≡ cond b ss (cond c r.runs (spans_of k rs))
      without true c is = refl
      without false c is = ap (λ (x : Bool). cond x r.runs (spans_of k rs)) (sym is)

      go : spans_of k (given_spans key ss rs) ≡ cond (eq_by_cmp key_cmp key k) ss (spans_of k rs) → (b c : Bool) → key_precedes r.key key ≡ b →
          eq_by_cmp key_cmp r.key key ≡ c →
          spans_of k (cond b (r ∷ given_spans key ss rs) (cond c (row_before key ss rs) (row_before key ss (r ∷ rs))))
          ≡ cond (eq_by_cmp key_cmp key k) ss (cond (eq_by_cmp key_cmp r.key k) r.runs (spans_of k rs))
      go rest true c before same =
          ap (λ (l : List (Span Mark)). cond (eq_by_cmp key_cmp r.key k) r.runs l) rest
          ∙ other_way (eq_by_cmp key_cmp r.key k) (eq_by_cmp key_cmp key k) (spans_of k rs) (λ first second.
          let is : r.key ≡ key = same_key r.key k first ∙ sym (same_key key k second) in
          absurd (cc (sym (before_differs r.key key before) ∙ ap (eq_by_cmp key_cmp key) is ∙ key_itself key)))
      go rest false true before same =
          let is : r.key ≡ key = same_key r.key key same in
          spans_before rs k (λ own. no_spans k rs (subst (λ (x : Key). AllByRecursion (IsOther x) rs) (is
          ∙ same_key key k own) (behind_others r.key rs order.0)))
          ∙ without (eq_by_cmp key_cmp key k) (eq_by_cmp key_cmp r.key k) (ap (λ (x : Key). eq_by_cmp key_cmp x k) is)
      go rest false false before same =
          let ahead = one_before r.key key before same in
          spans_before (r ∷ rs) k (λ own. no_spans k (r ∷ rs) (subst (λ (x : Key). AllByRecursion (IsOther x) (r ∷ rs)) (same_key key k own)
          (behind_others key (r ∷ rs) (ahead, all_behind key r rs ahead order.0))))

  long_first : (r : LockRow) (rs : List LockRow) → length (runs_in (r ∷ rs)) ≡ length r.runs + length (runs_in rs)
  long_first r rs = length-append (runs_of r) (runs_in rs) ∙ ap (λ (n : ℕ). n + length (runs_in rs)) (length-map r.runs (run_of r.key))

  pub long_given : (rs : List LockRow) → AreInOrder rs → length (runs_in (given_spans key ss rs)) + length (spans_of key rs) ≡ length (runs_in rs) + length ss
  long_given [] order = let long = long_before [] in omega (arith, long)
  long_given (r ∷ rs) order = go (long_given rs order.1) (key_precedes r.key key) (eq_by_cmp key_cmp r.key key) refl refl
    where
      go : length (runs_in (given_spans key ss rs)) + length (spans_of key rs) ≡ length (runs_in rs) + length ss → (b c : Bool) →
          key_precedes r.key key ≡ b → eq_by_cmp key_cmp r.key key ≡ c →
          length (runs_in (cond b (r ∷ given_spans key ss rs) (cond c (row_before key ss rs) (row_before key ss (r ∷ rs)))))
          + length (cond (eq_by_cmp key_cmp r.key key) r.runs (spans_of key rs)) ≡ length (runs_in (r ∷ rs)) + length ss
      go rest true c before same =
          let other : length (cond (eq_by_cmp key_cmp r.key key) r.runs (spans_of key rs)) ≡ length (spans_of key rs) =
          ap (λ (x : Bool). length (cond x r.runs (spans_of key rs))) (turned_key key r.key (before_differs r.key key before)) in
          let was = long_first r rs in
          let is = long_first r (given_spans key ss rs) in
          omega (arith, other, rest, was, is)
      go rest false true before same =
          let own : length (cond (eq_by_cmp key_cmp r.key key) r.runs (spans_of key rs)) ≡ length r.runs =
          ap (λ (x : Bool). length (cond x r.runs (spans_of key rs))) same in
          let was = long_first r rs in
          let is = long_before rs in
          omega (arith, own, was, is)
      go rest false false before same =
          let ahead = one_before r.key key before same in
          let none : length (spans_of key (r ∷ rs)) ≡ 0 =
          ap (λ (l : List (Span Mark)). length l) (no_spans key (r ∷ rs) (behind_others key (r ∷ rs) (ahead, all_behind key r rs ahead order.0))) in
          let is = long_before (r ∷ rs) in
          omega (arith, none, is)

  -- the rows of a chain stay such rows
  pub rows_given : {chains : ℕ} (rs : List LockRow) → AreSpans ss → AreLockRows chains (home chains key.node) rs →
      AreLockRows chains (home chains key.node) (given_spans key ss rs)
  rows_given {chains} rs are good = record {
    at_home = each_given (λ (r : LockRow). home chains r.key.node ≡ home chains key.node) (λ s ts is. refl) rs good.at_home;
    in_order = in_order_given rs good.in_order;
    spans = each_given (λ (r : LockRow). AreSpans r.runs) (λ s ts is. subst AreSpans is are) rs good.spans;
    used = each_given (λ (r : LockRow). r.runs ≢ []) (λ s ts is none. absurd (cc none)) rs good.used;
  }
