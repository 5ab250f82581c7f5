-- What changes keep of the way in which a directory is kept.
use Rattle.std.proofs.Common.{◌≡◌, ◌≢◌, ℕ, ◌+◌, ◌<◌, ◌≤◌, Bool, true, false, cond, not, ◌==◌, ◌&&◌, ◌||◌, nat_le, Option, Some, None, option_map}
use Rattle.std.proofs.Common.{IsSome, IfSome, is_some, List, [], ◌∷◌, length, refl, ap, sym, ◌∙◌, subst, arith, count_by}
use Rattle.std.proofs.lemmas.Bool.Decides.{nat_tests}
use Rattle.std.proofs.lemmas.Bool.{eqb-true}
use Rattle.std.proofs.lemmas.List.Sums.{count_by-le-length}
use Rattle.std.proofs.lemmas.Option.{none-some}
use Rattle.std.proofs.lemmas.Slice.Eq.{bytes_eq-Decides}
use Rattle.std.specs.Str.{bytes_eq}
use Rattle.std.specs.Prelude.{replicate}
use Rattle.std.specs.Int.Bits.{bit_and}
use Rattle.std.specs.List.{find}
use Rattle.std.specs.Ordering.{nat_cmp, eq_by_cmp}
use Rattle.std.specs.Cmp.{nat_cmp_total}
use Rattle.std.specs.FinMap as map
use Rattle.fl_arena.specs.Chains.{Chains, items, item_count}
use Rattle.fl_dir.specs.declared.node.Node.{Node}
use Rattle.fl_dir.specs.declared.nodes.Slot.{Slot}
use Rattle.fl_dir.specs.Directory.{Listing, is_named}
use Rattle.fl_dir.specs.OpenFiles.{has_open_file}
use Rattle.fl_dir.specs.Changes.{set_at, changed_at}
use Rattle.fl_dir.specs.Arenas.{bare, values_on}
use Rattle.fl_dir.specs.Inside.Kept.{link_name, name_in, open_in, hash_of, hash_on, has_name, open_count, AreNamed, IsKept}
use Rattle.fl_dir.specs.Inside.Numbers.{Numbers, AreAbove}
use Rattle.fl_dir.specs.Inside.Spread.{at, IsAltered}
use Rattle.fl_dir.proofs.Entries.{truth, tied}
use Rattle.fl_dir.proofs.Spread.{own_key, same_key, counted, some_on, unaltered, none_at, none_sorted, chains_made}
use Rattle.fl_dir.proofs.Bare.{get_bare, none_found, find_none, find_nothing, find_one, found_passes}
use Rattle.fl_dir.proofs.Numbers.{above_put, above_changed, above_removed, above_none, below_limit}
use Rattle.fl_dir.proofs.Counts.{ones, any_counted, count_insert, count_remove, len_within}

-- what contracts see of nodes and files
abbrev pub seen : Numbers Slot → Numbers ℕ → Listing
seen n f = record {
  nodes = bare n.values;
  files = f.values;
  next_node = n.next;
  next_fh = f.next;
  most_nodes = n.limit;
  most_files = f.limit;
}

-- ---- nodes that change and keep their names

same_names : (n n1 : Numbers Slot) (names : Chains (ℕ × ℕ)) (mask : ℕ) (f f1 : Numbers ℕ) → IsKept n names mask f → n1.limit ≡ n.limit → f1.limit ≡ f.limit
    → AreAbove 1 n1 → AreAbove 0 f1 → ((q : ℕ) → name_in (map.get n1.values q) ≡ name_in (map.get n.values q))
    → ((q : ℕ) → open_in (map.get n1.values q) ≡ open_count f1.values q) → IsKept n1 names mask f1
same_names n n1 names mask f f1 kept limit files nodes_above files_above same counts = record {
  named = record {
    chains = kept.named.chains;
    sorted = kept.named.sorted;
    linked = λ c q. kept.named.linked c q ∙ ap (hash_on mask c) (sym (same q));
  };
  room = kept.room ∙ sym limit;
  once = λ k l name p r. kept.once k l name (sym (same k) ∙ p) (sym (same l) ∙ r);
  counts = counts;
  few = subst (λ (m : ℕ). m ≤ 65536) (sym files) kept.few;
  nodes_above = nodes_above;
  files_above = files_above;
}

put_in : {A : Type 0} (h : Option Slot → A) (m : map.FinMap nat_cmp Slot) (k : ℕ) (t : Slot) (q : ℕ) (a : A) →
    h (Some t) ≡ a → h (map.get (map.insert m k t) q) ≡ cond (eq_by_cmp nat_cmp q k) a (h (map.get m q))
put_in h m k t q a is = ap h (map.get-insert nat_cmp_total m k t q) ∙ go (eq_by_cmp nat_cmp q k)
  where
    go : (b : Bool) → h (cond b (Some t) (map.get m q)) ≡ cond b a (h (map.get m q))
    go true = is
    go false = refl

-- what is put in place of what is there is no change
put_same : {A : Type 0} (h : Option Slot → A) (m : map.FinMap nat_cmp Slot) (k : ℕ) (s : Slot) (q : ℕ) (a : A) →
    map.get m k ≡ Some s → h (Some s) ≡ a → cond (eq_by_cmp nat_cmp q k) a (h (map.get m q)) ≡ h (map.get m q)
put_same h m k s q a there is = go (eq_by_cmp nat_cmp q k) refl
  where
    go : (b : Bool) → eq_by_cmp nat_cmp q k ≡ b → cond b a (h (map.get m q)) ≡ h (map.get m q)
    go true same = sym is ∙ sym (ap h (ap (map.get m) (same_key q k same) ∙ there))
    go false other = refl

kept_names : (m : map.FinMap nat_cmp Slot) (k : ℕ) (s t : Slot) → map.get m k ≡ Some s → link_name t.node ≡ link_name s.node → (q : ℕ) →
    name_in (map.get (map.insert m k t) q) ≡ name_in (map.get m q)
kept_names m k s t there same q = put_in name_in m k t q (link_name t.node) refl ∙ put_same name_in m k s q (link_name t.node) there (sym same)

pub changed : (n : Numbers Slot) (names : Chains (ℕ × ℕ)) (mask : ℕ) (f : Numbers ℕ) (k : ℕ) (s t : Slot) → IsKept n names mask f →
    map.get n.values k ≡ Some s → link_name t.node ≡ link_name s.node → t.fhs ≡ s.fhs → IsKept (record n { values = map.insert n.values k t }) names mask f
changed n names mask f k s t kept there name shut =
    same_names n (record n { values = map.insert n.values k t }) names mask f f kept refl refl
    (above_changed 1 n kept.nodes_above k s t there) kept.files_above (kept_names n.values k s t there name)
    (λ q. put_in open_in n.values k t q t.fhs refl ∙ put_same open_in n.values k s q t.fhs there (sym shut) ∙ kept.counts q)

pub gone : (n : Numbers Slot) (names : Chains (ℕ × ℕ)) (mask : ℕ) (f : Numbers ℕ) (k : ℕ) (s : Slot) → IsKept n names mask f →
    map.get n.values k ≡ Some s → link_name s.node ≡ None → s.fhs ≡ 0 → IsKept (record n { values = map.remove n.values k }) names mask f
gone n names mask f k s kept there nameless closed =
    same_names n (record n { values = map.remove n.values k }) names mask f f kept refl refl
    (above_removed 1 n kept.nodes_above k) kept.files_above
    (λ q. taken name_in q None refl ∙ put_same name_in n.values k s q None there nameless)
    (λ q. taken open_in q 0 refl ∙ put_same open_in n.values k s q 0 there closed ∙ kept.counts q)
  where
    taken : {A : Type 0} (h : Option Slot → A) (q : ℕ) (a : A) → h None ≡ a
        → h (map.get (map.remove n.values k) q) ≡ cond (eq_by_cmp nat_cmp q k) a (h (map.get n.values q))
    taken {A} h q a is = ap h (map.get-remove nat_cmp_total n.values k q) ∙ go (eq_by_cmp nat_cmp q k)
      where
        go : (b : Bool) → h (cond b None (map.get n.values q)) ≡ cond b a (h (map.get n.values q))
        go true = is
        go false = refl

-- one more node, without a name
pub unlinked_more : (n : Numbers Slot) (names : Chains (ℕ × ℕ)) (mask : ℕ) (f : Numbers ℕ) (k : ℕ) (t : Slot) → IsKept n names mask f →
    1 < k → map.get n.values k ≡ None → link_name t.node ≡ None → t.fhs ≡ 0 → IsKept (record n { values = map.insert n.values k t }) names mask f
unlinked_more n names mask f k t kept high fresh nameless closed =
    same_names n (record n { values = map.insert n.values k t }) names mask f f kept refl refl
    (above_put 1 n kept.nodes_above k t n.next high kept.nodes_above.next) kept.files_above
    (λ q. put_in name_in n.values k t q None nameless ∙ stays name_in q)
    (λ q. put_in open_in n.values k t q 0 closed ∙ stays open_in q ∙ kept.counts q)
  where
    stays : {A : Type 0} (h : Option Slot → A) (q : ℕ) → cond (eq_by_cmp nat_cmp q k) (h None) (h (map.get n.values q)) ≡ h (map.get n.values q)
    stays {A} h q = go (eq_by_cmp nat_cmp q k) refl
      where
        go : (b : Bool) → eq_by_cmp nat_cmp q k ≡ b → cond b (h None) (h (map.get n.values q)) ≡ h (map.get n.values q)
        go true same = sym (ap h (ap (map.get n.values) (same_key q k same) ∙ fresh))
        go false other = refl

-- ---- counts

pub opened : (n : Numbers Slot) (names : Chains (ℕ × ℕ)) (mask : ℕ) (f : Numbers ℕ) (k fh next : ℕ) (s t : Slot) → IsKept n names mask f
    → map.get n.values k ≡ Some s → link_name t.node ≡ link_name s.node → t.fhs ≡ s.fhs + 1 → map.get f.values fh ≡ None
    → 0 < fh → 0 < next → IsKept (record n { values = map.insert n.values k t }) names mask (record f { values = map.insert f.values fh k; next = next })
opened n names mask f k fh next s t kept there name more new high up =
    same_names n (record n { values = map.insert n.values k t }) names mask f (record f { values = map.insert f.values fh k; next = next }) kept refl refl
    (above_changed 1 n kept.nodes_above k s t there) (above_put 0 f kept.files_above fh k next high up)
    (kept_names n.values k s t there name)
    (λ q. put_in open_in n.values k t q t.fhs refl ∙ go q (eq_by_cmp nat_cmp q k) refl
    ∙ sym (count_insert (λ (file : ℕ × ℕ). file.1 == q) f.values fh k new))
  where
    go : (q : ℕ) (b : Bool) → eq_by_cmp nat_cmp q k ≡ b → cond b t.fhs (open_in (map.get n.values q)) ≡ ones (k == q) + open_count f.values q
    go q true same =
        let one : ones (k == q) ≡ 1 = ap ones (sym (tied q k) ∙ same) in
        let own : open_in (map.get n.values q) ≡ s.fhs = ap open_in (ap (map.get n.values) (same_key q k same) ∙ there) in
        let count = kept.counts q in
        omega arith
    go q false other =
        let none : ones (k == q) ≡ 0 = ap ones (sym (tied q k) ∙ other) in
        let count = kept.counts q in
        omega arith

pub closed : (n : Numbers Slot) (names : Chains (ℕ × ℕ)) (mask : ℕ) (f : Numbers ℕ) (k fh : ℕ) (s t : Slot) → IsKept n names mask f
    → map.get n.values k ≡ Some s → link_name t.node ≡ link_name s.node → t.fhs + 1 ≡ s.fhs → map.get f.values fh ≡ Some k
    → IsKept (record n { values = map.insert n.values k t }) names mask (record f { values = map.remove f.values fh })
closed n names mask f k fh s t kept there name less on =
    same_names n (record n { values = map.insert n.values k t }) names mask f (record f { values = map.remove f.values fh }) kept refl refl
    (above_changed 1 n kept.nodes_above k s t there) (above_removed 0 f kept.files_above fh)
    (kept_names n.values k s t there name)
    (λ q. put_in open_in n.values k t q t.fhs refl ∙ go q (eq_by_cmp nat_cmp q k) refl)
  where
    go : (q : ℕ) (b : Bool) → eq_by_cmp nat_cmp q k ≡ b → cond b t.fhs (open_in (map.get n.values q)) ≡ open_count (map.remove f.values fh) q
    go q true same =
        let one : ones (k == q) ≡ 1 = ap ones (sym (tied q k) ∙ same) in
        let own : open_in (map.get n.values q) ≡ s.fhs = ap open_in (ap (map.get n.values) (same_key q k same) ∙ there) in
        let count = kept.counts q in
        let was = count_remove (λ (file : ℕ × ℕ). file.1 == q) f.values fh k on in
        omega arith
    go q false other =
        let none : ones (k == q) ≡ 0 = ap ones (sym (tied q k) ∙ other) in
        let count = kept.counts q in
        let was = count_remove (λ (file : ℕ × ℕ). file.1 == q) f.values fh k on in
        omega arith

-- a node on which an fh is open is there, and counts it
pub counts_one : (n : Numbers Slot) (names : Chains (ℕ × ℕ)) (mask : ℕ) (f : Numbers ℕ) (k fh : ℕ) → IsKept n names mask f → map.get f.values fh ≡ Some k →
    1 ≤ open_in (map.get n.values k)
counts_one n names mask f k fh kept on =
    let one : ones (k == k) ≡ 1 = ap ones (sym (tied k k) ∙ own_key k) in
    let was = count_remove (λ (file : ℕ × ℕ). file.1 == k) f.values fh k on in
    let count = kept.counts k in
    omega arith

-- there is room to count one more
pub counts_few : (n : Numbers Slot) (names : Chains (ℕ × ℕ)) (mask : ℕ) (f : Numbers ℕ) (k : ℕ) (s : Slot) (t : Bool) → IsKept n names mask f →
    map.get n.values k ≡ Some s → (nat_le f.limit (map.len f.values) || t) ≡ false → s.fhs < 65536
counts_few n names mask f k s t kept there clear =
    let count : s.fhs ≡ open_count f.values k = sym (ap open_in there) ∙ kept.counts k in
    let most = count_by-le-length (λ (file : ℕ × ℕ). file.1 == k) (map.entries f.values) in
    let lengths = map.len-entries f.values in
    let few = kept.few in
    let room = below_limit f.limit (map.len f.values) t clear in
    omega arith

pub counts_open : (n : Numbers Slot) (names : Chains (ℕ × ℕ)) (mask : ℕ) (f : Numbers ℕ) (k : ℕ) → IsKept n names mask f →
    has_open_file (seen n f) k ≡ not (open_in (map.get n.values k) == 0)
counts_open n names mask f k kept =
    any_counted (λ (file : ℕ × ℕ). file.1 == k) (map.entries f.values) ∙ ap (λ m. not (m == 0)) (sym (kept.counts k))

-- ---- names

named_so : (node : Node) (name : List ℕ) → is_named node name ≡ true → link_name node ≡ Some name
named_so node name is = go node.linked node.name is
  where
    go : (linked : Bool) (own : List ℕ) → (linked && bytes_eq own name) ≡ true → cond linked (Some own) None ≡ Some name
    go true own is = ap Some ((bytes_eq-Decides own name).0 is)
    go false own is = absurd (cc is)

so_named : (node : Node) (name : List ℕ) → link_name node ≡ Some name → is_named node name ≡ true
so_named node name is = go node.linked node.name is
  where
    go : (linked : Bool) (own : List ℕ) → cond linked (Some own) None ≡ Some name → (linked && bytes_eq own name) ≡ true
    go true own is = let same : own ≡ name = cc is in (bytes_eq-Decides own name).1 same
    go false own is = absurd (none-some name is)

-- a node that is linked, with its name
pub linked_so : (node : Node) (name : List ℕ) → link_name node ≡ Some name → (node.linked ≡ true) × (node.name ≡ name)
linked_so node name is = go node.linked is
  where
    go : (linked : Bool) → cond linked (Some node.name) None ≡ Some name → (linked ≡ true) × (node.name ≡ name)
    go true is = (refl, cc is)
    go false is = absurd (none-some name is)

pub so_linked : (node : Node) (name : List ℕ) → node.linked ≡ true → node.name ≡ name → link_name node ≡ Some name
so_linked node name linked named = λ i. cond (linked i) (Some (named i)) None

-- a node that has the name in the listing has it where it is kept
pub has_so : (o : Option Slot) (name : List ℕ) → has_name (option_map (λ s. s.node) o) name ≡ true → name_in o ≡ Some name
has_so None name is = absurd (cc is)
has_so (Some s) name is = named_so s.node name is

so_has : (o : Option Slot) (name : List ℕ) → name_in o ≡ Some name → has_name (option_map (λ s. s.node) o) name ≡ true
so_has None name is = absurd (none-some name is)
so_has (Some s) name is = so_named s.node name is

turned : (a b : ℕ) → (a == b) ≡ (b == a)
turned a b = grind (arith, nat_tests)

apart : (a b : ℕ) → a ≢ b → (b == a) ≡ false
apart a b other = grind (arith, nat_tests)

renamed : (m m1 : map.FinMap nat_cmp Slot) (names names1 : Chains (ℕ × ℕ)) (mask home k : ℕ) (o : Option (List ℕ)) (w : Option ℕ)
    → AreNamed m names mask → IsAltered names names1 home k w
    → ((q : ℕ) → name_in (map.get m1 q) ≡ cond (eq_by_cmp nat_cmp q k) o (name_in (map.get m q)))
    → ((c : ℕ) → hash_on mask c o ≡ cond (c == home) w None) → ((c : ℕ) → c ≢ home → at names c k ≡ None) → AreNamed m1 names1 mask
renamed m m1 names names1 mask home k o w named new now on alone = record {
  chains = named.chains ∙ sym new.size.chains;
  sorted = new.sorted;
  linked = λ c q. go c q (c == home) refl (eq_by_cmp nat_cmp q k) refl ∙ ap (hash_on mask c) (sym (now q));
}
  where
    go : (c q : ℕ) (h : Bool) → (c == home) ≡ h → (b : Bool) → eq_by_cmp nat_cmp q k ≡ b
        → at names1 c q ≡ hash_on mask c (cond (eq_by_cmp nat_cmp q k) o (name_in (map.get m q)))
    go c q true here true same =
        ap (λ d. at names1 d q) (eqb-true c home here) ∙ new.here q ∙ ap (λ b. cond b w (at names home q)) same
        ∙ sym (on c ∙ ap (λ b. cond b w None) here) ∙ sym (ap (λ b. hash_on mask c (cond b o (name_in (map.get m q)))) same)
    go c q true here false other =
        ap (λ d. at names1 d q) (eqb-true c home here) ∙ new.here q ∙ ap (λ b. cond b w (at names home q)) other
        ∙ ap (λ d. at names d q) (sym (eqb-true c home here)) ∙ named.linked c q ∙ sym (ap (λ b. hash_on mask c (cond b o (name_in (map.get m q)))) other)
    go c q false away true same =
        unaltered names names1 home k w new c q (λ e. grind (arith, nat_tests)) ∙ ap (at names c) (same_key q k same) ∙ alone c (λ e. grind (arith, nat_tests))
        ∙ sym (on c ∙ ap (λ b. cond b w None) away) ∙ sym (ap (λ b. hash_on mask c (cond b o (name_in (map.get m q)))) same)
    go c q false away false other =
        unaltered names names1 home k w new c q (λ e. grind (arith, nat_tests)) ∙ named.linked c q
        ∙ sym (ap (λ b. hash_on mask c (cond b o (name_in (map.get m q)))) other)

-- no name is linked twice after a change at one number
once_renamed : (m m1 : map.FinMap nat_cmp Slot) (k : ℕ) (o : Option (List ℕ))
    → ((q : ℕ) → name_in (map.get m1 q) ≡ cond (eq_by_cmp nat_cmp q k) o (name_in (map.get m q)))
    → ((i j : ℕ) (name : List ℕ) → name_in (map.get m i) ≡ Some name → name_in (map.get m j) ≡ Some name → i ≡ j)
    → ((name : List ℕ) → o ≡ Some name → (q : ℕ) → name_in (map.get m q) ≡ Some name → ⊥)
    → (i j : ℕ) (name : List ℕ) → name_in (map.get m1 i) ≡ Some name → name_in (map.get m1 j) ≡ Some name → i ≡ j
once_renamed m m1 k o now once free i j name p r = go (eq_by_cmp nat_cmp i k) refl (eq_by_cmp nat_cmp j k) refl
  where
    left : (b : Bool) → eq_by_cmp nat_cmp i k ≡ b → cond b o (name_in (map.get m i)) ≡ Some name
    left b is = sym (now i ∙ ap (λ b. cond b o (name_in (map.get m i))) is) ∙ p

    right : (b : Bool) → eq_by_cmp nat_cmp j k ≡ b → cond b o (name_in (map.get m j)) ≡ Some name
    right b is = sym (now j ∙ ap (λ b. cond b o (name_in (map.get m j))) is) ∙ r

    go : (a : Bool) → eq_by_cmp nat_cmp i k ≡ a → (b : Bool) → eq_by_cmp nat_cmp j k ≡ b → i ≡ j
    go true x true y = same_key i k x ∙ sym (same_key j k y)
    go true x false y = absurd (free name (left true x) j (right false y))
    go false x true y = absurd (free name (right true y) i (left false x))
    go false x false y = once i j name (left false x) (right false y)

-- a name that no node has in the listing is none where it is kept
pub is_free : (m : map.FinMap nat_cmp Slot) (name : List ℕ) → find (λ (e : ℕ × Node). is_named e.1 name) (map.entries (bare m)) ≡ None
    → (q : ℕ) → name_in (map.get m q) ≡ Some name → ⊥
is_free m name none q is = go (map.get m q) refl is
  where
    go : (o : Option Slot) → map.get m q ≡ o → name_in o ≡ Some name → ⊥
    go None at_q has = absurd (none-some name has)
    go (Some s) at_q has =
        let clash : true ≡ false = sym (so_named s.node name has)
        ∙ none_found (λ (e : ℕ × Node). is_named e.1 name) (bare m) q s.node none (get_bare m q ∙ ap (option_map (λ (s : Slot). s.node)) at_q) in
        absurd (cc clash)

-- one more node, with a name that is free
pub linked_more : (n : Numbers Slot) (names names1 : Chains (ℕ × ℕ)) (mask : ℕ) (f : Numbers ℕ) (k next : ℕ) (t : Slot) (name : List ℕ) → IsKept n names mask f
    → 1 < k → 1 < next → map.get n.values k ≡ None → link_name t.node ≡ Some name → t.fhs ≡ 0 → ((q : ℕ) → name_in (map.get n.values q) ≡ Some name → ⊥)
    → IsAltered names names1 (bit_and (hash_of name) mask) k (Some (hash_of name))
    → IsKept (record n { values = map.insert n.values k t; next = next }) names1 mask f
linked_more n names names1 mask f k next t name kept high up fresh has shut free new = record {
  named =
      renamed n.values (map.insert n.values k t) names names1 mask (bit_and (hash_of name) mask) k (Some name) (Some (hash_of name)) kept.named new
      now (λ c. ap (λ b. cond b (Some (hash_of name)) None) (turned (bit_and (hash_of name) mask) c))
      (λ c other. kept.named.linked c k ∙ ap (λ o. hash_on mask c (name_in o)) fresh);
  room = new.size.slots ∙ kept.room;
  once =
      once_renamed n.values (map.insert n.values k t) k (Some name) now kept.once
      (λ other same q is. free q (is ∙ sym same));
  counts = λ q. put_in open_in n.values k t q 0 shut ∙ go q (eq_by_cmp nat_cmp q k) refl ∙ kept.counts q;
  few = kept.few;
  nodes_above = above_put 1 n kept.nodes_above k t next high up;
  files_above = kept.files_above;
}
  where
    now : (q : ℕ) → name_in (map.get (map.insert n.values k t) q) ≡ cond (eq_by_cmp nat_cmp q k) (Some name) (name_in (map.get n.values q))
    now q = put_in name_in n.values k t q (Some name) has

    go : (q : ℕ) (b : Bool) → eq_by_cmp nat_cmp q k ≡ b → cond b 0 (open_in (map.get n.values q)) ≡ open_in (map.get n.values q)
    go q true same = sym (ap open_in (ap (map.get n.values) (same_key q k same) ∙ fresh))
    go q false other = refl

-- a node loses its name
pub linked_less : (n : Numbers Slot) (names names1 : Chains (ℕ × ℕ)) (mask : ℕ) (f : Numbers ℕ) (k : ℕ) (s t : Slot) (name : List ℕ) → IsKept n names mask f
    → map.get n.values k ≡ Some s → link_name s.node ≡ Some name → link_name t.node ≡ None → t.fhs ≡ s.fhs
    → IsAltered names names1 (bit_and (hash_of name) mask) k None → IsKept (record n { values = map.insert n.values k t }) names1 mask f
linked_less n names names1 mask f k s t name kept there has nameless shut new = record {
  named =
      renamed n.values (map.insert n.values k t) names names1 mask (bit_and (hash_of name) mask) k None None kept.named new now
      (λ c. nothing (c == bit_and (hash_of name) mask))
      (λ c other. on c ∙ ap (λ b. cond b (Some (hash_of name)) None) (apart c (bit_and (hash_of name) mask) other));
  room = new.size.slots ∙ kept.room;
  once = once_renamed n.values (map.insert n.values k t) k None now kept.once (λ other same q is. absurd (none-some other same));
  counts = λ q. put_in open_in n.values k t q t.fhs refl ∙ put_same open_in n.values k s q t.fhs there (sym shut) ∙ kept.counts q;
  few = kept.few;
  nodes_above = above_changed 1 n kept.nodes_above k s t there;
  files_above = kept.files_above;
}
  where
    now : (q : ℕ) → name_in (map.get (map.insert n.values k t) q) ≡ cond (eq_by_cmp nat_cmp q k) None (name_in (map.get n.values q))
    now q = put_in name_in n.values k t q None nameless

    nothing : (b : Bool) → ◌≡◌ {A = Option ℕ} None (cond b None None)
    nothing true = refl
    nothing false = refl

    on : (c : ℕ) → at names c k ≡ hash_on mask c (Some name)
    on c = kept.named.linked c k ∙ ap (hash_on mask c) (ap name_in there ∙ has)

itself : (a : ℕ) → (a == a) ≡ true
itself a = grind (arith, nat_tests)

-- a linked node stands on the chain of its name's hash
pub stands_there : (n : Numbers Slot) (names : Chains (ℕ × ℕ)) (mask : ℕ) (f : Numbers ℕ) (k : ℕ) (name : List ℕ) → IsKept n names mask f
    → name_in (map.get n.values k) ≡ Some name → at names (bit_and (hash_of name) mask) k ≡ Some (hash_of name)
stands_there n names mask f k name kept has =
    kept.named.linked (bit_and (hash_of name) mask) k ∙ ap (hash_on mask (bit_and (hash_of name) mask)) has
    ∙ ap (λ b. cond b (Some (hash_of name)) None) (itself (bit_and (hash_of name) mask))

-- ---- room for names

same_home : (mask c d : ℕ) (o : Option (List ℕ)) (x y : ℕ) → hash_on mask c o ≡ Some x → hash_on mask d o ≡ Some y → c ≡ d
same_home mask c d None x y p r = absurd (none-some x p)
same_home mask c d (Some name) x y p r = sym (home c x p) ∙ home d y r
  where
    home : (c x : ℕ) → hash_on mask c (Some name) ≡ Some x → bit_and (hash_of name) mask ≡ c
    home c x is = go (bit_and (hash_of name) mask == c) refl is
      where
        go : (b : Bool) → (bit_and (hash_of name) mask == c) ≡ b → cond b (Some (hash_of name)) None ≡ Some x → bit_and (hash_of name) mask ≡ c
        go true same h = eqb-true _ c same
        go false other h = absurd (none-some x h)

there_of : (mask c : ℕ) (o : Option Slot) (x : ℕ) → hash_on mask c (name_in o) ≡ Some x → (s : Slot) × (o ≡ Some s)
there_of mask c None x is = absurd (none-some x is)
there_of mask c (Some s) x is = (s, refl)

-- there are no more names than nodes
pub few_names : (n : Numbers Slot) (names : Chains (ℕ × ℕ)) (mask : ℕ) (f : Numbers ℕ) → IsKept n names mask f → item_count names ≤ map.len n.values
few_names n names mask f kept =
    let all = counted names kept.named.sorted
    (λ c d q x y p r. same_home mask c d (name_in (map.get n.values q)) x y (sym (kept.named.linked c q) ∙ p) (sym (kept.named.linked d q) ∙ r)) in
    let most = len_within (map.entries (values_on names)) n.values (truth _ (map.entries_sorted (values_on names)))
    (λ q x is. let d = some_on names.chains q x (sym (map.get-from_entries nat_cmp_total _ q) ∙ map.get-entries (values_on names) q ∙ is) in
    there_of mask d.0 (map.get n.values q) x (sym (kept.named.linked d.0 q) ∙ d.1)) in
    let lengths = map.len-entries (values_on names) in
    omega arith

-- ---- what a search by name finds

-- the test of a search on a chain
abbrev pub passes : Numbers Slot → List ℕ → (ℕ × ℕ) → Bool
passes n name e = (e.1 == hash_of name) && has_name (map.get (bare n.values) e.0) name

both : (a b : Bool) → (a && b) ≡ true → b ≡ true
both true b is = is
both false b is = absurd (cc is)

pub found_named : (n : Numbers Slot) (name : List ℕ) (es : List (ℕ × ℕ)) (e : ℕ × ℕ) → find (passes n name) es ≡ Some e → name_in (map.get n.values e.0) ≡ Some name
found_named n name es e is =
    has_so (map.get n.values e.0) name
    (sym (ap (λ o. has_name o name) (get_bare n.values e.0)) ∙ both (e.1 == hash_of name) _ (found_passes (passes n name) es e is))

pub not_linked : (n : Numbers Slot) (names : Chains (ℕ × ℕ)) (mask : ℕ) (f : Numbers ℕ) (name : List ℕ) → IsKept n names mask f
    → find (passes n name) (items names (bit_and (hash_of name) mask)) ≡ None
    → find (λ (e : ℕ × Node). is_named e.1 name) (map.entries (bare n.values)) ≡ None
not_linked n names mask f name kept none =
    find_nothing (λ (e : ℕ × Node). is_named e.1 name) (bare n.values) (λ q x is. fails q x is (is_named x name) refl)
  where
    fails : (q : ℕ) (x : Node) → map.get (bare n.values) q ≡ Some x → (b : Bool) → is_named x name ≡ b → is_named x name ≡ false
    fails q x is false named = named
    fails q x is true named =
        let has : has_name (map.get (bare n.values) q) name ≡ true = ap (λ o. has_name o name) is ∙ named in
        let own : name_in (map.get n.values q) ≡ Some name = has_so (map.get n.values q) name (sym (ap (λ o. has_name o name) (get_bare n.values q)) ∙ has) in
        let missed : passes n name (q, hash_of name) ≡ false = find_none (passes n name) (items names (bit_and (hash_of name) mask)) q (hash_of name) none
        (stands_there n names mask f q name kept own) in
        let hit : passes n name (q, hash_of name) ≡ true = ap (λ b. (hash_of name == hash_of name) && b) has ∙ ap (λ b. b && true) (itself (hash_of name)) in
        let clash : true ≡ false = sym hit ∙ missed in absurd (cc clash)

pub is_linked : (n : Numbers Slot) (names : Chains (ℕ × ℕ)) (mask : ℕ) (f : Numbers ℕ) (name : List ℕ) (k : ℕ) (s : Slot) → IsKept n names mask f
    → map.get n.values k ≡ Some s → link_name s.node ≡ Some name
    → find (λ (e : ℕ × Node). is_named e.1 name) (map.entries (bare n.values)) ≡ Some (k, s.node)
is_linked n names mask f name k s kept there has =
    find_one (λ (e : ℕ × Node). is_named e.1 name) (bare n.values) k s.node
    (get_bare n.values k ∙ ap (option_map (λ (s : Slot). s.node)) there) (so_named s.node name has)
    (λ q x is named. kept.once q k name
    (has_so (map.get n.values q) name (sym (ap (λ o. has_name o name) (get_bare n.values q)) ∙ ap (λ o. has_name o name) is ∙ named))
    (ap name_in there ∙ has))

-- ---- what contracts know of a node, as it is kept

pub node_kept : (m : map.FinMap nat_cmp Slot) (k : ℕ) → IsSome (map.get (bare m) k) → (s : Slot) × (map.get m k ≡ Some s)
node_kept m k some = go (map.get m k) refl
  where
    go : (o : Option Slot) → map.get m k ≡ o → (s : Slot) × (map.get m k ≡ Some s)
    go None is =
        let clash : IsSome (option_map (λ (s : Slot). s.node) None) = subst IsSome (get_bare m k ∙ ap (option_map (λ (s : Slot). s.node)) is) some in absurd (cc clash)
    go (Some s) is = (s, is)

pub some_kept : (m : map.FinMap nat_cmp Slot) (k : ℕ) → IsSome (map.get (bare m) k) → IsSome (map.get m k)
some_kept m k some = ap is_some (node_kept m k some).1

-- what holds of a node in the listing holds of it where it is kept
pub so_kept : (m : map.FinMap nat_cmp Slot) (k : ℕ) (s : Slot) (P : Node → Type 0) → map.get m k ≡ Some s → IfSome (map.get (bare m) k) P → P s.node
so_kept m k s P there holds = subst (λ o. IfSome o P) (get_bare m k ∙ ap (option_map (λ (s : Slot). s.node)) there) holds

pub slot_linked : (m : map.FinMap nat_cmp Slot) (k : ℕ) (s : Slot) (name : List ℕ) → map.get m k ≡ Some s
    → IfSome (map.get (bare m) k) (λ node. node.name ≡ name) → IfSome (map.get (bare m) k) (λ node. node.linked ≡ true) → link_name s.node ≡ Some name
slot_linked m k s name there named linked =
    so_linked s.node name (so_kept m k s (λ node. node.linked ≡ true) there linked) (so_kept m k s (λ node. node.name ≡ name) there named)

-- a node that isn't linked and isn't open
pub dead_is : (n : Numbers Slot) (names : Chains (ℕ × ℕ)) (mask : ℕ) (f : Numbers ℕ) (k : ℕ) (s : Slot) → IsKept n names mask f → map.get n.values k ≡ Some s
    → s.node.linked ≡ false → has_open_file (seen n f) k ≡ false → (link_name s.node ≡ None) × (s.fhs ≡ 0)
dead_is n names mask f k s kept there unlinked closed = (nameless s.node.linked unlinked, shut closed)
  where
    nameless : (linked : Bool) → linked ≡ false → cond linked (Some s.node.name) None ≡ None
    nameless false is = refl
    nameless true is = absurd (cc is)

    shut : has_open_file (seen n f) k ≡ false → s.fhs ≡ 0
    shut is = zero_of s.fhs (sym (ap (λ o. not (open_in o == 0)) there) ∙ sym (counts_open n names mask f k kept) ∙ is)
      where
        zero_of : (a : ℕ) → not (a == 0) ≡ false → a ≡ 0
        zero_of a h = grind (arith, nat_tests)

-- the search for a name on its chain, as the code makes it
pub searched : (n : Numbers Slot) (f : Numbers ℕ) (names : Chains (ℕ × ℕ)) (mask : ℕ) (name : List ℕ) (d : Listing) (hash from chain : ℕ) (r : Option (ℕ × ℕ))
    → seen n f ≡ d → hash ≡ hash_of name → from ≡ hash → chain ≡ bit_and from mask
    → r ≡ find (λ e. (e.1 == hash) && has_name (map.get d.nodes e.0) name) (items names chain)
    → r ≡ find (passes n name) (items names (bit_and (hash_of name) mask))
searched n f names mask name d hash from chain r view is same place found =
    found
    ∙ ap (λ (x : Listing). find (λ (e : ℕ × ℕ). (e.1 == hash) && has_name (map.get x.nodes e.0) name) (items names chain)) (sym view)
    ∙ ap (λ (x : ℕ). find (λ (e : ℕ × ℕ). (e.1 == x) && has_name (map.get (bare n.values) e.0) name) (items names chain)) is
    ∙ ap (λ (x : ℕ). find (passes n name) (items names x)) (place ∙ ap (λ x. bit_and x mask) (same ∙ is))

-- a directory with nothing in it
pub new_kept : (n : Numbers Slot) (f : Numbers ℕ) (names : Chains (ℕ × ℕ)) (mask size slots : ℕ) → n.values ≡ map.empty → f.values ≡ map.empty
    → names ≡ record { chains = replicate size []; slots = slots } → mask + 1 ≡ size → slots ≡ n.limit → f.limit ≤ 65536
    → 1 < n.next → 0 < f.next → IsKept n names mask f
new_kept n f names mask size slots nodes files is sized room few next_node next_fh = record {
  named = record {
    chains = sized ∙ sym (chains_made names size slots is);
    sorted = none_sorted names size slots is;
    linked = λ c q. none_at names size slots is c q ∙ sym (ap (λ o. hash_on mask c (name_in o)) (none q));
  };
  room = ap (λ (a : Chains (ℕ × ℕ)). a.slots) is ∙ room;
  once = λ k l name p r. absurd (none-some name (sym (ap name_in (none k)) ∙ p));
  counts = λ q. ap open_in (none q) ∙ sym (ap (λ (m : map.FinMap nat_cmp ℕ). open_count m q) files ∙ ap (count_by (λ (file : ℕ × ℕ). file.1 == q)) no_entries);
  few = few;
  nodes_above = above_none 1 n nodes next_node;
  files_above = above_none 0 f files next_fh;
}
  where
    none : (q : ℕ) → map.get n.values q ≡ None
    none q = ap (λ m. map.get m q) nodes ∙ map.get-empty nat_cmp q

    no_entries : map.entries (map.empty {X = ℕ} {R = nat_cmp}) ≡ []
    no_entries = go (map.entries map.empty) (sym (map.len-entries map.empty) ∙ map.len-empty nat_cmp ℕ)
      where
        go : (es : List (ℕ × ℕ)) → length es ≡ 0 → es ≡ []
        go [] e = refl
        go (x ∷ es) e = absurd (omega (arith, e))

pub is_put : {X : Type 0} (m : map.FinMap nat_cmp X) (k : ℕ) (x : X) → IsSome (map.get (map.insert m k x) k)
is_put m k x = ap is_some (map.get-insert nat_cmp_total m k x k ∙ ap (λ b. cond b (Some x) (map.get m k)) (own_key k))

-- a node that changes is still there
pub still_there : (m : map.FinMap nat_cmp Node) (k : ℕ) (change : Node → Node) → IsSome (map.get m k) → IsSome (map.get (changed_at m k change) k)
still_there m k change some = go (map.get m k) some
  where
    go : (o : Option Node) → IsSome o → IsSome (map.get (set_at m k (option_map change o)) k)
    go None h = absurd (cc h)
    go (Some node) h = is_put m k (change node)

pub named_there : (m : map.FinMap nat_cmp Slot) (k : ℕ) (name : List ℕ) → name_in (map.get m k) ≡ Some name → IsSome (map.get m k)
named_there m k name is = go (map.get m k) is
  where
    go : (o : Option Slot) → name_in o ≡ Some name → IsSome o
    go None h = absurd (none-some name h)
    go (Some s) h = refl

-- a node that counts an fh is there
pub open_there : (m : map.FinMap nat_cmp Slot) (k : ℕ) → 1 ≤ open_in (map.get m k) → IsSome (map.get m k)
open_there m k h = go (map.get m k) h
  where
    go : (o : Option Slot) → 1 ≤ open_in o → IsSome o
    go None h = absurd (omega (arith, h))
    go (Some s) h = refl
