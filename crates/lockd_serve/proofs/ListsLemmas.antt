-- What several READDIRs tell of a directory.
use Rattle.std.proofs.Common.{◌≡◌, ℕ, ◌+◌, ◌-◌, ◌<◌, ◌≤◌, nat_le, nat_lt, Bool, true, false, cond, ◌&&◌, ◌==◌, T}
use Rattle.std.proofs.Common.{Option, Some, None, List, [], ◌∷◌, ◌++◌, length, refl, ap, sym, subst, ◌∙◌, arith}
use Rattle.std.proofs.Common.{length-append, ⊎_elim, inl, inr, zero, suc}
use Rattle.std.specs.Prelude.{All, Contains, flat_map, map, replicate, slice_index_or, if◌then◌else◌, ◌⊎◌}
use Rattle.std.specs.List.{AllByRecursion, filter}
use Rattle.std.specs.Ordering.{nat_cmp, eq_by_cmp, is_lt}
use Rattle.std.specs.Cmp.{first_so, second_so}
use Rattle.std.specs.FinMap.{entries, entries_sorted, find, get, get-entries, is_sorted}
use Rattle.std.specs.FinMap.Entries.{below_all}
use Rattle.std.proofs.lemmas.Bool.{and_from, le-ltb}
use Rattle.std.proofs.lemmas.Bool.Decides.{nat_tests}
use Rattle.std.proofs.lemmas.List.{length-replicate}
use Rattle.std.proofs.lemmas.List.Elements.{All-contains, All-cons, All-from_recursion, All-nil, All-weaker}
use Rattle.std.proofs.lemmas.List.Elements.{Contains-append_cases, Contains-append_left, Contains-append_right}
use Rattle.std.proofs.lemmas.List.Elements.{recursion_from_All}
use Rattle.std.proofs.lemmas.Option.{none-some}
use Rattle.fl_dir.specs.Directory.{Listing}
use Rattle.fl_dir.specs.Naming.{is_linked, is_linked_at}
use Rattle.fl_dir.specs.declared.node.Node.{Node}
use Rattle.lockd_serve.specs.Lists.{AreCalls, AreRising, Call, HasShortNames, IsAnswered, IsLinkedThroughout, IsOfFile}
use Rattle.lockd_serve.specs.Lists.{ListAll, last_cookie, nodes_told_by, root_entries, told_by}
use Rattle.fl_session.specs.Whole.{entries_behind, file_entry, root_entry}
use Rattle.fl_wire.specs.Listing.{Dirent, dirent_bytes, fitting, lacking}

-- the only one; fl_session has the same, and another crate's lemma can't be used
head_is : {X : Type 0} (y x : X) → Contains (y ∷ []) x → x ≡ y
head_is y x (zero, lt, e) = sym e
head_is y x (suc k, lt, e) = absurd (omega (arith, lt))

-- ---- elements of lists

module _ {X : Type 0} where
  nothing : (x : X) → Contains [] x → ⊥
  nothing x h = let lt = h.1 in omega (arith, lt)

  at_head : (x : X) (xs : List X) → Contains (x ∷ xs) x
  at_head x xs = (0, omega arith, refl)

  behind_head : (y : X) (xs : List X) (x : X) → Contains xs x → Contains (y ∷ xs) x
  behind_head y xs x h = Contains-append_right (y ∷ []) xs x h

  head_or_behind : (y : X) (xs : List X) (x : X) → Contains (y ∷ xs) x → (x ≡ y) ⊎ Contains xs x
  head_or_behind y xs x h =
      ⊎_elim (λ head. inl (head_is y x head)) (λ tail. inr tail) (Contains-append_cases (y ∷ []) xs x h)

contains_mapped : {X Y : Type 0} (f : X → Y) (xs : List X) (x : X) → Contains xs x → Contains (map f xs) (f x)
contains_mapped f [] x h = absurd (nothing x h)
contains_mapped f (y ∷ xs) x h =
    ⊎_elim (λ same. subst (λ z. Contains (f y ∷ map f xs) (f z)) (sym same) (at_head (f y) (map f xs)))
    (λ tail. behind_head (f y) (map f xs) (f x) (contains_mapped f xs x tail)) (head_or_behind y xs x h)

-- ---- files in the order of their numbers

held : (b : Bool) → T b → b ≡ true
held true t = refl
held false t = absurd t

below : (a b : ℕ) → is_lt (nat_cmp a b) ≡ true → a < b
below a b is = grind (arith, nat_tests)

at_most : (a b : ℕ) → nat_le a b ≡ true → a ≤ b
at_most a b is = grind (arith, nat_tests)

reached : (a b : ℕ) → a ≤ b → nat_le a b ≡ true
reached a b h = grind (arith, nat_tests)

same_number : (a b : ℕ) → eq_by_cmp nat_cmp a b ≡ true → b ≡ a
same_number a b is = grind (arith, nat_tests)

own_number : (a : ℕ) → eq_by_cmp nat_cmp a a ≡ true
own_number a = grind (arith, nat_tests)

other_number : (a b : ℕ) → b < a → eq_by_cmp nat_cmp a b ≡ false
other_number a b h = grind (arith, nat_tests)

abbrev is_listed : ℕ → ℕ × Node → Bool
is_listed from e = nat_le from e.0 && e.1.linked

abbrev kept : ℕ → List (ℕ × Node) → List (ℕ × Node)
kept from es = filter (is_listed from) es

abbrev files : ℕ → List (ℕ × Node) → List Dirent
files from es = map file_entry (kept from es)

head_below : (e : ℕ × Node) (es : List (ℕ × Node)) → is_sorted nat_cmp (e ∷ es) ≡ true → below_all nat_cmp e.0 es ≡ true
head_below e es sorted = first_so (below_all nat_cmp e.0 es) (is_sorted nat_cmp es) sorted

rest_sorted : (e : ℕ × Node) (es : List (ℕ × Node)) → is_sorted nat_cmp (e ∷ es) ≡ true → is_sorted nat_cmp es ≡ true
rest_sorted e es sorted = second_so (below_all nat_cmp e.0 es) (is_sorted nat_cmp es) sorted

-- those that are listed have at least this number
abbrev AreFrom : ℕ → ℕ → List (ℕ × Node) → Type 0
AreFrom from least es = AllByRecursion (λ (e : ℕ × Node). is_listed from e ≡ true → least ≤ e.0) es

from_itself : (from : ℕ) (es : List (ℕ × Node)) → AreFrom from from es
from_itself from [] = tt
from_itself from (e ∷ es) = (λ is. at_most from e.0 (first_so (nat_le from e.0) e.1.linked is), from_itself from es)

from_below : (from n : ℕ) (es : List (ℕ × Node)) → below_all nat_cmp n es ≡ true → AreFrom from (n + 1) es
from_below from n [] above = tt
from_below from n (e ∷ es) above =
    let less : n < e.0 = below n e.0 (first_so (is_lt (nat_cmp n e.0)) (below_all nat_cmp n es) above) in
    (λ is. omega (arith, less), from_below from n es (second_so (is_lt (nat_cmp n e.0)) (below_all nat_cmp n es) above))

files_rise : (from least : ℕ) (es : List (ℕ × Node)) → is_sorted nat_cmp es ≡ true → AreFrom from least es
    → AreRising least (files from es)
files_rise from least [] sorted are = tt
files_rise from least (e ∷ es) sorted are =
    let rest = rest_sorted e es sorted in
    let above = from_below from e.0 es (head_below e es sorted) in
    go (is_listed from e) refl (files_rise from (e.0 + 1) es rest above) (files_rise from least es rest are.1)
  where
    go : (b : Bool) → is_listed from e ≡ b → AreRising (e.0 + 1) (files from es) → AreRising least (files from es)
        → AreRising least (map file_entry (cond b (e ∷ kept from es) (kept from es)))
    go true is above all = let low : least ≤ e.0 = are.0 is in (omega (arith, low), above)
    go false is above all = all

one_before : (b : Bool) (e : ℕ × Node) (es : List (ℕ × Node)) (x : Dirent) → Contains (map file_entry es) x
    → Contains (map file_entry (cond b (e ∷ es) es)) x
one_before true e es x h = behind_head (file_entry e) (map file_entry es) x h
one_before false e es x h = h

file_listed : (from number : ℕ) (node : Node) (es : List (ℕ × Node)) → find nat_cmp number es ≡ Some node
    → node.linked ≡ true → from ≤ number → Contains (files from es) (file_entry (number, node))
file_listed from number node [] at linked low = absurd (none-some node at)
file_listed from number node (e ∷ es) at linked low =
    go (eq_by_cmp nat_cmp number e.0) refl at (λ later. file_listed from number node es later linked low)
  where
    go : (b : Bool) → eq_by_cmp nat_cmp number e.0 ≡ b → cond b (Some e.1) (find nat_cmp number es) ≡ Some node
        → (find nat_cmp number es ≡ Some node → Contains (files from es) (file_entry (number, node)))
        → Contains (files from (e ∷ es)) (file_entry (number, node))
    go true same at rest =
        let key : e.0 ≡ number = same_number number e.0 same in
        let value : e.1 ≡ node = cc at in
        let whole : e ≡ (number, node) = λ t. (key t, value t) in
        let low_too : nat_le from e.0 ≡ true = reached from e.0 (omega (arith, key, low)) in
        let so : is_listed from e ≡ true =
        and_from (nat_le from e.0) e.1.linked low_too (ap (λ (n : Node). n.linked) value ∙ linked) in
        subst (λ b. Contains (map file_entry (cond b (e ∷ kept from es) (kept from es))) (file_entry (number, node)))
        (sym so)
        (subst (λ f. Contains (file_entry e ∷ files from es) (file_entry f)) whole
        (at_head (file_entry e) (files from es)))
    go false same at rest = one_before (is_listed from e) e (kept from es) (file_entry (number, node)) (rest at)

found_above : (n q : ℕ) (node : Node) (es : List (ℕ × Node)) → below_all nat_cmp n es ≡ true
    → find nat_cmp q es ≡ Some node → n < q
found_above n q node [] above at = absurd (none-some node at)
found_above n q node (e ∷ es) above at =
    go (eq_by_cmp nat_cmp q e.0) refl at
    (found_above n q node es (second_so (is_lt (nat_cmp n e.0)) (below_all nat_cmp n es) above))
  where
    go : (b : Bool) → eq_by_cmp nat_cmp q e.0 ≡ b → cond b (Some e.1) (find nat_cmp q es) ≡ Some node
        → (find nat_cmp q es ≡ Some node → n < q) → n < q
    go true same at later =
        subst (λ k. n < k) (same_number q e.0 same)
        (below n e.0 (first_so (is_lt (nat_cmp n e.0)) (below_all nat_cmp n es) above))
    go false same at later = later at

-- an entry is that of a linked file of these
record IsFileIn (es : List (ℕ × Node)) (x : Dirent) : Type 0 where
  number : ℕ
  node : Node
  there : find nat_cmp number es ≡ Some node
  linked : node.linked ≡ true
  is : x ≡ file_entry (number, node)

only_files : (from : ℕ) (es : List (ℕ × Node)) (x : Dirent) → is_sorted nat_cmp es ≡ true → Contains (files from es) x
    → IsFileIn es x
only_files from [] x sorted h = absurd (nothing x h)
only_files from (e ∷ es) x sorted h =
    go (is_listed from e) refl h (λ rest. later (only_files from es x (rest_sorted e es sorted) rest))
  where
    later : IsFileIn es x → IsFileIn (e ∷ es) x
    later f =
        let above : e.0 < f.number = found_above e.0 f.number f.node es (head_below e es sorted) f.there in
        record {
          number = f.number;
          node = f.node;
          there = ap (λ b. cond b (Some e.1) (find nat_cmp f.number es)) (other_number f.number e.0 above) ∙ f.there;
          linked = f.linked;
          is = f.is;
        }

    go : (b : Bool) → is_listed from e ≡ b
        → Contains (map file_entry (cond b (e ∷ kept from es) (kept from es))) x
        → (Contains (files from es) x → IsFileIn (e ∷ es) x) → IsFileIn (e ∷ es) x
    go true is h behind =
        ⊎_elim (λ same. record {
          number = e.0;
          node = e.1;
          there = ap (λ b. cond b (Some e.1) (find nat_cmp e.0 es)) (own_number e.0);
          linked = second_so (nat_le from e.0) e.1.linked is;
          is = same;
        }) behind (head_or_behind (file_entry e) (files from es) x h)
    go false is h behind = behind h

-- ---- what a READDIR lists

is_zero : (n : ℕ) → (n == 0) ≡ true → n ≡ 0
is_zero n is = grind (arith, nat_tests)

is_one : (n : ℕ) → (n == 1) ≡ true → n ≡ 1
is_one n is = grind (arith, nat_tests)

sorted_files : (d : Listing) → is_sorted nat_cmp (entries d.nodes) ≡ true
sorted_files d = held (is_sorted nat_cmp (entries d.nodes)) (entries_sorted d.nodes)

abbrev dot : Dirent
dot = root_entry 1 (46 ∷ [])

abbrev dots : Dirent
dots = root_entry 2 (46 ∷ 46 ∷ [])

abbrev files_from : Listing → ℕ → List Dirent
files_from d from = files from (entries d.nodes)

-- `entries_behind`, whose tests have these answers
abbrev behind : Bool → Bool → Listing → ℕ → List Dirent
behind first second d cookie =
    if first then dot ∷ dots ∷ files_from d 2 else if second then dots ∷ files_from d 2 else files_from d cookie

rising_behind : (d : Listing) (cookie : ℕ) → AreRising cookie (entries_behind d 1 cookie)
rising_behind d cookie = go (cookie == 0) refl (cookie == 1) refl
  where
    from : (n : ℕ) → AreRising n (files_from d n)
    from n = files_rise n n (entries d.nodes) (sorted_files d) (from_itself n (entries d.nodes))

    go : (a : Bool) → (cookie == 0) ≡ a → (b : Bool) → (cookie == 1) ≡ b → AreRising cookie (behind a b d cookie)
    go true is b other = let none : cookie ≡ 0 = is_zero cookie is in (omega (arith, none), (omega arith, from 2))
    go false is true other = let one : cookie ≡ 1 = is_one cookie other in (omega (arith, one), from 2)
    go false is false other = from cookie

file_behind : (d : Listing) (cookie number : ℕ) (node : Node) → get d.nodes number ≡ Some node → node.linked ≡ true
    → 1 < number → cookie ≤ number → Contains (entries_behind d 1 cookie) (file_entry (number, node))
file_behind d cookie number node at linked above low = go (cookie == 0) (cookie == 1)
  where
    from : (n : ℕ) → n ≤ number → Contains (files_from d n) (file_entry (number, node))
    from n low = file_listed n number node (entries d.nodes) (sym (get-entries d.nodes number) ∙ at) linked low

    go : (a b : Bool) → Contains (behind a b d cookie) (file_entry (number, node))
    go true b =
        Contains-append_right root_entries (files_from d 2) (file_entry (number, node)) (from 2 (omega (arith, above)))
    go false true = behind_head dots (files_from d 2) (file_entry (number, node)) (from 2 (omega (arith, above)))
    go false false = from cookie low

only_behind : (d : Listing) (cookie : ℕ) (x : Dirent) → Contains (entries_behind d 1 cookie) x
    → Contains root_entries x ⊎ IsFileIn (entries d.nodes) x
only_behind d cookie x h = go (cookie == 0) (cookie == 1) h
  where
    from : (n : ℕ) → Contains (files_from d n) x → IsFileIn (entries d.nodes) x
    from n h = only_files n (entries d.nodes) x (sorted_files d) h

    go : (a b : Bool) → Contains (behind a b d cookie) x → Contains root_entries x ⊎ IsFileIn (entries d.nodes) x
    go true b h =
        ⊎_elim (λ root. inl root) (λ file. inr (from 2 file))
        (Contains-append_cases root_entries (files_from d 2) x h)
    go false true h =
        ⊎_elim (λ same. inl (subst (Contains root_entries) (sym same) (1, omega arith, refl)))
        (λ file. inr (from 2 file)) (head_or_behind dots (files_from d 2) x h)
    go false false h = inr (from cookie h)

-- ---- rising cookies

rising_parts : (cookie : ℕ) (xs ys : List Dirent) → AreRising cookie (xs ++ ys)
    → AreRising cookie xs × AreRising (last_cookie cookie xs) ys
rising_parts cookie [] ys h = (tt, h)
rising_parts cookie (x ∷ xs) ys h = let parts = rising_parts x.cookie xs ys h.1 in ((h.0, parts.0), parts.1)

rising_whole : (cookie : ℕ) (xs ys : List Dirent) → AreRising cookie xs → AreRising (last_cookie cookie xs) ys
    → AreRising cookie (xs ++ ys)
rising_whole cookie [] ys first second = second
rising_whole cookie (x ∷ xs) ys first second = (first.0, rising_whole x.cookie xs ys first.1 second)

rising_above : (cookie : ℕ) (xs : List Dirent) (x : Dirent) → AreRising cookie xs → Contains xs x → cookie < x.cookie
rising_above cookie [] x rising h = absurd (nothing x h)
rising_above cookie (y ∷ xs) x rising h =
    let first : cookie < y.cookie = rising.0 in
    ⊎_elim (λ same. subst (λ (e : Dirent). cookie < e.cookie) (sym same) first)
    (λ rest. let later : y.cookie < x.cookie = rising_above y.cookie xs x rising.1 rest in omega (arith, first, later))
    (head_or_behind y xs x h)

call_rising : (c : Call) (cookie : ℕ) → c.cookie ≡ cookie
    → AreRising cookie c.told × AreRising (last_cookie cookie c.told) c.left
call_rising c cookie begins =
    rising_parts cookie c.told c.left
    (subst (λ n. AreRising n (c.told ++ c.left)) begins
    (subst (AreRising c.cookie) c.are (rising_behind c.directory c.cookie)))

pub rising_told : (cookie : ℕ) (calls : List Call) → AreCalls cookie calls → AreRising cookie (told_by calls)
rising_told cookie [] are = tt
rising_told cookie (c ∷ rest) are =
    rising_whole cookie c.told (told_by rest) (call_rising c cookie are.0).0
    (rising_told (last_cookie cookie c.told) rest are.1)

-- ---- what is there at each call is told

-- one of these entries has this cookie, and something is so of it
record IsAmong (Q : Dirent → Type 0) (cookie : ℕ) (xs : List Dirent) : Type 0 where
  entry : Dirent
  at : entry.cookie ≡ cookie
  among : Contains xs entry
  so : Q entry

-- the same of whatever a call lists behind a lower cookie
abbrev IsBehind : (Dirent → Type 0) → ℕ → Call → Type 0
IsBehind Q cookie c = (from : ℕ) → from < cookie → IsAmong Q cookie (entries_behind c.directory 1 from)

told_before_end : (Q : Dirent → Type 0) (cookie from : ℕ) (calls : List Call) (last : Call)
    → AreCalls from (calls ++ last ∷ []) → entries_behind last.directory 1 last.cookie ≡ [] → from < cookie
    → AllByRecursion (IsBehind Q cookie) (calls ++ last ∷ []) → IsAmong Q cookie (told_by calls)
told_before_end Q cookie from [] last are done less has =
    let e = has.0 last.cookie (subst (λ n. n < cookie) (sym are.0) less) in
    absurd (nothing e.entry (subst (λ l. Contains l e.entry) done e.among))
told_before_end Q cookie from (c ∷ rest) last are done less has =
    let e = has.0 c.cookie (subst (λ n. n < cookie) (sym are.0) less) in
    ⊎_elim
    (λ told. record {
      entry = e.entry;
      at = e.at;
      among = Contains-append_left c.told (told_by rest) e.entry told;
      so = e.so;
    })
    (λ left. let less_left = subst (λ n. last_cookie from c.told < n) e.at
    (rising_above (last_cookie from c.told) c.left e.entry (call_rising c from are.0).1 left) in
    let later = told_before_end Q cookie (last_cookie from c.told) rest last are.1 done less_left has.1 in
    record {
      entry = later.entry;
      at = later.at;
      among = Contains-append_right c.told (told_by rest) later.entry later.among;
      so = later.so;
    })
    (Contains-append_cases c.told c.left e.entry (subst (λ l. Contains l e.entry) c.are e.among))

linked_behind : (number : ℕ) (c : Call) → 1 < number → is_linked_at c.directory number ≡ true
    → IsBehind (λ e. e.node ≡ number) (number + 1) c
linked_behind number c above is = go (get c.directory.nodes number) refl is
  where
    go : (found : Option Node) → get c.directory.nodes number ≡ found → is_linked found ≡ true
        → IsBehind (λ e. e.node ≡ number) (number + 1) c
    go None at is = absurd (let clash : false ≡ true = is in cc clash)
    go (Some node) at is = λ from less. record {
      entry = file_entry (number, node);
      at = refl;
      among = file_behind c.directory from number node at is above (omega (arith, less));
      so = refl;
    }

pub all_told : (calls : List Call) (last : Call) (number : ℕ) → ListAll calls last → 1 < number
    → IsLinkedThroughout number (calls ++ last ∷ []) → Contains (nodes_told_by calls) number
all_told calls last number all above linked =
    let P : Call → Type 0 = λ c. is_linked_at c.directory number ≡ true in
    let Q : Dirent → Type 0 = λ e. e.node ≡ number in
    let R : Call → Type 0 = IsBehind Q (number + 1) in
    let every = calls ++ last ∷ [] in
    let has = recursion_from_All R every
    (All-weaker P R (λ c is. linked_behind number c above is) every (All-from_recursion P every linked)) in
    let e = told_before_end Q (number + 1) 0 calls last all.are all.end (omega arith) has in
    subst (Contains (nodes_told_by calls)) e.so
    (contains_mapped (λ (e : Dirent). e.node) (told_by calls) e.entry e.among)

root_behind : (x : Dirent) (cookie : ℕ) (c : Call) → x.cookie ≡ cookie
    → ((from : ℕ) → from < cookie → Contains (entries_behind c.directory 1 from) x) → IsBehind (λ e. e ≡ x) cookie c
root_behind x cookie c at has = λ from less. record { entry = x; at = at; among = has from less; so = refl }

one_root : (x : Dirent) (cookie : ℕ) (calls : List Call) (last : Call) → ListAll calls last → 0 < cookie
    → x.cookie ≡ cookie → ((d : Listing) (from : ℕ) → from < cookie → Contains (entries_behind d 1 from) x)
    → Contains (told_by calls) x
one_root x cookie calls last all above at has =
    let Q : Dirent → Type 0 = λ e. e ≡ x in
    let each = recursion_from_All (IsBehind Q cookie) (calls ++ last ∷ [])
    (λ k c lt. let d = slice_index_or (calls ++ last ∷ []) k c in root_behind x cookie d at (has d.directory)) in
    let e = told_before_end Q cookie 0 calls last all.are all.end above each in
    subst (Contains (told_by calls)) e.so e.among

dot_behind : (d : Listing) (from : ℕ) → from < 1 → Contains (entries_behind d 1 from) dot
dot_behind d from less =
    let none : 0 ≡ from = omega (arith, less) in
    subst (λ n. Contains (entries_behind d 1 n) dot) none (at_head dot (dots ∷ files_from d 2))

dots_behind : (d : Listing) (from : ℕ) → from < 2 → Contains (entries_behind d 1 from) dots
dots_behind d from less = go (from == 0) refl (from == 1) refl
  where
    go : (a : Bool) → (from == 0) ≡ a → (b : Bool) → (from == 1) ≡ b → Contains (behind a b d from) dots
    go true is b other = behind_head dot (dots ∷ files_from d 2) dots (at_head dots (files_from d 2))
    go false is true other = at_head dots (files_from d 2)
    go false is false other = absurd (far from is other less)
      where
        far : (n : ℕ) → (n == 0) ≡ false → (n == 1) ≡ false → n < 2 → ⊥
        far n no_dot no_dots less = grind (arith, nat_tests)

pub root_told : (calls : List Call) (last : Call) → ListAll calls last → All (Contains (told_by calls)) root_entries
root_told calls last all =
    let told = Contains (told_by calls) in
    All-cons told dot (dots ∷ []) (one_root dot 1 calls last all (omega arith) refl dot_behind)
    (All-cons told dots [] (one_root dots 2 calls last all (omega arith) refl dots_behind) (All-nil told))

-- ---- nothing else is told

pub only_told : (calls : List Call) (x : Dirent) → Contains (told_by calls) x
    → Contains root_entries x ⊎ IsOfFile calls x
only_told [] x h = absurd (nothing x h)
only_told (c ∷ rest) x h =
    ⊎_elim
    (λ told. ⊎_elim (λ root. inl root) (λ (f : IsFileIn (entries c.directory.nodes) x). inr (record {
      call = c;
      called = at_head c rest;
      told = told;
      number = f.number;
      node = f.node;
      there = get-entries c.directory.nodes f.number ∙ f.there;
      linked = f.linked;
      is = f.is;
    }))
    (only_behind c.directory c.cookie x
    (subst (λ l. Contains l x) (sym c.are) (Contains-append_left c.told c.left x told))))
    (λ later. ⊎_elim (λ root. inl root) (λ (f : IsOfFile rest x). inr (record {
      call = f.call;
      called = behind_head c rest f.call f.called;
      told = f.told;
      number = f.number;
      node = f.node;
      there = f.there;
      linked = f.linked;
      is = f.is;
    })) (only_told rest x later))
    (Contains-append_cases c.told (told_by rest) x h)

-- ---- a reply has the first entries

record IsCut (most : ℕ) (es : List Dirent) : Type 0 where
  told : List Dirent
  left : List Dirent
  are : es ≡ told ++ left
  body : fitting most es ≡ flat_map dirent_bytes told

cut : (most : ℕ) (es : List Dirent) → IsCut most es
cut most [] = record { told = []; left = []; are = refl; body = refl }
cut most (e ∷ rest) = go (nat_lt most (length (dirent_bytes e))) refl (cut (most - length (dirent_bytes e)) rest)
  where
    go : (b : Bool) → nat_lt most (length (dirent_bytes e)) ≡ b → IsCut (most - length (dirent_bytes e)) rest
        → IsCut most (e ∷ rest)
    go true is more = record {
      told = [];
      left = e ∷ rest;
      are = refl;
      body = ap (λ b. if b then [] else dirent_bytes e ++ fitting (most - length (dirent_bytes e)) rest) is;
    }
    go false is more = record {
      told = e ∷ more.told;
      left = more.left;
      are = ap (λ l. e ∷ l) more.are;
      body = ap (λ b. if b then [] else dirent_bytes e ++ fitting (most - length (dirent_bytes e)) rest) is
          ∙ ap (λ l. dirent_bytes e ++ l) more.body;
    }

pub answered : (d : Listing) (cookie most : ℕ) → IsAnswered d cookie (fitting most (entries_behind d 1 cookie))
answered d cookie most =
    let part = cut most (entries_behind d 1 cookie) in
    record {
      call = record { directory = d; cookie = cookie; told = part.told; left = part.left; are = part.are };
      there = refl;
      asked = refl;
      is = part.body;
    }

padded_short : (n : ℕ) → n ≤ 255 → n + lacking n ≤ 256
padded_short n short = omega (arith, short)

-- an entry with so short a name has at most so many bytes, and some
entry_short : (e : Dirent) → length e.name ≤ 255 → length (dirent_bytes e) ≤ 280
unfolding dirent_bytes
entry_short e short =
    let byte : ℕ = 0 in
    let zeros : List ℕ = replicate (lacking (length e.name)) byte in
    let long : length zeros ≡ lacking (length e.name) = length-replicate (lacking (length e.name)) byte in
    omega (arith, padded_short (length e.name) short, length-append e.name zeros, long)

entry_some : (e : Dirent) → 0 < length (dirent_bytes e)
unfolding dirent_bytes
entry_some e = omega arith

name_short : (d : Listing) (x : Dirent) → HasShortNames d → Contains root_entries x ⊎ IsFileIn (entries d.nodes) x
    → length x.name ≤ 255
name_short d x short is =
    ⊎_elim (λ root. All-contains (λ (e : Dirent). length e.name ≤ 255) root_entries x roots_short root)
    (λ (f : IsFileIn (entries d.nodes) x). subst (λ (e : Dirent). length e.name ≤ 255) (sym f.is)
    (short f.number f.node (get-entries d.nodes f.number ∙ f.there))) is
  where
    roots_short : All (λ (e : Dirent). length e.name ≤ 255) root_entries
    roots_short = All-from_recursion (λ (e : Dirent). length e.name ≤ 255) root_entries (omega arith, (omega arith, tt))

none_fits : (most : ℕ) (es : List Dirent) → ((x : Dirent) → Contains es x → length (dirent_bytes x) ≤ most)
    → fitting most es ≡ [] → es ≡ []
none_fits most [] short none = refl
none_fits most (e ∷ rest) short none =
    let bytes = dirent_bytes e in
    let fits : nat_lt most (length bytes) ≡ false = le-ltb most (length bytes) (short e (at_head e rest)) in
    let more = fitting (most - length bytes) rest in
    let long : length (bytes ++ more) ≡ 0 = ap length (sym (ap (λ b. if b then [] else bytes ++ more) fits) ∙ none) in
    absurd (omega (arith, long, length-append bytes more, entry_some e))

pub none_left : (d : Listing) (cookie most : ℕ) → HasShortNames d → 280 ≤ most
    → fitting most (entries_behind d 1 cookie) ≡ [] → entries_behind d 1 cookie ≡ []
none_left d cookie most short room none =
    none_fits most (entries_behind d 1 cookie)
    (λ x has. omega (arith, room, entry_short x (name_short d x short (only_behind d cookie x has)))) none
