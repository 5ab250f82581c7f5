-- A list, laid out entry by entry.
use Rattle.std.proofs.Common.{◌≡◌, ℕ, ◌+◌, ◌-◌, ◌≤◌, ◌<◌, ◌==◌, ◌&&◌, Bool, true, false, List, [], ◌∷◌, ◌++◌, length, map}
use Rattle.std.proofs.Common.{refl, sym, ap, ◌∙◌, arith, append_assoc, append-nil, length-append}
use Rattle.std.specs.FinMap.{entries}
use Rattle.std.specs.List.{filter}
use Rattle.std.specs.Prelude.{nat_le, nat_lt, if◌then◌else◌}
use Rattle.std.proofs.lemmas.Bool.{le-ltb, lt-ltb, ne_eqb}
use borrow.Author.Tests.{leb-true}
use Rattle.fl_dir.specs.Directory.{Listing}
use Rattle.fl_dir.specs.Naming.{linked_from}
use Rattle.fl_dir.specs.declared.node.Node.{Node}
use Rattle.fl_session.specs.Whole.{entries_behind, file_entry}
use Rattle.fl_wire.specs.Listing.{Dirent, dirent_bytes, fitting}
use Rattle.fl_wire.specs.Spell.{header_bytes}

-- what is left fits behind these bytes
abbrev pub with_left : ℕ → List ℕ → List Dirent → List ℕ
with_left most bytes entries = bytes ++ fitting (16 + most - length bytes) entries

-- one more is laid out
pub one_more : (most : ℕ) (old new : List ℕ) (e : Dirent) (entries rest : List Dirent) → entries ≡ e ∷ rest
    → new ≡ old ++ dirent_bytes e → length old + length (dirent_bytes e) ≤ 16 + most
    → with_left most new rest ≡ with_left most old entries
one_more most old new e entries rest are now fits =
    let room : ℕ = 16 + most - length old in
    let more : List ℕ = dirent_bytes e in
    let long : length new ≡ length old + length more = ap length now ∙ length-append old more in
    let left : 16 + most - length new ≡ room - length more = omega (arith, long) in
    let has : nat_lt room (length more) ≡ false = le-ltb room (length more) (omega (arith, fits)) in
    ap (λ n. new ++ fitting n rest) left
    ∙ ap (λ l. l ++ fitting (room - length more) rest) now
    ∙ append_assoc old more (fitting (room - length more) rest)
    ∙ sym (ap (λ es. with_left most old es) are
    ∙ ap (λ b. old ++ (if b then [] else more ++ fitting (room - length more) rest)) has)

-- the next one doesn't fit
pub no_more : (most : ℕ) (old : List ℕ) (e : Dirent) (entries rest : List Dirent) → entries ≡ e ∷ rest
    → (length old + length (dirent_bytes e) ≤ 16 + most → ⊥) → length old ≤ 16 + most → old ≡ with_left most old entries
no_more most old e entries rest are full within =
    let room : ℕ = 16 + most - length old in
    let more : List ℕ = dirent_bytes e in
    let over : nat_lt room (length more) ≡ true = lt-ltb room (length more) (omega (arith, full, within)) in
    sym (ap (λ es. with_left most old es) are
    ∙ ap (λ b. old ++ (if b then [] else more ++ fitting (room - length more) rest)) over ∙ append-nil old)

-- none is left
pub none_more : (most : ℕ) (old : List ℕ) (entries : List Dirent) → entries ≡ [] → old ≡ with_left most old entries
none_more most old entries are = sym (ap (λ es. with_left most old es) are ∙ append-nil old)

-- an entry has some bytes
pub some_bytes : (e : Dirent) → 0 < length (dirent_bytes e)
unfolding dirent_bytes
some_bytes e = omega arith

-- ---- the first entry behind a cookie

-- what a filter finds first passes its test
first_passes : {X : Type 0} (p : X → Bool) (xs : List X) (y : X) (ys : List X) → filter p xs ≡ y ∷ ys → p y ≡ true
first_passes p [] y ys e = absurd (cc e)
first_passes p (x ∷ xs) y ys e = go (p x) refl (first_passes p xs y ys) e
  where
    go : (b : Bool) → p x ≡ b → (filter p xs ≡ y ∷ ys → p y ≡ true) → (if b then x ∷ filter p xs else filter p xs) ≡ y ∷ ys
        → p y ≡ true
    go true is rest e = let same : x ≡ y = cc e in ap p (sym same) ∙ is
    go false is rest e = rest e

-- behind the root's two entries stand those that are linked, from this number on
behind_root : (d : Listing) (cookie : ℕ) → 2 ≤ cookie → entries_behind d 1 cookie ≡ map file_entry (linked_from d cookie)
behind_root d cookie above =
    let no_dot : (cookie == 0) ≡ false = ne_eqb cookie 0 (λ e. absurd (omega (arith, above, e))) in
    let no_dots : (cookie == 1) ≡ false = ne_eqb cookie 1 (λ e. absurd (omega (arith, above, e))) in
    rw (no_dot, no_dots) refl

-- the first of them, and what stands behind it
pub first_file : (d : Listing) (cookie number : ℕ) (node : Node) → 2 ≤ cookie
    → linked_from d cookie ≡ (number, node) ∷ linked_from d (number + 1)
    → entries_behind d 1 cookie ≡ file_entry (number, node) ∷ entries_behind d 1 (number + 1)
first_file d cookie number node above are =
    let passes : (nat_le cookie number && node.linked) ≡ true =
    first_passes (λ e. nat_le cookie e.0 && e.1.linked) (entries d.nodes) (number, node) (linked_from d (number + 1)) are in
    let from : cookie ≤ number = leb-true cookie number (both_true (nat_le cookie number) node.linked passes) in
    behind_root d cookie above ∙ ap (map file_entry) are
    ∙ ap (λ es. file_entry (number, node) ∷ es) (sym (behind_root d (number + 1) (omega (arith, above, from))))
  where
    both_true : (a b : Bool) → (a && b) ≡ true → a ≡ true
    both_true true b e = refl
    both_true false b e = e

pub no_file : (d : Listing) (cookie : ℕ) → 2 ≤ cookie → linked_from d cookie ≡ [] → entries_behind d 1 cookie ≡ []
no_file d cookie above none = behind_root d cookie above ∙ ap (map file_entry) none

-- a reply's header
pub header_long : (unique : ℕ) → length (header_bytes 0 0 unique) ≡ 16
unfolding header_bytes
header_long unique = refl
