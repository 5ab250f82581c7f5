-- An older wish goes first if the two conflict.
use Rattle.std.proofs.Common.{◌≡◌, ◌≢◌, ◌↔◌, ℕ, ◌==◌, ◌≤◌, nat_le, Bool, true, false, not, ◌&&◌, inl, inr, ◌⊎◌, refl}
use Rattle.std.proofs.Common.{sym, ap, ◌∙◌, arith}
use Rattle.std.proofs.lemmas.Bool.Decides.{nat_tests}
use Rattle.fl_marks.specs.declared.lock.Class.{Class}
use Rattle.fl_marks.specs.declared.lock.Class.TheVariants.{Record, Flock}
use Rattle.fl_marks.specs.declared.lock.Kind.{Kind}
use Rattle.fl_marks.specs.declared.lock.Kind.TheVariants.{Read, Write}
use Rattle.fl_marks.specs.Conflict.{kinds_conflict}
use Rattle.fl_marks.specs.Marking.{class_number}
use Rattle.fl_waiting.specs.Waiting.{Wish, older_blocks, OlderBlocks}

all_true : (c n o f u e : Bool) → ((c && (n && not o)) && ((f && u) && e)) ≡ true
    → (c ≡ true) × (n ≡ true) × (o ≡ false) × (f ≡ true) × (u ≡ true) × (e ≡ true)
all_true false n o f u e h = absurd (cc h)
all_true true false o f u e h = absurd (cc h)
all_true true true true f u e h = absurd (cc h)
all_true true true false false u e h = absurd (cc h)
all_true true true false true false e h = absurd (cc h)
all_true true true false true true false h = absurd (cc h)
all_true true true false true true true h = (refl, refl, refl, refl, refl, refl)

yes_equal : (x y : ℕ) → x ≡ y → (x == y) ≡ true
yes_equal x y e = grind (arith, nat_tests)

equals : (x y : ℕ) → (x == y) ≡ true → x ≡ y
equals x y e = grind (arith, nat_tests)

differ : (x y : ℕ) → (x == y) ≡ false → y ≢ x
differ x y e = λ same. cc (sym (yes_equal x y (sym same)) ∙ e)

not_equal : (x y : ℕ) → y ≢ x → (x == y) ≡ false
not_equal x y ne = go (x == y) refl
  where
    go : (b : Bool) → (x == y) ≡ b → b ≡ false
    go true e = absurd (ne (sym (equals x y e)))
    go false e = refl

upto : (x y : ℕ) → nat_le x y ≡ true → x ≤ y
upto x y e = grind (arith, nat_tests)

not_upto : (x y : ℕ) → nat_le x y ≡ false → y ≤ x
not_upto x y e = grind (arith, nat_tests)

yes_upto : (x y : ℕ) → x ≤ y → nat_le x y ≡ true
yes_upto x y h = grind (arith, nat_tests)

same_class : (a b : Class) → (class_number a == class_number b) ≡ true → b ≡ a
same_class Record Record e = refl
same_class Record Flock e = absurd (cc e)
same_class Flock Record e = absurd (cc e)
same_class Flock Flock e = refl

a_write : (a b : Kind) → kinds_conflict a b ≡ true → (a ≡ Write) ⊎ (b ≡ Write)
a_write Read Read e = absurd (cc e)
a_write Read Write e = inr refl
a_write Write b e = inl refl

in_conflict : (a b : Kind) → (a ≡ Write) ⊎ (b ≡ Write) → kinds_conflict a b ≡ true
in_conflict a b (inl e) = ap (λ k. kinds_conflict k b) e
in_conflict Read b (inr e) = ap (kinds_conflict Read) e
in_conflict Write b (inr e) = refl

words_of : (w older : Wish) → w.start ≤ w.end → older.start ≤ older.end → older_blocks w older ≡ true → OlderBlocks w older
words_of w older some others h =
    let t = all_true (class_number w.key.class == class_number older.key.class) (w.key.node == older.key.node) (w.key.owner == older.key.owner)
    (nat_le older.start w.end) (nat_le w.start older.end) (kinds_conflict w.kind older.kind) h in
    go (nat_le w.start older.start) refl (differ _ _ t.2) (same_class _ _ t.0, sym (equals _ _ t.1)) (upto _ _ t.3) (upto _ _ t.4) (a_write w.kind older.kind t.5)
  where
    go : (b : Bool) → nat_le w.start older.start ≡ b → older.key.owner ≢ w.key.owner
        → (older.key.class ≡ w.key.class) × (older.key.node ≡ w.key.node) → older.start ≤ w.end → w.start ≤ older.end
        → (w.kind ≡ Write) ⊎ (older.kind ≡ Write) → OlderBlocks w older
    go true e other file before after write = record {
      byte = older.start;
      other = other;
      file = file;
      common = ((omega arith, others), (upto w.start older.start e, before));
      write = write;
    }
    go false e other file before after write = record {
      byte = w.start;
      other = other;
      file = file;
      common = ((not_upto w.start older.start e, after), (omega arith, some));
      write = write;
    }

test_of : (w older : Wish) → OlderBlocks w older → older_blocks w older ≡ true
test_of w older g =
    let class : (class_number w.key.class == class_number older.key.class) ≡ true = yes_equal _ _ (ap class_number (sym g.file.0)) in
    let node : (w.key.node == older.key.node) ≡ true = yes_equal _ _ (sym g.file.1) in
    let owner : (w.key.owner == older.key.owner) ≡ false = not_equal _ _ g.other in
    let before : nat_le older.start w.end ≡ true = yes_upto _ _ (omega (arith, g.common.0.0, g.common.1.1)) in
    let after : nat_le w.start older.end ≡ true = yes_upto _ _ (omega (arith, g.common.1.0, g.common.0.1)) in
    let write = in_conflict w.kind older.kind g.write in
    λ i. (class i && (node i && not (owner i))) && ((before i && after i) && write i)

pub first_words : (w older : Wish) → w.start ≤ w.end → older.start ≤ older.end → (older_blocks w older ≡ true) ↔ OlderBlocks w older
first_words w older some others = (words_of w older some others, test_of w older)
