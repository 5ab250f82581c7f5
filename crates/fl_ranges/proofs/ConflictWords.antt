-- The test for a conflict, and a conflict in words.
use Rattle.std.proofs.Common.{◌≡◌, ◌≢◌, ◌↔◌, ℕ, ◌≤◌, Bool, true, false, not, ◌&&◌, ◌==◌, nat_le, refl, ap, sym, arith}
use Rattle.std.proofs.lemmas.Bool.Decides.{nat_tests}
use Rattle.fl_marks.specs.declared.lock.Key.{Key}
use Rattle.fl_marks.specs.declared.lock.Kind.{Kind}
use Rattle.fl_marks.specs.Marking.{class_number, Marking}
use Rattle.fl_marks.specs.Conflict.{kinds_conflict, mark_conflicts, conflicts, IsConflict}
use Rattle.fl_ranges.proofs.Markings.{spots_total, exact_spots, same_class}
use Rattle.fl_ranges.proofs.Entries.{any_entry, entry_passes}
use Rattle.fl_ranges.proofs.Spots.{and_and_false}

-- the parts of the test, told by numbers
pub record Parts (a b n o p q start byte end : ℕ) (x : Bool) : Type 0 where
  pub class : a ≡ b
  pub node : n ≡ o
  pub other : p ≢ q
  pub from : start ≤ byte
  pub upto : byte ≤ end
  pub write : x ≡ true

pub parts : (a b n o p q start byte end : ℕ) (x : Bool) → (((a == b) && ((n == o) && not (p == q))) && ((nat_le start byte && nat_le byte end) && x)) ≡ true →
    Parts a b n o p q start byte end x
parts a b n o p q start byte end true e = record {
  class = grind (arith, nat_tests);
  node = grind (arith, nat_tests);
  other = grind (arith, nat_tests);
  from = grind (arith, nat_tests);
  upto = grind (arith, nat_tests);
  write = refl;
}
parts a b n o p q start byte end false e = absurd (and_and_false ((a == b) && ((n == o) && not (p == q))) (nat_le start byte && nat_le byte end) e)

pub all_parts : (a b n o p q start byte end : ℕ) (x : Bool) → a ≡ b → n ≡ o → (p ≢ q) → start ≤ byte → byte ≤ end → x ≡ true
    → (((a == b) && ((n == o) && not (p == q))) && ((nat_le start byte && nat_le byte end) && x)) ≡ true
all_parts a b n o p q start byte end true class node other from upto write = grind (arith, nat_tests)
all_parts a b n o p q start byte end false class node other from upto write = absurd (cc write)

pub conflict_words : (m : Marking) (key : Key) (start end : ℕ) (kind : Kind) → (conflicts m key start end kind ≡ true) ↔ IsConflict m key start end kind
conflict_words m key start end kind = (
  λ h.
      let e = any_entry spots_total (mark_conflicts key start end kind) m h in
      let t = parts (class_number key.class) (class_number e.0.0.class) key.node e.0.0.node key.owner e.0.0.owner start e.0.1 end (kinds_conflict kind e.1.kind)
      e.3 in
      record {
        contender = e.0.0;
        byte = e.0.1;
        mark = e.1;
        held = e.2;
        class = sym (same_class key.class e.0.0.class t.class);
        node = sym t.node;
        other = λ same. t.other (sym same);
        from = t.from;
        upto = t.upto;
        write = t.write;
      },
  λ c.
      entry_passes spots_total exact_spots (mark_conflicts key start end kind) m (c.contender, c.byte) c.mark c.held
      (all_parts (class_number key.class) (class_number c.contender.class) key.node c.contender.node key.owner c.contender.owner start c.byte end
      (kinds_conflict kind c.mark.kind)
      (ap class_number (sym c.class)) (sym c.node) (λ same. c.other (sym same)) c.from c.upto c.write),
)
