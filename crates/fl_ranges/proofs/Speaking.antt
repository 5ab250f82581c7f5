-- A change of locks counts where it speaks: conflicts with other owners, and of other classes, are as they were.
use Rattle.std.proofs.Common.{◌≡◌, ◌≢◌, ℕ, Bool, true, false, cond, ◌==◌, Option, Some, None, refl, ap, sym, ◌∙◌}
use Rattle.std.specs.Ordering.{eq_by_cmp}
use Rattle.std.specs.FinMap.{get}
use Rattle.std.proofs.lemmas.Bool.{false_from_ne_true}
use Rattle.fl_marks.specs.declared.lock.Key.{Key}
use Rattle.fl_marks.specs.declared.lock.Kind.{Kind}
use Rattle.fl_marks.specs.declared.lock.Mark.{Mark}
use Rattle.fl_marks.specs.Marking.{key_cmp, Marking, Stroke, stroked, covers}
use Rattle.fl_marks.specs.Conflict.{owner_conflicts}
use Rattle.fl_marks.specs.Runs.{without_node}
use Rattle.fl_ranges.proofs.Elsewhere.{same_test}
use Rattle.fl_ranges.proofs.Markings.{get-stroked, get-without_node}
use Rattle.fl_ranges.proofs.OwnerConflicts.{owner_conflict_words}
use Rattle.fl_ranges.proofs.Spots.{same_key, within}

-- a conflict stays where each mark of the owner and of the class does
held_still : (m n : Marking) (key : Key) (start end : ℕ) (kind : Kind) (owner : ℕ)
    → ((k : Key) (byte : ℕ) (x : Mark) → k.owner ≡ owner → k.class ≡ key.class → get m (k, byte) ≡ Some x → get n (k, byte) ≡ Some x)
    → owner_conflicts m key start end kind owner ≡ true → owner_conflicts n key start end kind owner ≡ true
held_still m n key start end kind owner stays h =
    let w = (owner_conflict_words m key start end kind owner).0 h in
    let c = w.conflict in
    (owner_conflict_words n key start end kind owner).1 (record {
      conflict = record {
        contender = c.contender;
        byte = c.byte;
        mark = c.mark;
        held = stays c.contender c.byte c.mark w.of c.class c.held;
        class = c.class;
        node = c.node;
        other = c.other;
        from = c.from;
        upto = c.upto;
        write = c.write;
      };
      of = w.of;
    })

-- a stroke says nothing of other keys
same_at : (m : Marking) (s : Stroke) (k : Key) (byte : ℕ) → s.key ≢ k → get (stroked s m) (k, byte) ≡ get m (k, byte)
same_at m s k byte apart =
    let uncovered : covers s (k, byte) ≡ false =
    false_from_ne_true (covers s (k, byte)) (λ e. apart (same_key s.key k (within (eq_by_cmp key_cmp s.key k) s.start byte s.end e).same)) in
    get-stroked s m (k, byte) ∙ ap (λ b. cond b s.mark (get m (k, byte))) uncovered

-- nor of conflicts for which only other keys count
same_conflict : (m : Marking) (s : Stroke) (key : Key) (start end : ℕ) (kind : Kind) (owner : ℕ)
    → ((k : Key) → k.owner ≡ owner → k.class ≡ key.class → s.key ≢ k)
    → owner_conflicts (stroked s m) key start end kind owner ≡ owner_conflicts m key start end kind owner
same_conflict m s key start end kind owner apart =
    same_test _ _
    (held_still (stroked s m) m key start end kind owner (λ k byte x of class held. sym (same_at m s k byte (apart k of class)) ∙ held))
    (held_still m (stroked s m) key start end kind owner (λ k byte x of class held. same_at m s k byte (apart k of class) ∙ held))

pub others_conflict : (m : Marking) (s : Stroke) (key : Key) (start end : ℕ) (kind : Kind) (owner : ℕ) → owner ≢ s.key.owner
    → owner_conflicts (stroked s m) key start end kind owner ≡ owner_conflicts m key start end kind owner
others_conflict m s key start end kind owner other =
    same_conflict m s key start end kind owner (λ k of class same. other (sym of ∙ sym (ap (λ (a : Key). a.owner) same)))

pub class_conflicts : (m : Marking) (s : Stroke) (key : Key) (start end : ℕ) (kind : Kind) (owner : ℕ) → key.class ≢ s.key.class
    → owner_conflicts (stroked s m) key start end kind owner ≡ owner_conflicts m key start end kind owner
class_conflicts m s key start end kind owner other =
    same_conflict m s key start end kind owner (λ k of class same. other (sym class ∙ sym (ap (λ (a : Key). a.class) same)))

-- what is there although marks were taken away was there before
was_held : (gone : Bool) (mark before : Option Mark) (x : Mark) → mark ≡ None → cond gone mark before ≡ Some x → before ≡ Some x
was_held true mark before x none e = absurd (cc (sym none ∙ e))
was_held false mark before x none e = e

pub unlocked_conflicts : (m : Marking) (s : Stroke) (key : Key) (start end : ℕ) (kind : Kind) (owner : ℕ) → s.mark ≡ None
    → owner_conflicts (stroked s m) key start end kind owner ≡ true → owner_conflicts m key start end kind owner ≡ true
unlocked_conflicts m s key start end kind owner none =
    held_still (stroked s m) m key start end kind owner
    (λ k byte x of class held. was_held (covers s (k, byte)) s.mark (get m (k, byte)) x none (sym (get-stroked s m (k, byte)) ∙ held))

pub cleared_conflicts : (m : Marking) (node : ℕ) (key : Key) (start end : ℕ) (kind : Kind) (owner : ℕ)
    → owner_conflicts (without_node node m) key start end kind owner ≡ true → owner_conflicts m key start end kind owner ≡ true
cleared_conflicts m node key start end kind owner =
    held_still (without_node node m) m key start end kind owner
    (λ k byte x of class held. was_held (k.node == node) None (get m (k, byte)) x refl (sym (get-without_node m node (k, byte)) ∙ held))
