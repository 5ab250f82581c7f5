-- Kinds are found by their numbers and by their words.
use Rattle.std.proofs.Common.{◌≡◌, ℕ, ◌==◌, Bool, true, false, if◌then◌else◌, Option, Some, List, [], ◌∷◌, refl, sym}
use Rattle.std.proofs.Common.{subst, ap, ◌∙◌, arith}
use Rattle.std.proofs.lemmas.Bool.Decides.{Decides-eqb}
use Rattle.std.proofs.lemmas.Option.{none-some, same_Some}
use Rattle.std.proofs.lemmas.Slice.Eq.{bytes_eq-Decides}
use Rattle.std.specs.Bool.{Decides}
use Rattle.std.specs.List.{find}
use Rattle.std.specs.Str.{bytes_eq}
use Rattle.fl_order.specs.OpKind.{all_kinds, opcode_for, word_for, kind_of_opcode, kind_of_word, IsFoundBy}
use Rattle.fl_order.specs.declared.kind.OpKind.{OpKind}

-- what is found passes the test
first_passes : {X : Type 0} (test : X → Bool) (y : X) (rest : Option X) (x : X) (b : Bool) → test y ≡ b → (if b then Some y else rest) ≡ Some x →
    (rest ≡ Some x → test x ≡ true) → test x ≡ true
first_passes test y rest x true is e later = ap test (sym (same_Some y x e)) ∙ is
first_passes test y rest x false is e later = later e

found_passes : {X : Type 0} (test : X → Bool) (xs : List X) (x : X) → find test xs ≡ Some x → test x ≡ true
found_passes test [] x e = absurd (none-some x e)
found_passes test (y ∷ ys) x e = first_passes test y (find test ys) x (test y) refl e (found_passes test ys x)

-- each kind is found by its own mark alone, if it is found by it
found_by : {Mark : Type 0} (same : Mark → Mark → Bool) → ((a b : Mark) → Decides (same a b) (a ≡ b)) → (mark_of : OpKind → Mark) →
    ((kind : OpKind) → find (λ other. same (mark_of other) (mark_of kind)) all_kinds ≡ Some kind) → (mark : Mark) →
    IsFoundBy mark_of mark (find (λ kind. same (mark_of kind) mark) all_kinds)
found_by {Mark} same decides mark_of finds mark = record {
  own = λ kind. (
    λ e. (decides (mark_of kind) mark).0 (found_passes (λ k. same (mark_of k) mark) all_kinds kind e),
    λ e. subst (λ (m : Mark). find (λ k. same (mark_of k) m) all_kinds ≡ Some kind) e (finds kind),
  );
  apart = λ kind other e. same_Some kind other (sym (finds kind) ∙ ap (λ m. find (λ k. same (mark_of k) m) all_kinds) e ∙ finds other);
}

opcode_finds : (kind : OpKind) → kind_of_opcode (opcode_for kind) ≡ Some kind
opcode_finds kind = grind arith

word_finds : (kind : OpKind) → kind_of_word (word_for kind) ≡ Some kind
word_finds kind = grind arith

pub found_by_opcode : (opcode : ℕ) → IsFoundBy opcode_for opcode (kind_of_opcode opcode)
found_by_opcode opcode = found_by (λ a b. a == b) Decides-eqb opcode_for opcode_finds opcode

pub found_by_word : (word : List ℕ) → IsFoundBy word_for word (kind_of_word word)
found_by_word word = found_by bytes_eq bytes_eq-Decides word_for word_finds word
