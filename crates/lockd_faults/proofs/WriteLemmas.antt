-- A text of which some is written, and the rest isn't yet.
use Rattle.std.proofs.Common.{◌≡◌, ℕ, ◌-◌, List, [], ◌++◌, length, take, drop, take-append-drop, refl, sym, ap, ◌∙◌}
use Rattle.std.proofs.Common.{append_assoc, append-nil, Option, subst}
use Rattle.std.proofs.KnownBytes.{Appends-nil, Appends-trans, Appends-kept}
use Rattle.std.proofs.lemmas.List.{take_rest}
use Rattle.std.specs.Io.KnownBytes.{Appends, Keeps}
use Rattle.lockd_faults.specs.Faults.{IsBegun}

-- all of the text before this rest was written
pub record IsWrittenTo (text rest : List ℕ) (old new : Option (List ℕ)) : Type 0 where
  pub part : List ℕ
  pub parts : text ≡ part ++ rest
  pub written : Appends old new part

-- nothing yet
pub written_none : (text : List ℕ) (old : Option (List ℕ)) → IsWrittenTo text text old old
written_none text old = record { part = []; parts = refl; written = Appends-nil old }

-- some more
pub written_more : (text rest : List ℕ) (n : ℕ) (old new newer : Option (List ℕ)) → IsWrittenTo text rest old new
    → Appends new newer (take n rest) → IsWrittenTo text (take (length rest - n) (drop n rest)) old newer
written_more text rest n old new newer so more =
    let whole : so.part ++ rest ≡ (so.part ++ take n rest) ++ drop n rest =
    ap (λ xs. so.part ++ xs) (sym (take-append-drop n rest)) ∙ sym (append_assoc so.part (take n rest) (drop n rest)) in
    record {
      part = so.part ++ take n rest;
      parts = so.parts ∙ whole ∙ ap (λ xs. (so.part ++ take n rest) ++ xs) (sym (take_rest rest n));
      written = Appends-trans old new newer so.part (take n rest) so.written more;
    }

-- a write that failed changed nothing
pub written_kept : (text rest : List ℕ) (old new newer : Option (List ℕ)) → IsWrittenTo text rest old new
    → Keeps new newer → IsWrittenTo text rest old newer
written_kept text rest old new newer so kept =
    record { part = so.part; parts = so.parts; written = Appends-kept old new newer so.part so.written kept }

-- and the rest isn't
pub begun : (text rest : List ℕ) (old new : Option (List ℕ)) → IsWrittenTo text rest old new → IsBegun text old new
begun text rest old new so = record { part = so.part; rest = rest; parts = so.parts; written = so.written }

-- nothing is left
pub whole : (text rest : List ℕ) (old new : Option (List ℕ)) → IsWrittenTo text rest old new → rest ≡ [] → Appends old new text
whole text rest old new so none =
    subst (Appends old new) (sym (append-nil so.part) ∙ ap (λ xs. so.part ++ xs) (sym none) ∙ sym so.parts) so.written

-- and then the writer stayed as it was
pub begun_kept : (text : List ℕ) (old new newer : Option (List ℕ)) → IsBegun text old new → Keeps new newer → IsBegun text old newer
begun_kept text old new newer so kept =
    record { part = so.part; rest = so.rest; parts = so.parts; written = Appends-kept old new newer so.part so.written kept }

pub all_kept : (text : List ℕ) (old new newer : Option (List ℕ)) → Appends old new text → Keeps new newer → Appends old newer text
all_kept text old new newer all kept = Appends-kept old new newer text all kept
