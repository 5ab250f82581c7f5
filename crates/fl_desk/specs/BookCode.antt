-- How books are told apart by proofs.
use Rattle.std.specs.Prelude.{ℕ, List, refl}
use Rattle.std.specs.Coded.{Coded, code_by, coded×, coded_ℕ, coded_list}
use Rattle.fl_history.specs.declared.history.Line.{Line}
use Rattle.fl_history.specs.contracts.history.Line.{the_row}
use Rattle.fl_core.specs.State.{Snapshot}
use Rattle.fl_core.specs.Codes.{snapshot_code}
use Rattle.fl_desk.specs.Kept.{Book}

-- a book, as its four parts
abbrev pub book_code : Coded Book
book_code =
    code_by (List Line × (List Line × (Snapshot × ℕ)))
    (coded× (coded_list (the_row).coded) (coded× (coded_list (the_row).coded) (coded× snapshot_code coded_ℕ)))
    (λ b. (b.lines, (b.stored, (b.present, b.room))))
    (λ t. record { lines = t.0; stored = t.1.0; present = t.1.1.0; room = t.1.1.1 }) (λ _. refl)
