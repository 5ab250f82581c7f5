-- How tables of locks are told apart by proofs: as their three parts.
use Rattle.std.specs.Prelude.{ℕ, refl}
use Rattle.std.specs.Coded.{Coded, code_by, coded×, coded_ℕ}
use Rattle.fl_marks.specs.Marking.{Marking}
use Rattle.fl_marks.specs.Codes.{marking_code}
use Rattle.fl_ranges.specs.LockTable.{LockTable}

-- a table of locks, as its three parts
abbrev pub lock_table_code : Coded LockTable
lock_table_code =
    code_by ((ℕ × ℕ) × Marking) (coded× (coded× coded_ℕ coded_ℕ) marking_code) (λ t. ((t.limit, t.chains), t.marking))
    (λ p. record {
      limit = p.0.0;
      chains = p.0.1;
      marking = p.1;
    }) (λ _. refl)
