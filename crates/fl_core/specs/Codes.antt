-- How snapshots are told apart by proofs: as pairs and lists.
use Rattle.std.specs.Prelude.{List, refl}
use Rattle.std.specs.Coded.{Coded, code_by, coded×, coded_list}
use Rattle.fl_marks.specs.Marking.{Marking}
use Rattle.fl_marks.specs.Codes.{marking_code}
use Rattle.fl_dir.specs.Directory.{Listing}
use Rattle.fl_dir.specs.Codes.{listing_code}
use Rattle.fl_core.specs.State.{View, Snapshot}
use Rattle.fl_waiting.specs.contracts.parked.Request as request
use Rattle.fl_waiting.specs.contracts.rules.Rules as rules
use Rattle.fl_waiting.specs.declared.parked.Request.{Request}
use Rattle.fl_waiting.specs.declared.rules.Rules.{Rules}

-- all but the locks, as its two parts
abbrev pub view_code : Coded View
view_code =
    code_by (Listing × List Request) (coded× listing_code (coded_list (request.the_row).coded))
    (λ v. (v.directory, v.parked)) (λ t. record { directory = t.0; parked = t.1 }) (λ _. refl)

-- a snapshot, as its three parts
abbrev pub snapshot_code : Coded Snapshot
snapshot_code =
    code_by (Rules × (View × Marking)) (coded× (rules.the_row).coded (coded× view_code marking_code))
    (λ s. (s.rules, (s.view, s.marking))) (λ t. record { rules = t.0; view = t.1.0; marking = t.1.1 }) (λ _. refl)
