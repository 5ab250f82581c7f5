-- What is told of one state, sought in another.
use Rattle.std.specs.Prelude.{◌≡◌, ℕ, ◌≤◌, true, Some, List, map, refl}
use Rattle.std.specs.Coded.{Coded, code_by, coded×, coded_list}
use Rattle.std.specs.FinMap.{get}
use Rattle.fl_arena.specs.Chains.{Chains, items}
use Rattle.fl_core.specs.Codes.{snapshot_code}
use Rattle.fl_core.specs.State.{Snapshot}
use Rattle.fl_dir.specs.declared.node.Node.{Node as File}
use Rattle.fl_marks.specs.Bytes.{is_range}
use Rattle.fl_marks.specs.Marking.{Spot}
use Rattle.fl_marks.specs.declared.lock.Mark.{Mark}
use Rattle.fl_marks.specs.declared.run.Run.{Run}
use Rattle.fl_order.specs.contracts.state_part.StatePart.{the_row}
use Rattle.fl_order.specs.declared.state_part.StatePart.{StatePart}
use Rattle.fl_order.specs.declared.state_part.StatePart.TheVariants as part
use Rattle.fl_state.specs.Parts.{class_of, kind_of}
use Rattle.fl_waiting.specs.declared.claim.Claim.{Claim}
use Rattle.fl_waiting.specs.declared.parked.Request.{Request}

-- all bytes of a run have its mark
abbrev pub IsHeld : Snapshot → Run → Type 0
IsHeld p r = (byte : ℕ) → r.start ≤ byte → byte ≤ r.end → get p.marking (r.key, byte) ≡ Some r.mark

-- A part is there: a file, an open file, or a run of bytes with a lock. Requests are compared in their order instead.
abbrev pub Has : Snapshot → StatePart → Type 0
Has p (part.Node number lookups linked mode uid gid name) =
    get p.view.directory.nodes number
    ≡ Some (record { lookups = lookups; linked = linked; mode = mode; uid = uid; gid = gid; name = name })
Has p (part.File fh node) = get p.view.directory.files fh ≡ Some node
Has p (part.Lock node owner start end write pid flock) =
    (is_range start end ≡ true)
    × IsHeld p (record {
      key = record { class = class_of flock; node = node; owner = owner };
      start = start;
      end = end;
      mark = record { kind = kind_of write; pid = pid };
    })
Has p (part.Wait unique node ask) = Unit {0}

-- the core in which parts are sought, and those that were
pub record Sought : Type 0 where
  pub core : Snapshot
  pub told : List StatePart

-- how proofs tell them apart: as their two parts
abbrev pub sought_code : Coded Sought
sought_code =
    code_by (Snapshot × List StatePart) (coded× snapshot_code (coded_list (the_row).coded)) (λ s. (s.core, s.told))
    (λ t. record { core = t.0; told = t.1 }) (λ _. refl)

-- the second has all files, open files and locks of the first
pub record IsWithin (p q : Snapshot) : Type 0 where
  pub nodes : (k : ℕ) (node : File) → get p.view.directory.nodes k ≡ Some node → get q.view.directory.nodes k ≡ Some node
  pub files : (fh node : ℕ) → get p.view.directory.files fh ≡ Some node → get q.view.directory.files fh ≡ Some node
  pub locks : (spot : Spot) (mark : Mark) → get p.marking spot ≡ Some mark → get q.marking spot ≡ Some mark

-- each has all files, open files and locks of the other, and numbers and requests are the same
pub record AreAlike (p q : Snapshot) : Type 0 where
  pub there : IsWithin p q
  pub back : IsWithin q p
  pub next_node : p.view.directory.next_node ≡ q.view.directory.next_node
  pub next_fh : p.view.directory.next_fh ≡ q.view.directory.next_fh
  pub parked : p.view.parked ≡ q.view.parked

-- the requests on the only chain, in order
abbrev pub requests_on : Chains Claim → List Request
requests_on a = map (λ (claim : Claim). claim.request) (items a 0)
