-- What stands in the arenas of a core, as parts that are told.
use Rattle.std.specs.Prelude.{ℕ, Bool, true, false, List, map}
use Rattle.std.specs.List.{flat_map}
use Rattle.fl_arena.specs.Chains.{Chains}
use Rattle.fl_dir.specs.declared.nodes.Slot.{Slot}
use Rattle.fl_marks.specs.declared.lock.Class.{Class}
use Rattle.fl_marks.specs.declared.lock.Class.TheVariants.{Record, Flock}
use Rattle.fl_marks.specs.declared.lock.Kind.{Kind}
use Rattle.fl_marks.specs.declared.lock.Kind.TheVariants.{Read, Write}
use Rattle.fl_marks.specs.declared.run.Run.{Run}
use Rattle.fl_order.specs.declared.state_part.StatePart.{StatePart}
use Rattle.fl_order.specs.declared.state_part.StatePart.TheVariants.{Node, File, Lock, Wait}
use Rattle.fl_waiting.specs.declared.claim.Claim.{Claim}

-- the items of all chains, one chain after another
abbrev pub all_items : {T : Type 0} → Chains T → List T
all_items a = flat_map (λ es. map (λ e. e.item) es) a.chains

-- a node under its number
abbrev pub node_part : ℕ × Slot → StatePart
node_part e = let node = e.1.node in Node e.0 node.lookups node.linked node.mode node.uid node.gid node.name

-- the node of an open file, under its fh
abbrev pub file_part : ℕ × ℕ → StatePart
file_part e = File e.0 e.1

-- a request that waits
abbrev pub wait_part : Claim → StatePart
wait_part claim = let r = claim.request in Wait r.unique r.node r.ask

-- it is a whole-file lock
abbrev pub is_flock : Class → Bool
is_flock Record = false
is_flock Flock = true

-- it is a write lock
abbrev pub is_write : Kind → Bool
is_write Read = false
is_write Write = true

-- a run of bytes with a lock
abbrev pub lock_part : Run → StatePart
lock_part r = Lock r.key.node r.key.owner r.start r.end (is_write r.mark.kind) r.mark.pid (is_flock r.key.class)
