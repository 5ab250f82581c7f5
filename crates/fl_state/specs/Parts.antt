-- Parts that are told, as parts of a state.
use Rattle.std.specs.Prelude.{Bool, if◌then◌else◌}
use Rattle.fl_core.specs.Restored.{Part, a_node, a_file, a_lock, a_request}
use Rattle.fl_marks.specs.declared.lock.Class.{Class}
use Rattle.fl_marks.specs.declared.lock.Class.TheVariants.{Record, Flock}
use Rattle.fl_marks.specs.declared.lock.Kind.{Kind}
use Rattle.fl_marks.specs.declared.lock.Kind.TheVariants.{Read, Write}
use Rattle.fl_order.specs.declared.state_part.StatePart.{StatePart}
use Rattle.fl_order.specs.declared.state_part.StatePart.TheVariants.{Node, File, Lock, Wait}

-- a whole-file lock, or a record lock
abbrev pub class_of : Bool → Class
class_of flock = if flock then Flock else Record

-- a write lock, or a read lock
abbrev pub kind_of : Bool → Kind
kind_of write = if write then Write else Read

-- the part of a state that a part tells
abbrev pub part_of : StatePart → Part
part_of (Node number lookups linked mode uid gid name) =
    a_node number
    (record { lookups = lookups; linked = linked; mode = mode; uid = uid; gid = gid; name = name })
part_of (File fh node) = a_file fh node
part_of (Lock node owner start end write pid flock) =
    a_lock (record {
      key = record { class = class_of flock; node = node; owner = owner };
      start = start;
      end = end;
      mark = record { kind = kind_of write; pid = pid };
    })
part_of (Wait unique node ask) = a_request (record { unique = unique; node = node; ask = ask })
