-- The lines of a head, which tells a state, and what a lock request asks for.
use Rattle.std.specs.Prelude.{ℕ, Bool, List, [], ◌∷◌, codes}
use Rattle.std.specs.Fmt.{decimal}
use Rattle.fl_order.specs.declared.order.LockAsk.{LockAsk}
use Rattle.fl_order.specs.declared.state_part.Head.{Head}
use Rattle.fl_order.specs.declared.state_part.StateLine.{StateLine}
use Rattle.fl_order.specs.declared.state_part.StateLine.TheVariants as state
use Rattle.fl_order.specs.declared.state_part.StatePart.{StatePart}
use Rattle.fl_order.specs.declared.state_part.StatePart.TheVariants as part
use Rattle.fl_words.specs.Words.{spaced, flag_text, name_text}

-- what a lock request asks for
abbrev pub lock_ask_text : LockAsk → List ℕ
lock_ask_text a =
    spaced (decimal a.fh ∷ decimal a.owner ∷ decimal a.start ∷ decimal a.end ∷
    decimal a.kind ∷ decimal a.pid ∷ decimal a.flags ∷ [])

-- what a head begins with
abbrev pub head_text : Head → List ℕ
head_text h =
    spaced (decimal h.lines ∷ flag_text h.fair ∷ decimal h.runs ∷ decimal h.parked ∷ decimal h.files ∷
    decimal h.open_files ∷ decimal h.node ∷ decimal h.fh ∷ [])

-- a file
abbrev pub node_text : ℕ → ℕ → Bool → ℕ → ℕ → ℕ → List ℕ → List ℕ
node_text number lookups linked mode uid gid name =
    spaced (decimal number ∷ decimal lookups ∷ flag_text linked ∷ decimal mode ∷ decimal uid ∷ decimal gid ∷
    name_text name ∷ [])

-- an open file
abbrev pub file_text : ℕ → ℕ → List ℕ
file_text fh node = spaced (decimal fh ∷ decimal node ∷ [])

-- a run of bytes with a lock
abbrev pub run_text : ℕ → ℕ → ℕ → ℕ → Bool → ℕ → Bool → List ℕ
run_text node owner start end write pid flock =
    spaced (decimal node ∷ decimal owner ∷ decimal start ∷ decimal end ∷ flag_text write ∷ decimal pid ∷
    flag_text flock ∷ [])

-- a request that waits
abbrev pub wait_text : ℕ → ℕ → LockAsk → List ℕ
wait_text unique node ask = spaced (decimal unique ∷ decimal node ∷ lock_ask_text ask ∷ [])

-- a part of a state
abbrev pub part_text : StatePart → List ℕ
part_text (part.Node number lookups linked mode uid gid name) =
    spaced (codes "node" ∷ node_text number lookups linked mode uid gid name ∷ [])
part_text (part.File fh node) = spaced (codes "file" ∷ file_text fh node ∷ [])
part_text (part.Lock node owner start end write pid flock) =
    spaced (codes "lock" ∷ run_text node owner start end write pid flock ∷ [])
part_text (part.Wait unique node ask) = spaced (codes "wait" ∷ wait_text unique node ask ∷ [])

-- a line of a head
abbrev pub state_text : StateLine → List ℕ
state_text (state.Head head) = spaced (codes "state" ∷ head_text head ∷ [])
state_text (state.Part part) = part_text part
state_text state.Go = codes "go"
