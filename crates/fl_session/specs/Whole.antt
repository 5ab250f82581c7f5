-- What a whole session answers besides orders, from what is there: it lists folders, tells how many files there may be,
-- and refuses what lock files can't do (Linux `fuse.h`, protocol 7.31).
use Rattle.std.specs.Prelude.{ℕ, ◌+◌, ◌-◌, ◌==◌, nat_lt, min, if◌then◌else◌, List, [], ◌∷◌, map, Option, None, Some}
use Rattle.std.specs.Prelude.{Ok, Err}
use Rattle.std.specs.FinMap.{len}
use Rattle.fl_desk.specs.Replay.{state_after}
use Rattle.fl_dir.specs.Directory.{Listing, attributes_at, is_folder_at, root_attributes}
use Rattle.fl_dir.specs.Naming.{linked_from}
use Rattle.fl_dir.specs.Replies.{directory_error}
use Rattle.fl_dir.specs.declared.node.Node.{Node}
use Rattle.fl_history.specs.declared.history.Line.{Line}
use Rattle.fl_order.specs.declared.errno.Errno.{Errno}
use Rattle.fl_order.specs.declared.errno.Errno.TheVariants.{EINVAL}
use Rattle.fl_order.specs.declared.told.Answer.TheVariants.{Done}
use Rattle.fl_order.specs.declared.told.Attr.{Attr}
use Rattle.fl_transport.specs.Response.{bytes_of}
use Rattle.fl_transport.specs.declared.response.Response.{Response}
use Rattle.fl_transport.specs.declared.response.Response.TheVariants.{Nothing, Init, One, Replies, Whole}
use Rattle.fl_waiting.specs.declared.rules.Rules.{Rules}
use Rattle.fl_wire.specs.Listing.{Dirent, dirent_of, fitting, list_spelling}
use Rattle.fl_wire.specs.Spell.{statfs_spelling, spelling_of}
use Rattle.fl_wire.specs.declared.whole.WholeAsk.{WholeAsk}
use Rattle.fl_wire.specs.declared.whole.WholeAsk.TheVariants as ask

-- the root under these bytes of a name, with this cookie
abbrev pub root_entry : ℕ → List ℕ → Dirent
root_entry cookie name = dirent_of root_attributes.node cookie root_attributes.mode name

-- the mode in attributes that may be there, or else 0
abbrev pub mode_in : Option Attr → ℕ
mode_in None = 0
mode_in (Some attr) = attr.mode

-- `.`, by which a folder of this number lists itself
abbrev pub own_entry : Listing → ℕ → Dirent
own_entry d number = dirent_of number 1 (mode_in (attributes_at d number)) (46 ∷ [])

-- A file or a folder in the root's list. Its cookie is one more than its number, and numbers are never given twice, so
-- a list goes on where it ended, whatever was made or unlinked since.
abbrev pub file_entry : ℕ × Node → Dirent
file_entry file = dirent_of file.0 (file.0 + 1) file.1.mode file.1.name

-- what is in the folder of this number, from this number on: in the root all that is linked, and nothing in any other
abbrev pub entries_from : Listing → ℕ → ℕ → List Dirent
entries_from d number from = if number == 1 then map file_entry (linked_from d from) else []

-- The entries of a folder behind this cookie: `.`, `..`, which always is the root, and then what is in it, each once,
-- in the order in which they were made.
abbrev pub entries_behind : Listing → ℕ → ℕ → List Dirent
entries_behind d number cookie =
    if cookie == 0 then own_entry d number ∷ root_entry 2 (46 ∷ 46 ∷ []) ∷ entries_from d number 2
    else if cookie == 1 then root_entry 2 (46 ∷ 46 ∷ []) ∷ entries_from d number 2
    else entries_from d number cookie

-- why a node has no list: it is unknown, or a file
abbrev pub listing_error : Listing → ℕ → Option Errno
listing_error d node = if is_folder_at d node then None else directory_error d node

-- why there is no list of a node in so many bytes: it has none at all, or an entry of the longest name has no room
abbrev pub list_error : Option Errno → ℕ → Option Errno
list_error (Some e) size = Some e
list_error None size = if nat_lt size 280 then Some EINVAL else None

-- the reply with this list, or with the error if there is one
abbrev pub list_reply : ℕ → Option Errno → List ℕ → List ℕ
list_reply unique None body = list_spelling unique body
list_reply unique (Some e) body = spelling_of (record { unique = unique; result = Err e })

-- the reply to what a message asks of a whole session under these rules, when this directory is there
abbrev pub whole_reply : Rules → Listing → ℕ → WholeAsk → List ℕ
whole_reply rules d unique (ask.List node cookie size) =
    list_reply unique (list_error (listing_error d node) size) (fitting (min size 4096) (entries_behind d node cookie))
whole_reply rules d unique ask.Statfs = statfs_spelling unique rules.files (d.most_nodes - len d.nodes)
whole_reply rules d unique ask.Read = spelling_of (record { unique = unique; result = Ok Done })
whole_reply rules d unique (ask.Refused e) = spelling_of (record { unique = unique; result = Err e })

-- the bytes of each reply, perhaps of a whole session, under these rules and when this directory is there
abbrev pub bytes_when : Rules → Listing → Response → List (List ℕ)
bytes_when rules d Nothing = bytes_of Nothing
bytes_when rules d (Init unique step) = bytes_of (Init unique step)
bytes_when rules d (One told) = bytes_of (One told)
bytes_when rules d (Replies tolds) = bytes_of (Replies tolds)
bytes_when rules d (Whole unique ask) =
    if rules.whole then whole_reply rules d unique ask ∷ [] else bytes_of (Whole unique ask)

-- the same of a session behind these lines
abbrev pub bytes_in : Rules → List Line → Response → List (List ℕ)
bytes_in rules lines response = bytes_when rules (state_after rules lines).view.directory response
