-- The bytes of a reply.
use Rattle.std.specs.Prelude.{◌≡◌, ℕ, ◌+◌, ◌-◌, ◌^◌, ◌≤◌, List, [], ◌∷◌, ◌++◌, length, Result, Ok, Err}
use Rattle.fl_order.specs.Errno.{number_of}
use Rattle.fl_order.specs.declared.errno.Errno.{Errno}
use Rattle.fl_order.specs.declared.told.Answer.{Answer}
use Rattle.fl_order.specs.declared.told.Answer.TheVariants.{Done, Entry, Attr, Open, Made, Lock}
use Rattle.fl_order.specs.declared.told.Attr.{Attr as Attributes}
use Rattle.fl_order.specs.declared.told.Told.{Told}
use Rattle.fl_wire.specs.Layout.{field, laid_out, out_header, attr, entry_out, attr_out, open_out, lk_out, statfs_out}

-- the attributes of a node: its number, mode, links, owner and group, blocks of 4096 bytes, and zeros
unfoldable pub attr_bytes : Attributes → List ℕ
attr_bytes a =
    laid_out attr (a.node ∷ 0 ∷ 0 ∷ 0 ∷ 0 ∷ 0 ∷ 0 ∷ 0 ∷ 0 ∷ a.mode ∷ a.nlink ∷ a.uid ∷ a.gid ∷ 0 ∷ 4096 ∷ 0 ∷ [])

-- a name that was looked up
unfoldable pub entry_bytes : Attributes → List ℕ
entry_bytes a = laid_out entry_out (a.node ∷ 0 ∷ 0 ∷ 0 ∷ 0 ∷ 0 ∷ []) ++ attr_bytes a

-- an open file
unfoldable pub open_bytes : ℕ → List ℕ
open_bytes fh = laid_out open_out (fh ∷ 0 ∷ 0 ∷ [])

-- a lock record
unfoldable pub lock_bytes : ℕ → ℕ → ℕ → ℕ → List ℕ
lock_bytes start end kind pid = laid_out lk_out (start ∷ end ∷ kind ∷ pid ∷ [])

-- what stands behind the header
abbrev pub answer_bytes : Answer → List ℕ
answer_bytes Done = []
answer_bytes (Entry a) = entry_bytes a
answer_bytes (Attr a) = laid_out attr_out (0 ∷ 0 ∷ 0 ∷ []) ++ attr_bytes a
answer_bytes (Open fh) = open_bytes fh
answer_bytes (Made a fh) = entry_bytes a ++ open_bytes fh
answer_bytes (Lock start end kind pid) = lock_bytes start end kind pid

-- a header: the length of the whole reply, minus the error's number in two's complement or 0, and
-- whose reply it is
unfoldable pub header_bytes : ℕ → ℕ → ℕ → List ℕ
header_bytes body error unique = laid_out out_header ((16 + body) ∷ error ∷ unique ∷ [])

-- minus the number of an error, in 32 bits
abbrev pub minus : Errno → ℕ
minus e = 2 ^ 32 - number_of e

-- a reply that is an error is a header alone
abbrev pub reply_bytes : ℕ → Result Answer Errno → List ℕ
reply_bytes unique (Ok answer) = header_bytes (length (answer_bytes answer)) 0 unique ++ answer_bytes answer
reply_bytes unique (Err e) = header_bytes 0 (minus e) unique

-- the bytes of a reply
abbrev pub spelling_of : Told → List ℕ
spelling_of told = reply_bytes told.unique told.result

-- the room of a STATFS's reply: how many files there may be and how many of them are free, blocks of 4096 bytes, of
-- which there are none, and the longest name
unfoldable pub statfs_bytes : ℕ → ℕ → List ℕ
statfs_bytes files free =
    laid_out statfs_out (0 ∷ 0 ∷ 0 ∷ files ∷ free ∷ 4096 ∷ 255 ∷ 4096 ∷ 0 ∷ 0 ∷ 0 ∷ 0 ∷ 0 ∷ 0 ∷ 0 ∷ [])

-- the bytes of a STATFS's reply
abbrev pub statfs_spelling : ℕ → ℕ → ℕ → List ℕ
statfs_spelling unique files free = header_bytes 80 0 unique ++ statfs_bytes files free

-- a whole reply: as many bytes as its first field says, from 16 (a header alone) to 4112
pub record IsReply (reply : List ℕ) : Type 0 where
  pub whole : field out_header 0 0 reply ≡ length reply
  pub header : 16 ≤ length reply
  pub bounded : length reply ≤ 4112
