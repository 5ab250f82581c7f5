-- What a client is told that lists the root of a whole session, whose number is 1, by several READDIRs (Linux `fuse.h`,
-- protocol 7.31), while files and folders may be made and unlinked between them.
use Rattle.std.specs.Prelude.{◌≡◌, ℕ, ◌<◌, ◌≤◌, true, List, [], ◌∷◌, ◌++◌, length, Contains, flat_map, map, Some}
use Rattle.std.specs.List.{AllByRecursion}
use Rattle.std.specs.FinMap.{get}
use Rattle.fl_dir.specs.Directory.{Listing}
use Rattle.fl_dir.specs.Naming.{is_linked_at}
use Rattle.fl_dir.specs.declared.node.Node.{Node}
use Rattle.fl_wire.specs.Listing.{Dirent, dirent_bytes}
use Rattle.fl_session.specs.Whole.{entries_behind, file_entry, root_entry}

-- One READDIR of the root: the directory that is there when it comes, the cookie behind which its list begins, the
-- entries that its reply has, and those for which the reply has no room.
pub record Call : Type 0 where
  pub directory : Listing
  pub cookie : ℕ
  pub told : List Dirent
  pub left : List Dirent
  pub are : entries_behind directory 1 cookie ≡ told ++ left

-- These bytes answer a READDIR of the root that comes when this directory is there, and asks for what is behind this
-- cookie.
pub record IsAnswered (d : Listing) (cookie : ℕ) (body : List ℕ) : Type 0 where
  pub call : Call
  pub there : call.directory ≡ d
  pub asked : call.cookie ≡ cookie
  pub is : body ≡ flat_map dirent_bytes call.told

-- each name has at most 255 bytes, as any that a message can say
abbrev pub HasShortNames : Listing → Type 0
HasShortNames d = (number : ℕ) (node : Node) → get d.nodes number ≡ Some node → length node.name ≤ 255

-- the cookie of the last of these entries, or this one if there are none
abbrev pub last_cookie : ℕ → List Dirent → ℕ
last_cookie cookie [] = cookie
last_cookie cookie (e ∷ rest) = last_cookie e.cookie rest

-- the first call begins behind this cookie, and each other one behind the last entry that was told by then
abbrev pub AreCalls : ℕ → List Call → Type 0
AreCalls cookie [] = Unit {0}
AreCalls cookie (c ∷ rest) = (c.cookie ≡ cookie) × AreCalls (last_cookie cookie c.told) rest

-- These calls list all: the first begins at the beginning, and one more call, the last, finds nothing more.
pub record ListAll (calls : List Call) (last : Call) : Type 0 where
  pub are : AreCalls 0 (calls ++ last ∷ [])
  pub end : entries_behind last.directory 1 last.cookie ≡ []

-- the entries that these calls told, in order
abbrev pub told_by : List Call → List Dirent
told_by calls = flat_map (λ (c : Call). c.told) calls

-- the numbers of their nodes
abbrev pub nodes_told_by : List Call → List ℕ
nodes_told_by calls = map (λ (e : Dirent). e.node) (told_by calls)

-- each cookie is above the one before it, and the first above this one
abbrev pub AreRising : ℕ → List Dirent → Type 0
AreRising cookie [] = Unit {0}
AreRising cookie (e ∷ rest) = (cookie < e.cookie) × AreRising e.cookie rest

-- the file or folder of this number is linked whenever one of the calls comes
abbrev pub IsLinkedThroughout : ℕ → List Call → Type 0
IsLinkedThroughout number calls = AllByRecursion (λ (c : Call). is_linked_at c.directory number ≡ true) calls

-- the entries of the root: `.` and `..`
abbrev pub root_entries : List Dirent
root_entries = root_entry 1 (46 ∷ []) ∷ root_entry 2 (46 ∷ 46 ∷ []) ∷ []

-- One of the calls tells this entry, and it is that of a file or folder that is linked when the call comes.
pub record IsOfFile (calls : List Call) (e : Dirent) : Type 0 where
  pub call : Call
  pub called : Contains calls call
  pub told : Contains call.told e
  pub number : ℕ
  pub node : Node
  pub there : get call.directory.nodes number ≡ Some node
  pub linked : node.linked ≡ true
  pub is : e ≡ file_entry (number, node)
