-- The reply to a READDIR: entries of a directory, one behind the other.
use Rattle.std.specs.Prelude.{◌≡◌, ◌≤◌, ℕ, ◌+◌, ◌-◌, ◌/◌, ◌%◌, ◌^◌, nat_lt, if◌then◌else◌, List, [], ◌∷◌, ◌++◌, length}
use Rattle.std.specs.Prelude.{replicate}
use Rattle.fl_wire.specs.Layout.{dirent, laid_out}
use Rattle.fl_wire.specs.Spell.{header_bytes}

-- An entry of a directory: a node, the number by which those behind it are asked for, the node's mode, and a name.
pub record Dirent : Type 0 where
  pub node : ℕ
  pub cookie : ℕ
  pub mode : ℕ
  pub name : List ℕ

-- the entry of these four
abbrev pub dirent_of : ℕ → ℕ → ℕ → List ℕ → Dirent
dirent_of node cookie mode name = record { node = node; cookie = cookie; mode = mode; name = name }

-- how many bytes so many lack up to a multiple of 8
abbrev pub lacking : ℕ → ℕ
lacking n = (8 - n % 8) % 8

-- what stands before an entry's name: of its mode the kind of file is told
abbrev pub dirent_fields : Dirent → List ℕ
dirent_fields e = laid_out dirent (e.node ∷ e.cookie ∷ length e.name ∷ e.mode / 2 ^ 12 ∷ [])

-- the bytes of an entry: its fields, its name, and zeros up to a multiple of 8
unfoldable pub dirent_bytes : Dirent → List ℕ
dirent_bytes e = dirent_fields e ++ (e.name ++ replicate (lacking (length e.name)) 0)

-- the bytes of the first entries that together have at most so many: it ends at the first that doesn't fit
abbrev pub fitting : ℕ → List Dirent → List ℕ
fitting most [] = []
fitting most (e ∷ rest) =
    let bytes = dirent_bytes e in
    if nat_lt most (length bytes) then [] else bytes ++ fitting (most - length bytes) rest

-- an entry fits behind a header and other entries, all of which then have at most so many bytes
abbrev pub FitsBehind : List ℕ → ℕ → Dirent → Type 0
FitsBehind begun most e = length begun + length (dirent_bytes e) ≤ 16 + most

-- the bytes of a reply with these entries
abbrev pub list_spelling : ℕ → List ℕ → List ℕ
list_spelling unique body = header_bytes (length body) 0 unique ++ body

-- What there is now is the reply, and there was one whose header told of no body yet.
abbrev pub EndsList : List ℕ → List ℕ → Type 0
EndsList old new =
    (unique : ℕ) (body : List ℕ) → old ≡ header_bytes 0 0 unique ++ body → new ≡ list_spelling unique body
