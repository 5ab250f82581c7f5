-- A client: what the lines of a text say to a server, and what came of them.
pub mod Inside
use Rattle.std.specs.Prelude.{◌≡◌, ℕ, ◌+◌, ◌<◌, ◌≤◌, nat_le, ◌&&◌, Bool, if◌then◌else◌, List, [], ◌∷◌, length, take}
use Rattle.std.specs.Prelude.{drop, codes, All, Option, Some, None, option_map, IfSome, Result, Ok, Err, ⊤}
use Rattle.std.specs.Fmt.{decimal}
use Rattle.std.specs.List.{sum_by}
use Rattle.std.specs.Io.KnownBytes.{Appends}
use Rattle.std.specs.Result.{result_ok}
use Rattle.std.specs.Str.{bytes_eq}
use Rattle.std.specs.Str.Parse.{digits_value}
use Rattle.hex.specs.Hex.{decode_of}
use Rattle.fl_wire.specs.Layout.{len_of}
use Rattle.lockd_faults.specs.Faults.{IsBegun}
use Rattle.lockd_faults.specs.HexLines.{lines_of, hex_lines}
use Rattle.lockd_faults.specs.declared.fault.CommandFault.{CommandFault}
use Rattle.lockd_faults.specs.declared.fault.CommandFault.TheVariants as command

-- what a line says: these bytes are sent, or so many replies are waited for
pub data Said : Type 0 where
  Sends : List ℕ → Said
  Waits : ℕ → Said

-- n is from 1 to 1000, and the word is its decimal spelling
abbrev pub is_count : ℕ → List ℕ → Bool
is_count n word = nat_le 1 n && (nat_le n 1000 && bytes_eq word (decimal n))

-- the number from 1 to 1000 that a word spells
abbrev pub count_of : List ℕ → Option ℕ
count_of word = if is_count (digits_value 10 word) word then Some (digits_value 10 word) else None

-- What a line says, if anything: `recv N`, or hex of either case with two digits a byte.
abbrev pub line_says : List ℕ → Option Said
line_says line =
    if bytes_eq (take 5 line) (codes "recv ") then option_map Waits (count_of (drop 5 line))
    else option_map Sends (result_ok (decode_of line))

-- what line n says before what the lines behind it say; the first line that says nothing is the one that counts
abbrev pub said_before : ℕ → Option Said → Result (List Said) ℕ → Result (List Said) ℕ
said_before n None later = Err n
said_before n (Some said) (Ok more) = Ok (said ∷ more)
said_before n (Some said) (Err m) = Err m

-- what stands after the last newline has to be nothing, or it is bad line n
abbrev pub said_last : ℕ → List ℕ → Result (List Said) ℕ
said_last n [] = Ok []
said_last n (c ∷ line) = Err n

-- what lines from number n on say, or the number of the first bad line
abbrev pub said_from : ℕ → List (List ℕ) → Result (List Said) ℕ
said_from n [] = Ok []
said_from n (line ∷ []) = said_last n line
said_from n (line ∷ next ∷ lines) = said_before n (line_says line) (said_from (n + 1) (next ∷ lines))

-- What a text says, line by line, or the number, from 1, of the first line that says nothing or has no newline.
abbrev pub text_says : List ℕ → Result (List Said) ℕ
text_says text = said_from 1 (lines_of text)

-- how many replies a line waits for
abbrev pub awaited : Said → ℕ
awaited (Sends bytes) = 0
awaited (Waits n) = n

-- how many replies these lines wait for
abbrev pub awaited_by : List Said → ℕ
awaited_by lines = sum_by awaited lines

-- a reply as its reader sees it: as many bytes as its first field says, from 16 (a header alone) to 8192
pub record IsFramed (reply : List ℕ) : Type 0 where
  pub whole : len_of reply ≡ length reply
  pub least : 16 ≤ length reply
  pub most : length reply ≤ 8192

-- n replies were printed, each as one line of hex
pub record ArePrinted (n : ℕ) (old new : Option (List ℕ)) : Type 0 where
  pub replies : List (List ℕ)
  pub framed : All IsFramed replies
  pub number : length replies ≡ n
  pub written : Appends old new (hex_lines replies)

-- A text was read, and as many replies as its lines wait for were printed.
pub record IsDriven (left old new : Option (List ℕ)) : Type 0 where
  pub text : List ℕ
  pub lines : List Said
  pub read : IfSome left (λ bytes. bytes ≡ text)
  pub said : text_says text ≡ Ok lines
  pub printed : ArePrinted (awaited_by lines) old new

-- A text was read, and fewer replies than its lines wait for were printed.
pub record IsCutShort (left old new : Option (List ℕ)) : Type 0 where
  pub text : List ℕ
  pub lines : List Said
  pub got : ℕ
  pub read : IfSome left (λ bytes. bytes ≡ text)
  pub said : text_says text ≡ Ok lines
  pub fewer : got < awaited_by lines
  pub printed : ArePrinted got old new

-- A text was read, and a beginning of the hex lines of some replies was printed, no more than its lines wait for. It
-- may end within a line.
pub record IsDrivenInPart (left old new : Option (List ℕ)) : Type 0 where
  pub text : List ℕ
  pub lines : List Said
  pub replies : List (List ℕ)
  pub read : IfSome left (λ bytes. bytes ≡ text)
  pub said : text_says text ≡ Ok lines
  pub framed : All IsFramed replies
  pub most : length replies ≤ awaited_by lines
  pub begun : IsBegun (hex_lines replies) old new

-- why a client gives up before it is connected
abbrev pub IsUnconnected : CommandFault → Type 0
IsUnconnected (command.BadLine n) = ⊤
IsUnconnected command.NoMemory = ⊤
IsUnconnected command.Read = ⊤
IsUnconnected command.Connect = ⊤
IsUnconnected fault = ⊥

-- a fault of a client
abbrev pub IsOfDrive : CommandFault → Type 0
IsOfDrive (command.BadLine n) = ⊤
IsOfDrive command.NoMemory = ⊤
IsOfDrive command.Read = ⊤
IsOfDrive command.Write = ⊤
IsOfDrive command.Cut = ⊤
IsOfDrive command.Connect = ⊤
IsOfDrive command.BadReply = ⊤
IsOfDrive fault = ⊥
