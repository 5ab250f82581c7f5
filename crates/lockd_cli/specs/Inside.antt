-- What a command line asks for, step by step: by the texts that `clap` found for its options. No contract of a public
-- function cites these definitions.
use Rattle.std.specs.Prelude.{◌≡◌, ◌≢◌, ◌≤◌, ◌<◌, ◌^◌, ◌⊎◌, ℕ, Bool, true, false, List, [], Option, None, Some, codes}
use Rattle.std.specs.Prelude.{map, option_map, unwrap_or}
use Rattle.std.specs.Str.Parse.{IsNumeral, digits_value, without_leading_plus}
use Rattle.std.specs.String.{string_bytes}
use Rattle.clap.specs.Words.{Text, first_value, found_of, matched_of, one_text, raw_values, rows_of, subcommand_name_of}
use Rattle.clap.specs.Words.{subcommand_rows_of}
use Rattle.clap.specs.declared.parser.matches.ArgMatches.{ArgMatches}
use Rattle.clap.specs.declared.parser.matches.Found.{Found}
use Rattle.fl_waiting.specs.Limits.{AllowsFiles, AllowsOpen, AllowsParked, AllowsRuns}
use Rattle.fl_waiting.specs.Waiting.{standard}
use Rattle.fl_waiting.specs.declared.rules.Rules.{Rules}
use Rattle.lockd_cli.specs.declared.options.Asked.{Asked}
use Rattle.lockd_cli.specs.declared.options.Asked.TheVariants as asked
use Rattle.lockd_cli.specs.declared.options.Trace.{Trace}
use Rattle.lockd_cli.specs.declared.options.Trace.TheVariants as trace
use Rattle.lockd_cli.specs.declared.options.WhenFull.{WhenFull}
use Rattle.lockd_cli.specs.declared.options.WhenFull.TheVariants as full
use Rattle.lockd_cli.specs.declared.options.WhenStuck.{WhenStuck}
use Rattle.lockd_cli.specs.declared.options.WhenStuck.TheVariants as stuck
use Rattle.lockd_cli.specs.declared.rotation.Rotation.{Rotation}
use Rattle.lockd_cli.specs.declared.said_rules.SaidRules.{SaidRules}

-- the text is digits that write this number; a plus may stand first
abbrev pub Spells : List ℕ → ℕ → Type 0
Spells text n = IsNumeral 10 (without_leading_plus text) × (digits_value 10 (without_leading_plus text) ≡ n)

-- a server may have so many workers
abbrev pub AllowsWorkers : ℕ → Type 0
AllowsWorkers workers = (1 ≤ workers) × (workers ≤ 16)

-- the option's number is the one that its text spells, if that is allowed, and the standard one if it has no text
abbrev pub IsNumberOf : Option (List ℕ) → (ℕ → Type 0) → ℕ → ℕ → Type 0
IsNumberOf None Allows usual number = number ≡ usual
IsNumberOf (Some text) Allows usual number = (n : ℕ) → Spells text n → Allows n → number ≡ n

-- the option's number is the one that its text spells, and none if it has no text
abbrev pub IsNumberSaid : Option (List ℕ) → Option ℕ → Type 0
IsNumberSaid None said = said ≡ None
IsNumberSaid (Some text) said = (n : ℕ) → Spells text n → n < 2 ^ 32 → said ≡ Some n

-- a server has so many workers if none are said: one in a whole session, and else four
abbrev pub workers_unsaid : Bool → ℕ
workers_unsaid true = 1
workers_unsaid false = 4

-- several workers are said
abbrev pub AreSeveral : Option (List ℕ) → Type 0
AreSeveral None = ⊥
AreSeveral (Some text) = (n : ℕ) → Spells text n → AllowsWorkers n → 2 ≤ n

-- a new piece may be due at so many bytes
abbrev pub AllowsBytes : ℕ → Type 0
AllowsBytes bytes = (1 ≤ bytes) × (bytes < 2 ^ 32)

-- so many pieces may stay
abbrev pub AllowsKept : ℕ → Type 0
AllowsKept pieces = (2 ≤ pieces) × (pieces < 2 ^ 32)

-- a new piece is due at so many bytes as the option's text spells, if that is allowed
abbrev pub IsDueAt : Option (List ℕ) → ℕ → Type 0
IsDueAt said bytes = (text : List ℕ) (n : ℕ) → said ≡ Some text → Spells text n → AllowsBytes n → bytes ≡ n

-- so many pieces stay as the option's text spells, if that is allowed, and all if it has no text
abbrev pub AreKept : Option (List ℕ) → Option ℕ → Type 0
AreKept None kept = kept ≡ None
AreKept (Some text) kept = (n : ℕ) → Spells text n → AllowsKept n → kept ≡ Some n

-- the flag is set if its text is true, and not if that is false or there is none
abbrev pub IsFlagOf : Option (List ℕ) → Bool → Type 0
IsFlagOf text flag =
    (text ≡ None → flag ≡ false) × (text ≡ Some (codes "true") → flag ≡ true)
    × (text ≡ Some (codes "false") → flag ≡ false)

-- the rules that these options say, and the standard ones of which they say nothing
abbrev pub SayRules : Found → Rules → Type 0
SayRules found rules =
    IsFlagOf (one_text found (codes "fair")) rules.fair × IsFlagOf (one_text found (codes "whole")) rules.whole
    × IsNumberOf (one_text found (codes "runs")) AllowsRuns standard.runs rules.runs
    × IsNumberOf (one_text found (codes "parked")) AllowsParked standard.parked rules.parked
    × IsNumberOf (one_text found (codes "files")) AllowsFiles standard.files rules.files
    × IsNumberOf (one_text found (codes "open")) AllowsOpen standard.open_files rules.open_files

-- the options say these rules, and nothing of those that are none here
abbrev pub SayOwnRules : Found → SaidRules → Type 0
SayOwnRules found rules =
    IsFlagOf (one_text found (codes "fair")) rules.fair × IsFlagOf (one_text found (codes "whole")) rules.whole
    × IsNumberSaid (one_text found (codes "runs")) rules.runs
    × IsNumberSaid (one_text found (codes "parked")) rules.parked
    × IsNumberSaid (one_text found (codes "files")) rules.files
    × IsNumberSaid (one_text found (codes "open")) rules.open_files

-- the word that is said of a file that can't be written, and the standard one if none is
abbrev pub full_said : Found → Text → Text
full_said found standard = unwrap_or (first_value found (codes "trace-full")) standard

-- the word isn't one for a file of `--trace`
abbrev pub IsNotForTrace : Found → Type 0
IsNotForTrace found =
    (full_said found (codes "go-on") ≢ codes "go-on") × (full_said found (codes "go-on") ≢ codes "refuse")

-- the word isn't one for a file of `--resume`, or of a trace in pieces
abbrev pub IsNotForResume : Found → Type 0
IsNotForResume found = (full_said found (codes "wait") ≢ codes "wait") × (full_said found (codes "wait") ≢ codes "end")

-- orders go on if that or nothing is said, and are refused if that is
abbrev pub SaysWhenFull : Found → WhenFull → Type 0
SaysWhenFull found full.GoOn = full_said found (codes "go-on") ≡ codes "go-on"
SaysWhenFull found full.Refuse = full_said found (codes "go-on") ≡ codes "refuse"

-- the session waits if that or nothing is said, and ends if that is
abbrev pub SaysWhenStuck : Found → WhenStuck → Type 0
SaysWhenStuck found stuck.Wait = full_said found (codes "wait") ≡ codes "wait"
SaysWhenStuck found stuck.End = full_said found (codes "wait") ≡ codes "end"

-- nothing is said of a file that can't be written
abbrev pub SaysNoFull : Found → Type 0
SaysNoFull found = first_value found (codes "trace-full") ≡ None

-- Where these options send the trace: nowhere at the word none, and else to the file of that name. Only of a file does
-- `--trace-full` say something.
abbrev pub SaysTrace : Found → Trace → Type 0
SaysTrace found trace.Printed = (first_value found (codes "trace") ≡ None) × SaysNoFull found
SaysTrace found trace.Nowhere = (first_value found (codes "trace") ≡ Some (codes "none")) × SaysNoFull found
SaysTrace found (trace.File path full) =
    (first_value found (codes "trace") ≡ Some (string_bytes path)) × (string_bytes path ≢ codes "none")
    × SaysWhenFull found full

-- no new file is named for the trace: it is printed, or goes nowhere
abbrev pub NamesNoFile : Found → Type 0
NamesNoFile found =
    (first_value found (codes "trace") ≡ None) ⊎ (first_value found (codes "trace") ≡ Some (codes "none"))

-- a word is said that isn't one for a file of `--trace`, or any if there is no such file
abbrev pub MisfitsTrace : Found → Type 0
MisfitsTrace found = IsNotForTrace found ⊎ (NamesNoFile found × ¬ SaysNoFull found)

-- a trace in pieces is asked for that begins in a new file
abbrev pub BeginsPieces : Found → Type 0
BeginsPieces found =
    (first_value found (codes "resume") ≡ None) × (first_value found (codes "rotate") ≢ None) × ¬ NamesNoFile found

-- a word is said that isn't one for the trace's file: that of `--resume` or of a trace in pieces, or else that of
-- `--trace`
abbrev pub Misfits : Found → Type 0
Misfits found =
    (((first_value found (codes "resume") ≢ None) ⊎ BeginsPieces found) × IsNotForResume found)
    ⊎ ((first_value found (codes "resume") ≡ None) × (first_value found (codes "rotate") ≡ None) × MisfitsTrace found)

-- nothing is said of pieces
abbrev pub SaysNoPieces : Found → Type 0
SaysNoPieces found = (first_value found (codes "rotate") ≡ None) × (first_value found (codes "keep") ≡ None)

-- A new piece is due at the bytes that `--rotate` says, and so many stay as `--keep` says. Without a rotation nothing
-- is said of pieces.
abbrev pub SaysRotation : Found → Option Rotation → Type 0
SaysRotation found None = SaysNoPieces found
SaysRotation found (Some rotation) =
    (first_value found (codes "rotate") ≢ None) × IsDueAt (one_text found (codes "rotate")) rotation.bytes
    × AreKept (one_text found (codes "keep")) rotation.keep

-- An option of pieces lacks the one that it needs: `--rotate` lacks a file, `--keep` lacks `--rotate`, or `--allow-gap`
-- lacks `--resume`.
abbrev pub MisfitsPieces : Found → Type 0
MisfitsPieces found =
    ((first_value found (codes "rotate") ≢ None) × (first_value found (codes "resume") ≡ None) × NamesNoFile found)
    ⊎ ((first_value found (codes "keep") ≢ None) × (first_value found (codes "rotate") ≡ None))
    ⊎ (IsFlagOf (one_text found (codes "allow-gap")) true × (first_value found (codes "resume") ≡ None))

-- several workers are said of a trace in pieces, or of a whole session
abbrev pub MisfitsWorkers : Found → Type 0
MisfitsWorkers found =
    (BeginsPieces found ⊎ IsFlagOf (one_text found (codes "whole")) true)
    × AreSeveral (one_text found (codes "workers"))

-- The file that one worker writes, and goes on in if it isn't new: that of `--resume`, or the new one of a trace in
-- pieces, with which one worker is said, or none.
abbrev pub NamesFile : Found → Bool → Text → Type 0
NamesFile found false file = first_value found (codes "resume") ≡ Some file
NamesFile found true file =
    BeginsPieces found × (first_value found (codes "trace") ≡ Some file)
    × IsNumberOf (one_text found (codes "workers")) AllowsWorkers 1 1

-- the path that is said for the socket
abbrev pub socket_said : Found → List ℕ
socket_said found = unwrap_or (first_value found (codes "SOCKET")) []

-- the paths that are said for pieces
abbrev pub pieces_said : Found → List Text
pieces_said found = unwrap_or (option_map raw_values (matched_of found (codes "PIECE"))) []

-- what options of its command ask for
abbrev pub Ask : Found → Asked → Type 0
Ask found (asked.Script rules) = SayRules found rules
Ask found (asked.Bytes rules) = SayRules found rules
Ask found (asked.State rules) = SayOwnRules found rules
Ask found (asked.Check pieces quiet cut rules) =
    (map string_bytes pieces.items ≡ pieces_said found)
    × IsFlagOf (one_text found (codes "quiet")) quiet × IsFlagOf (one_text found (codes "cut")) cut
    × SayOwnRules found rules
Ask found (asked.Locks at file json rules) =
    IsNumberSaid (one_text found (codes "at")) at
    × (option_map string_bytes file ≡ first_value found (codes "file"))
    × IsFlagOf (one_text found (codes "json")) json × SayOwnRules found rules
Ask found (asked.Serve socket workers trace rules) =
    (string_bytes socket ≡ socket_said found)
    × IsNumberOf (one_text found (codes "workers")) AllowsWorkers (workers_unsaid rules.whole) workers
    × SaysTrace found trace × SayRules found rules × (first_value found (codes "resume") ≡ None) × SaysNoPieces found
    × IsFlagOf (one_text found (codes "allow-gap")) false
Ask found (asked.Resume socket file new gap stuck rotation rules) =
    (string_bytes socket ≡ socket_said found) × NamesFile found new (string_bytes file)
    × IsFlagOf (one_text found (codes "allow-gap")) gap × SaysWhenStuck found stuck
    × SaysRotation found rotation × SayOwnRules found rules
Ask found (asked.Drive socket) = string_bytes socket ≡ socket_said found
Ask found asked.Version = ⊥

-- the word that asks for it
abbrev pub word_of : Asked → Text
word_of (asked.Script rules) = codes "script"
word_of (asked.Bytes rules) = codes "bytes"
word_of (asked.State rules) = codes "state"
word_of (asked.Check pieces quiet cut rules) = codes "check"
word_of (asked.Locks at file json rules) = codes "locks"
word_of (asked.Serve socket workers trace rules) = codes "serve"
word_of (asked.Resume socket file new gap stuck rotation rules) = codes "serve"
word_of (asked.Drive socket) = codes "drive"
word_of asked.Version = codes "--version"

-- the command of this name was said, with these options
abbrev pub IsSaid : ArgMatches → Text → Found → Type 0
IsSaid matches name found = subcommand_rows_of matches ≡ Some (name, rows_of found)

-- no command was said, or none of these
abbrev pub SaysNone : Option Text → Type 0
SaysNone said =
    (said ≢ Some (codes "script")) × (said ≢ Some (codes "bytes")) × (said ≢ Some (codes "check"))
    × (said ≢ Some (codes "locks")) × (said ≢ Some (codes "state")) × (said ≢ Some (codes "serve"))
    × (said ≢ Some (codes "drive"))

-- The words that `clap` took ask for this: by its command and the options of that, or for `script` by options alone, if
-- no command was said.
abbrev pub AsksFor : ArgMatches → Asked → Type 0
AsksFor matches it =
    ((found : Found) × IsSaid matches (word_of it) found × Ask found it)
    ⊎ (SaysNone (subcommand_name_of matches) × (word_of it ≡ codes "script") × Ask (found_of matches) it)

-- These options ask for more lines on standard error, or don't: those of the command that was said, or those that stand
-- alone, if none was.
abbrev pub AsksMore : ArgMatches → Bool → Type 0
AsksMore matches verbose =
    ((name : Text) × (found : Found) × IsSaid matches name found × IsFlagOf (one_text found (codes "verbose")) verbose)
    ⊎ ((subcommand_name_of matches ≡ None) × IsFlagOf (one_text (found_of matches) (codes "verbose")) verbose)
