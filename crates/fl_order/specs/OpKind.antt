-- The kinds of message that are told apart, with their numbers (`enum fuse_opcode` of Linux `fuse.h`), their words in
-- the text of a trace, and the shapes of their bodies.
use Rattle.std.specs.Prelude.{◌≡◌, ◌↔◌, ℕ, ◌==◌, Bool, true, false, Option, Some, List, [], ◌∷◌, Result, Ok, Err, codes}
use Rattle.std.specs.Prelude.{if◌then◌else◌}
use Rattle.std.specs.List.{find}
use Rattle.std.specs.Str.{bytes_eq}
use Rattle.fl_order.specs.declared.body.Shape.{Shape}
use Rattle.fl_order.specs.declared.body.Shape.TheVariants as shape
use Rattle.fl_order.specs.declared.errno.Errno.{Errno}
use Rattle.fl_order.specs.declared.errno.Errno.TheVariants.{EPROTO}
use Rattle.fl_order.specs.declared.kind.OpKind.{OpKind}
use Rattle.fl_order.specs.declared.kind.OpKind.TheVariants.{Lookup, Forget, Getattr, Unlink, Open, Release, Flush, Init}
use Rattle.fl_order.specs.declared.kind.OpKind.TheVariants.{Getlk, Setlk, Setlkw, Create, Interrupt, Destroy}
use Rattle.fl_order.specs.declared.kind.OpKind.TheVariants.{BatchForget, Mknod, Mkdir, Rmdir}
use Rattle.fl_order.specs.declared.refusal.Refusal.{Refusal}
use Rattle.fl_order.specs.declared.refusal.Refusal.TheVariants.{Answer, Silent, Destroy as Ends}

-- each kind once
abbrev pub all_kinds : List OpKind
all_kinds =
    Lookup ∷ Forget ∷ Getattr ∷ Unlink ∷ Open ∷ Release ∷ Flush ∷ Init ∷ Getlk ∷ Setlk ∷ Setlkw ∷ Create ∷ Interrupt
    ∷ Destroy
    ∷ BatchForget ∷ Mknod ∷ Mkdir ∷ Rmdir ∷ []

-- the number in a message's header, the word in a trace's line, and the shape of the body; if its messages are no
-- orders, how they are refused
pub record Signature : Type 0 where
  pub opcode : ℕ
  pub word : List ℕ
  pub shape : Result Shape Refusal

-- the signature of these three
abbrev pub signature : ℕ → List ℕ → Result Shape Refusal → Signature
signature opcode word shape = record { opcode = opcode; word = word; shape = shape }

-- what is known of a kind
abbrev pub signature_of : OpKind → Signature
signature_of Lookup = signature 1 (codes "lookup") (Ok shape.Name)
signature_of Forget = signature 2 (codes "forget") (Ok shape.Number)
signature_of Getattr = signature 3 (codes "getattr") (Ok shape.Getattr)
signature_of Unlink = signature 10 (codes "unlink") (Ok shape.Name)
signature_of Open = signature 14 (codes "open") (Ok shape.Open)
signature_of Release = signature 18 (codes "release") (Ok shape.Release)
signature_of Flush = signature 25 (codes "flush") (Ok shape.Flush)
signature_of Init = signature 26 (codes "init") (Err (Answer EPROTO))
signature_of Getlk = signature 31 (codes "getlk") (Ok shape.Lock)
signature_of Setlk = signature 32 (codes "setlk") (Ok shape.Lock)
signature_of Setlkw = signature 33 (codes "setlkw") (Ok shape.Lock)
signature_of Create = signature 35 (codes "create") (Ok shape.Create)
signature_of Interrupt = signature 36 (codes "interrupt") (Ok shape.Number)
signature_of Destroy = signature 38 (codes "destroy") (Err Ends)
signature_of BatchForget = signature 42 (codes "batch_forget") (Err Silent)
signature_of Mknod = signature 8 (codes "mknod") (Ok shape.Make)
signature_of Mkdir = signature 9 (codes "mkdir") (Ok shape.Make)
signature_of Rmdir = signature 11 (codes "rmdir") (Ok shape.Name)

-- the number that a message's header has
abbrev pub opcode_for : OpKind → ℕ
opcode_for kind = (signature_of kind).opcode

-- the word that a trace's line has
abbrev pub word_for : OpKind → List ℕ
word_for kind = (signature_of kind).word

-- the shape of a body; if a message is no order, how it is refused
abbrev pub shape_for : OpKind → Result Shape Refusal
shape_for kind = (signature_of kind).shape

-- a kernel waits for no reply to a message of this kind
abbrev pub is_silent : OpKind → Bool
is_silent Forget = true
is_silent BatchForget = true
is_silent _ = false

-- how a message is refused that has this fault
abbrev pub refusal_for : OpKind → Errno → Refusal
refusal_for kind e = if is_silent kind then Silent else Answer e

-- the kind that has this number
abbrev pub kind_of_opcode : ℕ → Option OpKind
kind_of_opcode opcode = find (λ kind. opcode_for kind == opcode) all_kinds

-- the kind that has this word
abbrev pub kind_of_word : List ℕ → Option OpKind
kind_of_word word = find (λ kind. bytes_eq (word_for kind) word) all_kinds

-- a kind is found exactly by its own mark, and two kinds never share one
pub record IsFoundBy {Mark : Type 0} (mark_of : OpKind → Mark) (mark : Mark) (found : Option OpKind) : Type 0 where
  pub own : (kind : OpKind) → (found ≡ Some kind) ↔ (mark_of kind ≡ mark)
  pub apart : (kind other : OpKind) → mark_of kind ≡ mark_of other → kind ≡ other
