-- How a client's command ends.
use Rattle.std.proofs.Common.{◌≡◌, ◌≢◌, ◌⊎◌, inl, inr, ℕ, ◌+◌, List, [], ◌∷◌, refl, sym, ap, subst}
use Rattle.std.proofs.Common.{◌∙◌, arith, Option, Some, None, IfSome, IsOk, Ok, Err}
use Rattle.std.proofs.KnownBytes.{Appends-nil, Keeps-refl}
use Rattle.std.specs.Io.KnownBytes.{Keeps}
use Rattle.std.proofs.lemmas.List.Elements.{All-nil}
use Rattle.std.proofs.lemmas.List.Sums.{sum_by-append, sum_by-cons}
use Rattle.lockd_drive.specs.Drive.{Said, Waits, awaited, awaited_by, text_says, ArePrinted, IsFramed, IsDriven}
use Rattle.lockd_drive.specs.Drive.{IsCutShort, IsDrivenInPart}
use Rattle.lockd_drive.specs.Drive.Inside.{Did, HasBegun, HasDone, HasPrinted, HasReceived, HasStopped, TextFaults}
use Rattle.lockd_faults.specs.declared.fault.CommandFault.{CommandFault}
use Rattle.lockd_faults.specs.declared.fault.CommandFault.TheVariants as command

-- what holds of the text that was read
read_as : (left : Option (List ℕ)) (text : List ℕ) (P : List ℕ → Type 0) → IfSome left (λ bytes. bytes ≡ text) → P text
    → IfSome left P
read_as None text P read p = tt
read_as (Some bytes) text P read p = subst P (sym read) p

printed_none : (old : Option (List ℕ)) → HasPrinted old old
printed_none old = record {
  n = 0;
  printed = record { replies = []; framed = All-nil IsFramed; number = refl; written = Appends-nil old };
}

-- the input can't be read
pub did_not_read : (left old : Option (List ℕ)) (fault : CommandFault) → (fault ≡ command.NoMemory) ⊎ (fault ≡ command.Read)
    → Did left old old (Err fault)
did_not_read left old fault (inl e) = subst (λ f. Did left old old (Err f)) (sym e) (printed_none old)
did_not_read left old fault (inr e) = subst (λ f. Did left old old (Err f)) (sym e) (printed_none old)

-- a text that isn't good, or memory ran out
pub did_not_begin : (left old : Option (List ℕ)) (text : List ℕ) (fault : CommandFault) → IfSome left (λ bytes. bytes ≡ text)
    → TextFaults text fault → Did left old old (Err fault)
did_not_begin left old text (command.BadLine n) read bad =
    (read_as left text (λ text. text_says text ≡ Err n) read bad, Keeps-refl old)
did_not_begin left old text command.NoMemory read bad = printed_none old
did_not_begin left old text command.NoReader read bad = absurd bad
did_not_begin left old text command.Read read bad = absurd bad
did_not_begin left old text command.Write read bad = absurd bad
did_not_begin left old text command.Cut read bad = absurd bad
did_not_begin left old text (command.BadLength n) read bad = absurd bad
did_not_begin left old text command.Listen read bad = absurd bad
did_not_begin left old text command.Connect read bad = absurd bad
did_not_begin left old text command.BadReply read bad = absurd bad
did_not_begin left old text command.Trace read bad = absurd bad
did_not_begin left old text command.TraceFailed read bad = absurd bad
did_not_begin left old text (command.Differs n) read bad = absurd bad

is_good : (text : List ℕ) (lines : List Said) → text_says text ≡ Ok lines → IsOk (text_says text)
is_good text lines said = rw said refl

-- there is no connection
pub did_not_connect : (left old : Option (List ℕ)) (text : List ℕ) (lines : List Said) (fault : CommandFault)
    → IfSome left (λ bytes. bytes ≡ text) → text_says text ≡ Ok lines → fault ≡ command.Connect
    → Did left old old (Err fault)
did_not_connect left old text lines fault read said e =
    subst (λ f. Did left old old (Err f)) (sym e)
    (read_as left text (λ text. IsOk (text_says text)) read (is_good text lines said), Keeps-refl old)

are_printed : (n : ℕ) (behind : List ℕ) (left left_now old new : Option (List ℕ))
    → HasReceived n behind left left_now old new → ArePrinted n old new
are_printed n behind left left_now old new r = record {
  replies = r.replies;
  framed = r.framed;
  number = r.number;
  written = r.written;
}

-- all was done
pub did_all : (input old new left left_now held held_now : Option (List ℕ)) (text : List ℕ) (lines : List Said)
    → IfSome input (λ bytes. bytes ≡ text) → text_says text ≡ Ok lines
    → HasDone lines left left_now held held_now old new → IsDriven input old new
did_all input old new left left_now held held_now text lines read said d = record {
  text = text;
  lines = lines;
  read = read;
  said = said;
  printed = are_printed (awaited_by lines) [] left left_now old new d.received;
}

-- replies didn't come
cut_short : (input old new left left_now held held_now : Option (List ℕ)) (text : List ℕ) (lines : List Said) (fault : CommandFault)
    → IfSome input (λ bytes. bytes ≡ text) → text_says text ≡ Ok lines
    → HasStopped lines fault left left_now held held_now old new → IsCutShort input old new
cut_short input old new left left_now held held_now text lines fault read said s =
    let some = s.fewer in
    let sum : awaited_by lines ≡ awaited_by s.done + awaited_by (Waits s.count ∷ s.later) =
    ap awaited_by s.parts ∙ sum_by-append awaited s.done (Waits s.count ∷ s.later) in
    let one : awaited_by (Waits s.count ∷ s.later) ≡ s.count + awaited_by s.later =
    sum_by-cons awaited (Waits s.count) s.later in
    record {
      text = text;
      lines = lines;
      got = awaited_by s.done + s.got;
      read = read;
      said = said;
      fewer = omega (arith, sum, one);
      printed = are_printed (awaited_by s.done + s.got) s.behind left left_now old new s.received;
    }

stopped_printed : (old new left left_now held held_now : Option (List ℕ)) (lines : List Said) (fault : CommandFault)
    → HasStopped lines fault left left_now held held_now old new → HasPrinted old new
stopped_printed old new left left_now held held_now lines fault s = record {
  n = awaited_by s.done + s.got;
  printed = are_printed (awaited_by s.done + s.got) s.behind left left_now old new s.received;
}

pub did_stop : (input old new left left_now held held_now : Option (List ℕ)) (text : List ℕ) (lines : List Said) (fault : CommandFault)
    → IfSome input (λ bytes. bytes ≡ text) → text_says text ≡ Ok lines
    → (fault ≢ command.Write → HasStopped lines fault left left_now held held_now old new)
    → Did input old new (Err fault)
did_stop input old new left left_now held held_now text lines command.Cut read said stop =
    cut_short input old new left left_now held held_now text lines command.Cut read said (stop (λ e. absurd (cc e)))
did_stop input old new left left_now held held_now text lines command.BadReply read said stop =
    cut_short input old new left left_now held held_now text lines command.BadReply read said (stop (λ e. absurd (cc e)))
did_stop input old new left left_now held held_now text lines command.NoMemory read said stop =
    stopped_printed old new left left_now held held_now lines command.NoMemory (stop (λ e. absurd (cc e)))
did_stop input old new left left_now held held_now text lines command.NoReader read said stop =
    absurd (stop (λ e. absurd (cc e))).why
did_stop input old new left left_now held held_now text lines command.Read read said stop =
    stopped_printed old new left left_now held held_now lines command.Read (stop (λ e. absurd (cc e)))
did_stop input old new left left_now held held_now text lines command.Write read said stop =
    read_as input text (λ text. IsOk (text_says text)) read (is_good text lines said)
did_stop input old new left left_now held held_now text lines (command.BadLine n) read said stop =
    absurd (stop (λ e. absurd (cc e))).why
did_stop input old new left left_now held held_now text lines (command.BadLength n) read said stop =
    absurd (stop (λ e. absurd (cc e))).why
did_stop input old new left left_now held held_now text lines command.Listen read said stop =
    absurd (stop (λ e. absurd (cc e))).why
did_stop input old new left left_now held held_now text lines command.Connect read said stop =
    absurd (stop (λ e. absurd (cc e))).why
did_stop input old new left left_now held held_now text lines command.Trace read said stop =
    absurd (stop (λ e. absurd (cc e))).why
did_stop input old new left left_now held held_now text lines command.TraceFailed read said stop =
    absurd (stop (λ e. absurd (cc e))).why
did_stop input old new left left_now held held_now text lines (command.Differs n) read said stop =
    absurd (stop (λ e. absurd (cc e))).why

-- nothing was printed
pub in_part_none : (input old : Option (List ℕ)) → Keeps old old ⊎ IsDrivenInPart input old old
in_part_none input old = inl (Keeps-refl old)

-- a beginning was printed of what these lines wait for
pub in_part : (input old new left left_now : Option (List ℕ)) (text : List ℕ) (lines : List Said)
    → IfSome input (λ bytes. bytes ≡ text) → text_says text ≡ Ok lines
    → HasBegun (awaited_by lines) left left_now old new → Keeps old new ⊎ IsDrivenInPart input old new
in_part input old new left left_now text lines read said b = inr (record {
  text = text;
  lines = lines;
  replies = b.replies;
  read = read;
  said = said;
  framed = b.framed;
  most = b.most;
  begun = b.begun;
})
