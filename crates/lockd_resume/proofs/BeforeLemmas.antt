-- What is heard of the pieces before one in which a server goes on.
use Rattle.std.proofs.Common.{◌≡◌, ◌⊎◌, ◌∙◌, ◌+◌, ◌++◌, ◌∷◌, ℕ, Bool, false, true, List, [], Option, None, Some, Result, Ok, Err}
use Rattle.std.proofs.Common.{ap, inr, refl, subst, sym, length, append-nil, append_assoc}
use Rattle.std.specs.Io.KnownBytes.{Consumes}
use Rattle.std.specs.Prelude.{IfErr, IfOk, IfSome, unwrap_or}
use Rattle.std.specs.Fmt.{option_append}
use Rattle.fl_audit.specs.First.{AreWholeLines, IsSoOfAll}
use Rattle.fl_audit.specs.Opening.{AreNamed}
use Rattle.fl_audit.specs.declared.finding.Heard.{Heard}
use Rattle.fl_desk.specs.Legal.{IsLegal}
use Rattle.fl_history.specs.Place.{place_of}
use Rattle.fl_history.specs.Recent.{spoken}
use Rattle.fl_history.specs.declared.history.Line.{Line}
use Rattle.fl_history.specs.declared.place.Place.{Place}
use Rattle.fl_waiting.specs.declared.rules.Rules.{Rules}
use Rattle.lockd_faults.specs.declared.fault.CommandFault.{CommandFault}
use Rattle.lockd_faults.specs.declared.fault.CommandFault.TheVariants as command
use Rattle.lockd_resume.specs.Heard.{AreEnough, AreHeard, AreItsRules, Earlier, IsHeardBefore, IsNearest, LacksBefore, Text}
use Rattle.lockd_resume.specs.Inside.{IsHeardPiece, StandsBefore}
use Rattle.lockd_resume.specs.declared.before.LastLines.{LastLines}

-- these of the pieces were read, and these are left, if that is known
abbrev pub AreRead : Option (List Text) → Option (List Text) → List Text → Type 0
AreRead None now pieces = now ≡ None
AreRead (Some row) now pieces = (older : List Text) × ((row ≡ older ++ pieces) × (now ≡ Some older))

-- this was heard of the pieces that were read
pub record HasRead (rules : Rules) (left now : Option (List Text)) (here : List Line) (heard : Earlier) : Type 0 where
  pub pieces : List Text
  pub read : AreRead left now pieces
  pub are : AreHeard rules here pieces heard

-- what is so of a text that was read ahead in part is so of all that was left to read
so_of_left : (left after whole : Text) (bytes : List ℕ) (IsSo : List ℕ → Type 0) → Consumes left after bytes
    → whole ≡ option_append (Some bytes) after → IsSoOfAll whole IsSo → IsSoOfAll left IsSo
so_of_left None after whole bytes IsSo read is so = record { text = so.text; read = tt; is = so.is }
so_of_left (Some xs) None whole bytes IsSo read is so = absurd read
so_of_left (Some xs) (Some ys) whole bytes IsSo read is so =
    subst (λ w. IsSoOfAll w IsSo) (is ∙ ap (λ l. Some l) (sym read)) so

its_rules : (text : Text) (behind own : Rules) (named : Option Rules) → IfSome text (λ t. AreNamed t named)
    → own ≡ unwrap_or named behind → IfSome text (λ t. AreItsRules behind t own)
its_rules None behind own named are is = tt
its_rules (Some t) behind own named are is = record { named = named; are = are; is = is }

-- a judge heard a piece that was read ahead in part
pub heard_ahead : (text after whole : Text) (bytes : List ℕ) (behind rules : Rules) (heard : Heard) (named : Option Rules)
    → heard.judge.rules ≡ rules → IfSome text (λ t. AreNamed t named) → rules ≡ unwrap_or named behind
    → Consumes text after bytes → whole ≡ option_append (Some bytes) after
    → IsSoOfAll whole (λ t. AreWholeLines t heard.judge.lines heard.bytes) → heard.recent ≡ heard.judge.lines
    → IsHeardPiece text behind (rules, heard)
heard_ahead text after whole bytes behind rules heard named judged are is read chained all recent = record {
  rules = its_rules text behind rules named are is;
  judged = judged;
  whole = so_of_left text after whole bytes (λ t. AreWholeLines t heard.judge.lines heard.bytes) read chained all;
  recent = recent;
}

-- it stands before the last lines, if it is legal and ends where they begin
pub found_before : (text : Text) (place : Place) (last more : LastLines) (piece : Rules × Heard)
    → IsHeardPiece text last.rules piece → piece.0 ≡ more.rules → IsLegal piece.1.judge.rules piece.1.judge.lines
    → (place_of piece.1.judge.lines).lines + length (spoken last.recent) ≡ place.lines
    → more.past.items ≡ piece.1.judge.lines ++ last.past.items → more.recent ≡ piece.1.recent ++ last.recent
    → StandsBefore text place last more
found_before text place last more piece is same legal meets past recent = record {
  lines = piece.1.judge.lines;
  bytes = piece.1.bytes;
  rules = subst (λ r. IfSome text (λ t. AreItsRules last.rules t r)) same is.rules;
  whole = is.whole;
  legal = subst (λ r. IsLegal r piece.1.judge.lines) (is.judged ∙ same) legal;
  meets = meets;
  past = past;
  recent = recent ∙ ap (λ l. l ++ last.recent) is.recent;
}

-- what was heard of pieces, as it is kept
abbrev pub earlier : LastLines → Earlier
earlier last = record { rules = last.rules; lines = last.past.items }

none_read : (left : Option (List Text)) → AreRead left left []
none_read None = refl
none_read (Some row) = (row, (sym (append-nil row), refl))

one_read : (left now after : Option (List Text)) (pieces : List Text) (text : Text) → AreRead left now pieces
    → IsNearest now (Some text) after → AreRead left after (text ∷ pieces)
one_read None now after pieces text read near = subst (λ n. IsNearest n (Some text) after) read near
one_read (Some row) now after pieces text read near =
    let so : IsNearest (Some read.0) (Some text) after = subst (λ n. IsNearest n (Some text) after) read.1.1 near in (
      so.0,
      (
        read.1.0 ∙ ap (λ l. l ++ pieces) so.1 ∙ append_assoc so.0 (text ∷ []) pieces,
        so.2,
      ),
    )

-- those that weren't read
unread : (left now : Option (List Text)) (pieces : List Text) → AreRead left now pieces → List Text
unread None now pieces read = []
unread (Some row) now pieces read = read.0

is_row : (left now : Option (List Text)) (pieces : List Text) (read : AreRead left now pieces)
    → IfSome left (λ row. row ≡ unread left now pieces read ++ pieces)
unfolding unread
is_row None now pieces read = tt
is_row (Some row) now pieces read = read.1.0

-- no piece was read
pub nothing_heard : (rules : Rules) (left : Option (List Text)) (here : List Line) (last : LastLines) → last.rules ≡ rules
    → last.past.items ≡ [] → HasRead rules left left here (earlier last)
nothing_heard rules left here last same none = record {
  pieces = [];
  read = none_read left;
  are = ap (λ r. record { rules = r; lines = last.past.items }) same ∙ ap (λ (l : List Line). record { rules = rules; lines = l }) none;
}

-- with those of one more piece these are still the last lines
pub more_lines : (text : Text) (place : Place) (last more : LastLines) (here : List Line)
    → last.recent ≡ last.past.items ++ here → StandsBefore text place last more → more.recent ≡ more.past.items ++ here
more_lines text place last more here all stands =
    stands.recent ∙ ap (λ l. stands.lines ++ l) all ∙ sym (append_assoc stands.lines last.past.items here)
    ∙ ap (λ l. l ++ here) (sym stands.past)

-- what is so of the last lines is so of them behind a gap
pub gap_says : (r : Result LastLines CommandFault) (last now : LastLines) (allows : Bool) (Says : LastLines → Type 0)
    → IfOk r (λ it. (it ≡ now) × (allows ≡ true)) → now ≡ last → Says last → IfOk r Says
gap_says (Ok it) last now allows Says said same so = subst Says (sym (said.0 ∙ same)) so
gap_says (Err fault) last now allows Says said same so = tt

-- the fault of a gap that isn't allowed
pub gap_lacks : (r : Result LastLines CommandFault) (allows : Bool) (Lacks : Type 0)
    → IfErr r (λ fault. (fault ≡ command.Trace) × (allows ≡ false)) → Lacks
    → IfErr r (λ fault. (fault ≡ command.NoMemory) ⊎ ((fault ≡ command.Trace) × Lacks))
gap_lacks (Ok it) allows Lacks said lacks = tt
gap_lacks (Err fault) allows Lacks said lacks = inr (said.0, lacks)

module _ (rules : Rules) (left now : Option (List Text)) (here : List Line) (place : Place) (last : LastLines)
    (there : place ≡ place_of here) (all : last.recent ≡ last.past.items ++ here)
    (read : HasRead rules left now here (earlier last)) where
  lacking : (AreEnough place last.recent → ⊥) → AreEnough (place_of here) (last.past.items ++ here) → ⊥
  lacking lacks enough = lacks (subst (λ p. AreEnough p last.recent) (sym there) (subst (AreEnough (place_of here)) (sym all) enough))

  -- one more piece was read
  pub one_more : (after : Option (List Text)) (text : Text) (more : LastLines) → (AreEnough place last.recent → ⊥)
      → IsNearest now (Some text) after → StandsBefore text place last more → HasRead rules left after here (earlier more)
  one_more after text more lacks near stands = record {
    pieces = text ∷ read.pieces;
    read = one_read left now after read.pieces text read.read near;
    are = (
      earlier last,
      (
        read.are,
        record {
          lines = stands.lines;
          bytes = stands.bytes;
          lacks = lacking lacks;
          rules = stands.rules;
          whole = stands.whole;
          legal = stands.legal;
          meets = subst (λ (p : Place). (place_of stands.lines).lines + length (spoken (last.past.items ++ here)) ≡ p.lines) there
              (subst (λ l. (place_of stands.lines).lines + length (spoken l) ≡ place.lines) all stands.meets);
          all = stands.past;
        },
      ),
    );
  }

  -- it is said of what stands before
  pub heard_before : IsHeardBefore rules left here last.past.items
  heard_before = record {
    older = unread left now read.pieces read.read;
    pieces = read.pieces;
    all = is_row left now read.pieces read.read;
    first = last.rules;
    are = read.are;
  }

  -- and isn't enough
  pub lacks_before : (AreEnough place last.recent → ⊥) → LacksBefore rules left here
  lacks_before lacks = record { heard = last.past.items; before = heard_before; lacks = lacking lacks }
