-- What a history's text is while it goes out in pieces.
use Rattle.std.proofs.Common.{◌≡◌, ℕ, ◌+◌, ◌≤◌, List, [], ◌∷◌, ◌++◌, length, take, drop, Option, Some, refl, sym, ap}
use Rattle.std.proofs.Common.{◌∙◌, subst, get_or, take-append-drop, append_assoc, append-nil}
use Rattle.std.proofs.KnownBytes.{Appends-nil, Appends-trans, Appends-kept}
use Rattle.std.proofs.lemmas.Grind.{flat_map-append}
use Rattle.std.proofs.lemmas.List.{take_all, take_more}
use Rattle.std.proofs.lemmas.Option.{slice_get_within, unwrap_or-slice_get}
use Rattle.std.specs.Io.KnownBytes.{Appends, Keeps}
use Rattle.std.specs.List.{slice_get}
use Rattle.std.specs.Option.{unwrap_or}
use Rattle.fl_history.specs.declared.history.Line.{Line}
use Rattle.fl_stream.proofs.Streaming.{text_one}
use Rattle.fl_stream.specs.Inside.Moves.{Moves}
use Rattle.fl_stream.specs.Streams.{WroteSome}
use Rattle.fl_trace.specs.Text.{line_text, text_of}

-- of the text of the lines before a place, what didn't go out waits
pub record IsPrintedTo (lines : List Line) (at : ℕ) (waits : List ℕ) (old now : Option (List ℕ)) : Type 0 where
  pub gone : List ℕ
  pub written : Appends old now gone
  pub parts : gone ++ waits ≡ text_of (take at lines)

-- nothing yet
pub printed_none : (lines : List Line) (waits : List ℕ) (old : Option (List ℕ)) → waits ≡ [] → IsPrintedTo lines 0 waits old old
printed_none lines waits old none = record { gone = []; written = Appends-nil old; parts = none }

-- some of what waited went out
pub printed_moved : (lines : List Line) (at : ℕ) (waits waits_now : List ℕ) (old now later : Option (List ℕ))
    → IsPrintedTo lines at waits old now → Moves now later waits waits_now → IsPrintedTo lines at waits_now old later
printed_moved lines at waits waits_now old now later so moves =
    record {
      gone = so.gone ++ moves.went;
      written = Appends-trans old now later so.gone moves.went so.written moves.written;
      parts = append_assoc so.gone moves.went waits_now ∙ ap (λ u. so.gone ++ u) (sym moves.parts) ∙ so.parts;
    }

-- a line more waits
pub printed_line : (lines : List Line) (at : ℕ) (line : Line) (waits waits_now : List ℕ) (old now : Option (List ℕ))
    → IsPrintedTo lines at waits old now → slice_get lines at ≡ Some line → waits_now ≡ waits ++ (line_text line ++ 10 ∷ [])
    → IsPrintedTo lines (at + 1) waits_now old now
printed_line lines at line waits waits_now old now so is more =
    let t = line_text line ++ 10 ∷ [] in
    let there : get_or lines at line ≡ line = sym (unwrap_or-slice_get lines at line) ∙ ap (λ held. unwrap_or held line) is in
    let lines_are : take (at + 1) lines ≡ take at lines ++ line ∷ [] =
    take_more lines at line (slice_get_within lines at line is) ∙ ap (λ last. take at lines ++ last ∷ []) there in
    record {
      gone = so.gone;
      written = so.written;
      parts = ap (λ u. so.gone ++ u) more ∙ sym (append_assoc so.gone waits t) ∙ ap (λ u. u ++ t) so.parts
          ∙ sym (text_one (take at lines) line) ∙ ap text_of (sym lines_are);
    }

-- a beginning of the whole text is written
pub printed_some : (lines : List Line) (at : ℕ) (waits : List ℕ) (old now : Option (List ℕ)) → IsPrintedTo lines at waits old now
    → WroteSome (text_of lines) old now
printed_some lines at waits old now so =
    let apart : text_of (take at lines ++ drop at lines) ≡ text_of (take at lines) ++ text_of (drop at lines) =
    simp flat_map-append in
    record {
      sent = so.gone;
      rest = waits ++ text_of (drop at lines);
      written = so.written;
      parts = sym (append_assoc so.gone waits (text_of (drop at lines))) ∙ ap (λ u. u ++ text_of (drop at lines)) so.parts
          ∙ sym apart ∙ ap text_of (take-append-drop at lines);
    }

-- nothing waits behind the last line
pub printed_all : (lines : List Line) (at : ℕ) (waits : List ℕ) (old now : Option (List ℕ)) → IsPrintedTo lines at waits old now
    → length lines ≤ at → waits ≡ [] → Appends old now (text_of lines)
printed_all lines at waits old now so past none =
    subst (Appends old now)
    (sym (append-nil so.gone) ∙ ap (λ u. so.gone ++ u) (sym none) ∙ so.parts ∙ ap text_of (take_all at lines past))
    so.written

-- nothing went
pub moved_none : (held : Option (List ℕ)) (waits : List ℕ) → Moves held held waits waits
moved_none held waits = record { went = []; written = Appends-nil held; parts = refl }

-- and then the writer stayed as it was
pub moved_kept : (held held_now held_later : Option (List ℕ)) (waited waits : List ℕ) → Moves held held_now waited waits
    → Keeps held_now held_later → Moves held held_later waited waits
moved_kept held held_now held_later waited waits moves kept =
    record { went = moves.went; written = Appends-kept held held_now held_later moves.went moves.written kept; parts = moves.parts }
