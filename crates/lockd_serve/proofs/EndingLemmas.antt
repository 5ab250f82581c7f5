-- What a writer has of lines.
use Rattle.std.proofs.Common.{◌≡◌, ◌∙◌, ℕ, List, [], ◌∷◌, ◌++◌, Option, ap, append_assoc, subst, sym}
use Rattle.std.proofs.lemmas.Grind.{flat_map-append}
use mathlib.Core.List.{IsPrefix}
use Rattle.fl_history.specs.declared.history.Line.{Line}
use Rattle.fl_stream.specs.Streams.{HoldsText, Wrote}
use Rattle.fl_trace.specs.Text.{line_text, text_of}

-- a writer that has the text of lines has that of the first of them
pub fewer_there : {W : Type 0} (contents : W → Option (List ℕ)) (held : Option (List ℕ)) (fewer lines : List Line)
    → IsPrefix fewer lines → HoldsText contents held lines → HoldsText contents held fewer
fewer_there contents held fewer lines front has = record {
  rest = text_of front.0 ++ has.rest;
  wrote = subst (Wrote contents held)
      (ap (λ (ls : List Line). text_of ls ++ has.rest) (sym front.1)
      ∙ ap (λ t. t ++ has.rest) (flat_map-append (λ (line : Line). line_text line ++ 10 ∷ []) fewer front.0)
      ∙ append_assoc (text_of fewer) (text_of front.0) has.rest)
      has.wrote;
}
