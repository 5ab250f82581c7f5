-- What is said of a session behind lines, of what came back of it; and what a writer has of lines.
use Rattle.std.proofs.Common.{◌≡◌, ◌∙◌, ℕ, Bool, List, [], ◌∷◌, ◌++◌, Option, Some, ap, append_assoc, subst, sym}
use Rattle.std.proofs.lemmas.Grind.{flat_map-append}
use Rattle.std.specs.Prelude.{IfSome}
use mathlib.Core.List.{IsPrefix}
use Rattle.fl_history.specs.declared.history.Line.{Line}
use Rattle.fl_session.specs.Recorded.{done_of, journal_lines}
use Rattle.fl_session.specs.Served.{IsServedAheadBehind}
use Rattle.fl_session.specs.declared.done.Done.{Done}
use Rattle.fl_session.specs.declared.recorded.Recorded.{Recorded}
use Rattle.fl_stream.specs.Streams.{HoldsText, Wrote}
use Rattle.fl_trace.specs.Text.{line_text, text_of}
use Rattle.fl_transport.specs.Streams.{Streams}
use Rattle.fl_waiting.specs.declared.rules.Rules.{Rules}

-- what is so of a journal that came back
pub so_of : {K : Type 0} (IsSo : K → Type 0) (back : Option K) (journal : K) → back ≡ Some journal
    → IfSome back IsSo → IsSo journal
so_of IsSo back journal is so = subst (λ j. IfSome j IsSo) is so

-- a writer that has the text of lines has that of the first of them
pub fewer_there : {W : Type 0} (contents : W → Option (List ℕ)) (held : Option (List ℕ)) (fewer lines : List Line)
    → IsPrefix fewer lines → HoldsText contents held lines → HoldsText contents held fewer
fewer_there contents held fewer lines front has = record {
  rest = text_of front.0 ++ has.rest;
  wrote = subst (Wrote contents held)
      (ap (λ (ls : List Line). text_of ls ++ has.rest) (sym front.1)
      ∙ ap (λ t. t ++ has.rest) (flat_map-append (λ (line : Line). line_text line ++ 10 ∷ []) fewer front.0)
      ∙ append_assoc (text_of fewer) (text_of front.0) has.rest)
      has.wrote;
}

-- what is said of a session whose journal came back, with its lines
pub served_as : {K : Type 0} (lines stored : K → List Line) (rules : Rules) (before heard now base : List Line) (streams : Streams)
    (broken : Bool) (it : Recorded K) (journal : K) (all : List Line) → it.journal ≡ Some journal → before ≡ heard
    → now ≡ base → all ≡ lines journal
    → IfSome it.journal (λ j. IsServedAheadBehind rules before now streams broken (done_of lines it) (stored j))
    → IsServedAheadBehind rules heard base streams broken (record { history = all; fault = it.fault; refused = it.refused })
    (stored journal)
served_as {K} lines stored rules before heard now base streams broken it journal all is heard_same same whole so =
    let as_done : Option K → Done =
    λ j. record { history = journal_lines lines j; fault = it.fault; refused = it.refused } in
    let IsSo : K → Type 0 = λ j. IsServedAheadBehind rules before now streams broken (done_of lines it) (stored j) in
    let first = so_of IsSo it.journal journal is so in
    let there = subst (λ j. IsServedAheadBehind rules before now streams broken (as_done j) (stored journal)) is first in
    let P : List Line → List Line → Type 0 =
    λ h b. IsServedAheadBehind rules h b streams broken (as_done (Some journal)) (stored journal) in
    let behind = subst (P heard) same (subst (λ h. P h now) heard_same there) in
    subst (λ h. IsServedAheadBehind rules heard base streams broken
    (record { history = h; fault = it.fault; refused = it.refused }) (stored journal)) (sym whole) behind
