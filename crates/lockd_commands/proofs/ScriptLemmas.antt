-- Ask lines among the lines of a history.
use Rattle.std.proofs.Common.{◌≡◌, ℕ, ◌+◌, ◌<◌, List, [], ◌∷◌, ◌++◌, ap, sym, ◌∙◌, refl, subst, arith, map, filter}
use Rattle.std.proofs.Common.{length, take, get_or, append_assoc, All}
use Rattle.std.proofs.lemmas.Grind.{flat_map-append}
use Rattle.std.proofs.lemmas.List.{take_more, map-append, length-map}
use Rattle.std.proofs.lemmas.List.Elements.{All-cons, All-append, filter-append}
use Rattle.fl_desk.specs.Legal.{is_asked}
use Rattle.fl_history.specs.declared.history.Line.{Line}
use Rattle.fl_history.specs.declared.history.Line.TheVariants.{Told}
use Rattle.fl_order.specs.declared.told.Told.{Told as Reply}
use Rattle.fl_trace.specs.Text.{line_text, text_of, LineFits, Fits, BreaksAt}
use Rattle.lockd_commands.specs.Script.{line_of, IsAskLine}
use Rattle.lockd_commands.specs.declared.script.AskLine.{AskLine}

-- ask lines can be read back
pub fits_of_asks : (lines asks : List Line) → lines ≡ asks → All IsAskLine asks → Fits lines
fits_of_asks lines asks same all k d below =
    subst (λ (l : List Line). LineFits (get_or l k d)) (sym same) (all k d (subst (λ (l : List Line). k < length l) same below)).0

-- replies ask nothing
pub filter-told : (tolds : List Reply) → filter is_asked (map (λ told. Told told) tolds) ≡ []
filter-told [] = refl
filter-told (told ∷ tolds) = filter-told tolds

-- ask lines all ask
pub filter-asks : (asks : List AskLine) → filter is_asked (map line_of asks) ≡ map line_of asks
filter-asks [] = refl
filter-asks (ask ∷ asks) = ap (λ lines. line_of ask ∷ lines) (filter-asks asks)

-- the script is the ask lines that are read and the rest
pub record IsReadSoFar (script : List ℕ) (asks : List AskLine) (rest : List ℕ) : Type 0 where
  pub spelled : script ≡ text_of (map line_of asks) ++ rest
  pub fits : All IsAskLine (map line_of asks)

pub read_more : (script rest after : List ℕ) (asks : List AskLine) (ask : AskLine) → IsReadSoFar script asks rest
    → rest ≡ line_text (line_of ask) ++ 10 ∷ after → IsAskLine (line_of ask) → IsReadSoFar script (asks ++ ask ∷ []) after
read_more script rest after asks ask read line fits =
    let more : text_of (map line_of (asks ++ ask ∷ [])) ++ after ≡ text_of (map line_of asks) ++ (line_text (line_of ask) ++ 10 ∷ after) =
    simp (map-append, flat_map-append, append_assoc) in
    let one : All IsAskLine (line_of ask ∷ []) = All-cons IsAskLine (line_of ask) [] fits (λ k d below. absurd (omega arith)) in
    record {
      spelled = read.spelled ∙ ap (λ left. text_of (map line_of asks) ++ left) line ∙ sym more;
      fits = rw map-append (All-append IsAskLine (map line_of asks) (line_of ask ∷ []) read.fits one);
    }

pub breaks : (script rest : List ℕ) (asks : List AskLine) (n : ℕ) → IsReadSoFar script asks rest → 0 < length rest → n ≡ length asks + 1
    → ((line : Line) (after : List ℕ) → IsAskLine line → rest ≡ line_text line ++ 10 ∷ after → ⊥) → BreaksAt IsAskLine script n
breaks script rest asks n read more number bad = record {
  front = map line_of asks;
  rest = rest;
  good = read.fits;
  parts = read.spelled;
  number = number ∙ ap (λ k. k + 1) (sym (length-map asks line_of));
  more = more;
  bad = bad;
}

pub take_more_asks : (old new : List Line) (asks : List AskLine) (i : ℕ) (ask : AskLine) (tolds : List Reply) → filter is_asked old ≡ map line_of (take i asks)
    → new ≡ old ++ (line_of ask ∷ map (λ told. Told told) tolds) → i < length asks → ask ≡ get_or asks i ask
    → filter is_asked new ≡ map line_of (take (i + 1) asks)
take_more_asks old new asks i ask tolds before taken below at =
    rw (taken, filter-append is_asked old, before, take_more asks i ask below, map-append, ← at)
    (ap (λ lines. map line_of (take i asks) ++ line_of ask ∷ lines) (filter-told tolds))
