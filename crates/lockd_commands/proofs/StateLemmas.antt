-- The head behind a trace, and its text.
use Rattle.std.proofs.Common.{◌≡◌, ℕ, ◌+◌, Some, Option, List, [], ◌∷◌, ◌++◌, codes, map, take, slice_get, append-nil, ap, refl, sym, subst, ◌∙◌}
use Rattle.std.proofs.Math.Numerals.{add-one}
use Rattle.std.proofs.Math.Seq.{take-suc}
use Rattle.std.proofs.lemmas.Grind.{flat_map-append}
use Rattle.std.proofs.lemmas.List.{map-append}
use Rattle.std.proofs.lemmas.Option.{get_or_from_slice_get, slice_get_within}
use Rattle.std.specs.Fmt.{decimal}
use Rattle.fl_core.specs.State.{Snapshot, snapshot_of}
use Rattle.fl_desk.specs.Heads.{begun_lines, head_lines}
use Rattle.fl_desk.specs.Leading.{GoesOn, LeadsTo, ends, goes, heads}
use Rattle.fl_desk.specs.Legal.{IsLegal}
use Rattle.fl_desk.specs.Replay.{state_after}
use Rattle.fl_history.specs.declared.history.Line.{Line}
use Rattle.fl_history.specs.declared.history.Line.TheVariants as line
use Rattle.fl_history.specs.Place.{place_of}
use Rattle.fl_audit.specs.First.{IsSoOfAll}
use Rattle.fl_judge.specs.Present.{IsPresent, told_lines}
use Rattle.fl_judge.specs.Verdicts.{DiffersAt}
use Rattle.fl_order.specs.declared.state_part.Head.{Head}
use Rattle.fl_order.specs.declared.state_part.StateLine.TheVariants as state
use Rattle.fl_order.specs.declared.state_part.StatePart.{StatePart}
use Rattle.fl_order.specs.declared.told.Told.{Told}
use Rattle.fl_trace.specs.Text.{line_text, text_of, Fits}
use Rattle.fl_waiting.specs.declared.rules.Rules.{Rules}
use Rattle.lockd_commands.specs.State.{IsHeadBehind, IsIllegal, IsStateOf}

-- the text of lines with one line more
pub text_more : (lines : List Line) (l : Line) → text_of (lines ++ l ∷ []) ≡ text_of lines ++ (line_text l ++ 10 ∷ [])
text_more lines l =
    flat_map-append (λ l. line_text l ++ 10 ∷ []) lines (l ∷ []) ∙ ap (λ t. text_of lines ++ t) (alone l)
  where
    alone : (l : Line) → text_of (l ∷ []) ≡ line_text l ++ 10 ∷ []
    alone l = append-nil (line_text l ++ 10 ∷ [])

-- a head so far with one part more
pub part_more : (head : Head) (parts : List StatePart) (at : ℕ) (p : StatePart) → slice_get parts at ≡ Some p
    → begun_lines head (take (at + 1) parts) ≡ begun_lines head (take at parts) ++ line.State (state.Part p) ∷ []
part_more head parts at p is =
    ap (begun_lines head) (ap (λ k. take k parts) (add-one at) ∙ take-suc parts at p (slice_get_within parts at p is)
    ∙ ap (λ x. take at parts ++ x ∷ []) (get_or_from_slice_get parts at p p is))
    ∙ ap (λ ls. line.State (state.Head head) ∷ ls) (map-append (λ q. line.State (state.Part q)) (take at parts) (p ∷ []))

-- what is said of the lines of a judge, who judges by its own rules
pub told : (rules own : Rules) (left : Option (List ℕ)) (lines : List Line) (text : List ℕ) → own ≡ rules
    → IsSoOfAll left (λ bytes. (bytes ≡ text_of lines) × Fits lines) → IsHeadBehind own lines text → IsStateOf rules left text
told rules own left lines text same read behind =
    record { lines = lines; read = read; behind = subst (λ r. IsHeadBehind r lines text) same behind }

pub illegal : (rules own : Rules) (left : Option (List ℕ)) (lines : List Line) (n : ℕ) (text : List ℕ) → own ≡ rules
    → IsSoOfAll left (λ bytes. (bytes ≡ text_of lines) × Fits lines) → DiffersAt own lines n
    → text ≡ codes "differs " ++ (decimal n ++ 10 ∷ []) → IsIllegal rules left text
illegal rules own left lines n text same read differs said =
    record { lines = lines; read = read; line = n; differs = subst (λ r. DiffersAt r lines n) same differs; said = said }

-- ---- what is there after a legal history lacks no reply

only_replies : (before : List Line) (p : Snapshot) (missing : List Told) → GoesOn before p (told_lines missing) → missing ≡ []
only_replies before p [] on = refl
only_replies before p (m ∷ missing) (ends none) = absurd (cc none)
only_replies before p (m ∷ missing) (goes worker order rest e) = absurd (cc e)
only_replies before p (m ∷ missing) (heads first head rest e) = absurd (cc e)

pub record Legal : Type 0 where
  pub leads : (rules : Rules) (lines : List Line) → IsLegal rules lines → LeadsTo lines (snapshot_of (state_after rules lines))
  pub rules : (rules : Rules) (lines : List Line) → (state_after rules lines).rules ≡ rules
  pub next : (before rest : List Line) (p : Snapshot) → LeadsTo before p → IsLegal p.rules (before ++ rest) → GoesOn before p rest

pub present_is : Legal → (rules : Rules) (lines : List Line) (p : Snapshot) → IsLegal rules lines → IsPresent rules lines p
    → p ≡ snapshot_of (state_after rules lines)
present_is laws rules lines p legal is =
    let q : Snapshot = snapshot_of (state_after rules lines) in
    let on : GoesOn lines q (told_lines is.missing) = laws.next lines (told_lines is.missing) q (laws.leads rules lines legal)
    (subst (λ r. IsLegal r (lines ++ told_lines is.missing)) (is.under ∙ sym (laws.rules rules lines)) is.leads.legal) in
    let all : lines ++ told_lines is.missing ≡ lines =
    ap (λ m. lines ++ told_lines m) (only_replies lines q is.missing on) ∙ append-nil lines in
    is.leads.stands ∙ (λ i. snapshot_of (state_after (is.under i) (all i)))

pub head_is : Legal → (rules : Rules) (lines : List Line) (p : Snapshot) (head : Head) (parts : List StatePart) (text : List ℕ)
    → IsLegal rules lines → IsPresent rules lines p → LeadsTo (head_lines head parts) p → head.lines ≡ (place_of lines).lines
    → text ≡ text_of (head_lines head parts) → IsHeadBehind rules lines text
head_is laws rules lines p head parts text legal is leads place spelled = record {
  legal = legal;
  head = head;
  parts = parts;
  leads = subst (LeadsTo (head_lines head parts)) (present_is laws rules lines p legal is) leads;
  place = place;
  spelled = spelled;
}
